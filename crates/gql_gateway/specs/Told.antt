-- What a client is told of a refusal: the errors of an object with errors alone (GraphQL October 2021, section 7.1.2).
use Rattle.std.specs.Prelude.{ℕ, List, [], ◌∷◌, ◌++◌, Option, Some, None, codes}
use Rattle.gql_ast_base.specs.Names.{Named}
use Rattle.gql_diag.specs.Refusal.{message_error}
use Rattle.gql_engine.specs.Told.{IsJsonOf, errors_told}
use Rattle.gql_engine.specs.declared.answer_error.AnswerError.{AnswerError}
use Rattle.gql_engine.specs.declared.answer_error.AnswerError.TheVariants as error
use Rattle.gql_response.specs.declared.graphql_error.GraphQLError.{GraphQLError}
use Rattle.gql_gateway.specs.declared.gateway_error.GatewayError.{GatewayError}
use Rattle.gql_gateway.specs.declared.gateway_error.GatewayError.TheVariants.{Answer, TooLarge, Remote, MissingKey, Memory}

abbrev pub missing_message : Named → List ℕ
missing_message key = codes "gateway: missing key '" ++ (key.text ++ codes "'")

-- none where memory ran out
abbrev pub gateway_errors : GatewayError → Option (List GraphQLError)
gateway_errors (Answer refusal) = errors_told refusal
gateway_errors TooLarge = Some (message_error (codes "gateway: expansion too large") ∷ [])
gateway_errors Remote = Some (message_error (codes "gateway: remote failed") ∷ [])
gateway_errors (MissingKey key) = Some (message_error (missing_message key) ∷ [])
gateway_errors Memory = None

abbrev pub IsGatewayTold : GatewayError → List ℕ → Type 0
IsGatewayTold refusal text = IsJsonOf (gateway_errors refusal) text

-- ---- refusals of what stands below

abbrev pub of_answer : AnswerError → GatewayError
of_answer error.Memory = Memory
of_answer (error.Variables why) = Answer (error.Variables why)
of_answer (error.Schema list) = Answer (error.Schema list)
of_answer (error.Document list) = Answer (error.Document list)
of_answer (error.Request kind told) = Answer (error.Request kind told)
