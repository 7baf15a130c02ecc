-- What a client is told of a refusal: the errors of an object with errors alone (GraphQL October 2021, section 7.1.2).
use Rattle.std.specs.Prelude.{◌≡◌, ℕ, List, [], ◌∷◌, ◌++◌, Option, Some, None, codes}
use Rattle.std.specs.Fmt.{decimal}
use Rattle.jb_print.specs.Compact.{compact}
use Rattle.jb_read.specs.KindName.{kind_name}
use Rattle.gql_diag.specs.Refusal.{errors_of, message_error, refusal_value}
use Rattle.gql_response.specs.declared.graphql_error.GraphQLError.{GraphQLError}
use Rattle.gql_engine.specs.declared.answer_error.VariablesFault.{VariablesFault}
use Rattle.gql_engine.specs.declared.answer_error.VariablesFault.TheVariants.{Read, NotObject}
use Rattle.gql_engine.specs.declared.answer_error.AnswerError.{AnswerError}
use Rattle.gql_engine.specs.declared.answer_error.AnswerError.TheVariants as error

abbrev pub variables_message : VariablesFault → List ℕ
variables_message (Read fault) = codes "variables: " ++ (kind_name fault.kind ++ (codes " at byte " ++ decimal fault.place))
variables_message NotObject = codes "variables: not an object"

-- none where memory ran out
abbrev pub errors_told : AnswerError → Option (List GraphQLError)
errors_told (error.Variables fault) = Some (message_error (variables_message fault) ∷ [])
errors_told (error.Schema list) = Some (errors_of list)
errors_told (error.Document list) = Some (errors_of list)
errors_told (error.Request step told) = Some (told ∷ [])
errors_told error.Memory = None

-- the text is the JSON of these errors, if there are any to tell
abbrev pub IsJsonOf : Option (List GraphQLError) → List ℕ → Type 0
IsJsonOf (Some errors) text = text ≡ compact (refusal_value errors)
IsJsonOf None text = ⊥

abbrev pub IsToldOf : AnswerError → List ℕ → Type 0
IsToldOf refusal text = IsJsonOf (errors_told refusal) text
