-- What only private clauses and proofs cite, beside `TypesRead`.
use Rattle.std.specs.Prelude.{◌≡◌, Some, None, IsSome, Result, Ok, Err}
use Rattle.jb_text.specs.declared.refused.Refused.{Refused}
use Rattle.jb_text.specs.declared.refused.Refused.TheVariants.{Fault, Memory}
use Rattle.gql_lexer.specs.declared.error.CstError.{CstError}
use Rattle.gql_cst.specs.declared.limits.Parsed.{Parsed}
use Rattle.gql_cst.specs.Forest.{plain}
use Rattle.gql_ast_base.specs.declared.type_ref.TypeRef.{TypeRef}
use Rattle.gql_ast_base.specs.Types.{type_of}
use Rattle.gql_diag.specs.List.{Diagnostics}
use Rattle.gql_parser.specs.Parsers.{Given}
use Rattle.gql_parser.specs.Diagnosed.{list_of}

-- ---- the same of a parse that is there

-- without an error its tree refers to a type
abbrev pub IsComplete : Given → Parsed → Type 0
IsComplete given parsed = parsed.error ≡ None → IsSome (type_of given.text given.file (plain parsed.tree))

abbrev pub IsTypeOfParse : Given → Parsed → Result TypeRef (Refused Diagnostics) → Type 0
IsTypeOfParse given parsed (Ok ty) = (parsed.error ≡ None) × (type_of given.text given.file (plain parsed.tree) ≡ Some ty)
IsTypeOfParse given parsed (Err (Fault errors)) = (error : CstError) × (parsed.error ≡ Some error) × (errors ≡ list_of given error)
IsTypeOfParse given parsed (Err Memory) = Unit {0}
