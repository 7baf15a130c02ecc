-- What comes of a file that is read as a reference to a type.
use Rattle.std.specs.Prelude.{◌≡◌, Result, Ok, Err}
use Rattle.jb_text.specs.declared.refused.Refused.{Refused}
use Rattle.jb_text.specs.declared.refused.Refused.TheVariants.{Fault, Memory}
use Rattle.gql_lexer.specs.declared.error.CstError.{CstError}
use Rattle.gql_grammar.specs.declared.rule.Rule.TheVariants.{TypeReference}
use Rattle.gql_cst.specs.Report.{Report}
use Rattle.gql_ast_base.specs.declared.type_ref.TypeRef.{TypeRef}
use Rattle.gql_ast_laws.specs.Meant.{IsTypeOf}
use Rattle.gql_diag.specs.List.{Diagnostics}
use Rattle.gql_parser.specs.Parsers.{ParserState, Given}
use Rattle.gql_parser.specs.Readings.{IsWhole, IsStopped}
use Rattle.gql_parser.specs.Diagnosed.{list_of}

-- the text is a reference to this type
pub record IsTypeRead (parser : ParserState) (given : Given) (ty : TypeRef) : Type 0 where
  pub report : Report
  pub whole : IsWhole parser TypeReference given.text report
  pub means : IsTypeOf given.text given.file ty

-- it is none, and the one diagnostic tells why
pub record IsTypeStopped (parser : ParserState) (given : Given) (errors : Diagnostics) : Type 0 where
  pub report : Report
  pub error : CstError
  pub stopped : IsStopped parser TypeReference given.text report error
  pub told : errors ≡ list_of given error

abbrev pub IsTypeAnswer : ParserState → Given → Result TypeRef (Refused Diagnostics) → Type 0
IsTypeAnswer parser given (Ok ty) = IsTypeRead parser given ty
IsTypeAnswer parser given (Err (Fault errors)) = IsTypeStopped parser given errors
IsTypeAnswer parser given (Err Memory) = Unit {0}
