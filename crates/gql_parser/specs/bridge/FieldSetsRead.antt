-- What only private clauses and proofs cite, beside `FieldSetsRead`.
use Rattle.std.specs.Prelude.{◌≡◌, ◌⊎◌, ◌++◌, List, [], Some, None}
use Rattle.gql_source.specs.declared.file_id.FileId.{FileId}
use Rattle.gql_lexer.specs.declared.error.CstError.{CstError}
use Rattle.gql_grammar.specs.declared.syntax_kind.SyntaxKind.TheVariants as kind
use Rattle.gql_cst.specs.declared.limits.Parsed.{Parsed}
use Rattle.gql_cst.specs.declared.tree.Tree.{Tree}
use Rattle.gql_cst.specs.Forest.{plain}
use Rattle.gql_ast_base.specs.Parts.{Text, gather, inside}
use Rattle.gql_ast.specs.declared.selection.Selection.{Selection}
use Rattle.gql_ast.specs.Selections.{selection_of}
use Rattle.gql_diag.specs.List.{Diagnostics}
use Rattle.gql_parser.specs.Parsers.{Given}
use Rattle.gql_parser.specs.Diagnosed.{list_of}
use Rattle.gql_parser.specs.FieldSetsRead.{nothing_told}

-- ---- the same of a parse that is there

-- the selections in its tree, within braces and without
abbrev pub selections_in : Text → FileId → Tree → List Selection
selections_in text file tree =
    gather (selection_of text file) (inside kind.SelectionSet (plain tree).children) ++ gather (selection_of text file) (plain tree).children

abbrev pub AreSelectionsOfParse : Given → Parsed → List Selection → Diagnostics → Type 0
AreSelectionsOfParse given parsed read errors =
    ((parsed.error ≡ None) × (read ≡ selections_in given.text given.file parsed.tree) × (errors ≡ nothing_told given))
    ⊎ ((error : CstError) × (parsed.error ≡ Some error) × (read ≡ []) × (errors ≡ list_of given error))
