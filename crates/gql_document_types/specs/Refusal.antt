-- When an operation is not expanded.
use Rattle.std.specs.Prelude.{ℕ, ◌<◌, List}
use Rattle.gql_document_types.specs.Count.{count}
use Rattle.gql_document_types.specs.Expanded.{expanded}
use Rattle.gql_document_types.specs.declared.expand.ExpandFault.{ExpandFault}
use Rattle.gql_document_types.specs.declared.fragment.Fragment.{Fragment}
use Rattle.gql_document_types.specs.declared.selection.Selection.{Selection}
use Rattle.jb_text.specs.declared.refused.Refused.{Refused}
use Rattle.jb_text.specs.declared.refused.Refused.TheVariants.{Fault, Memory}

-- more selections would stand there than the limit allows, or memory ran out
abbrev pub IsTooLarge : List Fragment → List Selection → ℕ → Refused ExpandFault → Type 0
IsTooLarge fragments selections limit (Fault fault) = limit < count (expanded fragments selections)
IsTooLarge fragments selections limit Memory = Unit {0}
