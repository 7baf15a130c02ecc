use Rattle.std.proofs.Common.{◌≡◌, [], map}
use Rattle.gql_document_types.specs.RootFields.{fragment_name}
use Rattle.gql_rules.specs.UntypedDocument.{untyped_fragment}
use Rattle.gql_rules.proofs.untyped_document.untyped_fragments.Given as goal
use Rattle.gql_schema_types.specs.Entries.{joined}

-- what is there and what is left make the whole
abbrev pub invariant-loop-fragment : goal.invariant-loop-fragment
invariant-loop-fragment l =
    joined fragment_name l.table (map untyped_fragment l.fragment-iterator) ≡ joined fragment_name [] (map untyped_fragment l.fn.fragments)
