use Rattle.std.proofs.Common.{◌≡◌, [], fold}
use Rattle.std.specs.Vec.Iter.{into_iter_items}
use Rattle.gql_schema_types.specs.Entries.{put}
use Rattle.gql_document_types.specs.RootFields.{fragment_name as built_name}
use Rattle.gql_document.specs.Build as spec
use Rattle.gql_document.proofs.built_fragments.put_all.Given as goal

-- what is there and what is left make the whole
abbrev pub invariant-loop-fragment : goal.invariant-loop-fragment
invariant-loop-fragment l = fold (put built_name) l.made (spec.built_fragments l.schema (into_iter_items l.fragment-iterator)) ≡ fold (put built_name) [] (spec.built_fragments l.schema l.fn.fragments.items)
