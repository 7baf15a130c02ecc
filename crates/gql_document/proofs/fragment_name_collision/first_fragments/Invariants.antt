use Rattle.std.proofs.Common.{◌≡◌, ◌++◌, map}
use Rattle.gql_schema_types.specs.Entries.{joined, repeats}
use Rattle.gql_document.specs.FragmentNameCollision.{fragment_name, first_fragments, fragment_name_collision, fragment_name_collisions}
use Rattle.gql_document.proofs.fragment_name_collision.first_fragments.Given as goal

-- what is there and what is left make the whole
abbrev pub invariant-loop-fragment : goal.invariant-loop-fragment
invariant-loop-fragment l = record {
  fragments : joined fragment_name l.table l.fragment-iterator ≡ first_fragments l.fn.fragments;
  faults : l.faults ++ map fragment_name_collision (repeats fragment_name l.table l.fragment-iterator) ≡ l.fn.faults ++ fragment_name_collisions l.fn.fragments;
}
