use Rattle.std.proofs.Common.{◌≡◌, ◌++◌, [], map}
use Rattle.gql_schema_types.specs.Entries.{joined, repeats}
use Rattle.gql_schema_build.specs.Faults.{collision_of, collisions}
use Rattle.gql_schema_build.proofs.distinct.distinct.Given as goal

-- what is there and what is left make the whole
abbrev pub invariant-loop-item : goal.invariant-loop-item
invariant-loop-item g l = record {
  table : joined g.T.Named.own l.table l.item-iterator ≡ joined g.T.Named.own [] l.fn.items;
  faults : l.faults ++ map (collision_of g.T.Named.own l.rule l.owner) (repeats g.T.Named.own l.table l.item-iterator)
      ≡ l.fn.faults ++ collisions g.T.Named.own l.rule l.owner l.fn.items;
}
