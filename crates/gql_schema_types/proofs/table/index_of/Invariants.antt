use Rattle.std.proofs.Common.{◌≡◌, take}
use Rattle.gql_schema_types.specs.Entries.{texts}
use Rattle.gql_schema_types.proofs.table.index_of.Given as goal

abbrev pub invariant-loop-entry : goal.invariant-loop-entry
invariant-loop-entry g l = l.names ≡ take l.entry-index (texts g.T.Named.own l.entries)
