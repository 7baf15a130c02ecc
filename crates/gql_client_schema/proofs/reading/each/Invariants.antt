use Rattle.std.proofs.Common.{[], drop}
use Rattle.gql_client_schema.specs.Reading.{read_items}
use Rattle.gql_client_schema.proofs.Readings.{Resumes}
use Rattle.gql_client_schema.proofs.reading.each.Given as goal

-- what the items from here on come to is what all come to
abbrev pub invariant-loop-index : goal.invariant-loop-index
invariant-loop-index g l = Resumes (read_items g.T.Read.reading l.index l.items (drop l.index l.values)) (read_items g.T.Read.reading 0 [] l.values)
