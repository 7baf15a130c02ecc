use Rattle.std.proofs.Common.{◌≡◌, ◌++◌, drop, map}
use Rattle.gql_schema.proofs.built_in_making.all_of.Given as goal

-- what is made and what is left make the whole
abbrev pub invariant-loop-row : goal.invariant-loop-row
invariant-loop-row g l =
    l.list ++ map (g.T.FromRow.meaning l.source.text.now l.source.file_id) (drop l.row-index l.rows) ≡ map (g.T.FromRow.meaning l.source.text.now l.source.file_id) l.rows
