use Rattle.std.proofs.Common.{sym, ◌∙◌}
use Rattle.gql_schema.proofs.Cut.{cut}
use Rattle.gql_schema.proofs.built_in_making.name_at.Goals as goal

pub returns-in-Some : goal.returns-in-Some
returns-in-Some c =
    cut c.args.source.now.text.now c.args.source.now.file_id c.args.place c.in-Some.name (sym c.in-Some.is ∙ c.in_ok-found.ensures)
