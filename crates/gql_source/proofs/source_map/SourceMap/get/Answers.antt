use Rattle.std.proofs.Common.{◌∙◌, ap}
use Rattle.std.specs.Option.{option_copied}
use Rattle.std.specs.Map.{lookup}
use Rattle.gql_source.specs.File.{is_file}
use Rattle.gql_source.proofs.Files.{lookup-found, lookup-absent}
use Rattle.gql_source.proofs.source_map.SourceMap.get.Goals as goal

pub returns-in_err-at : goal.returns-in_err-at
returns-in_err-at c =
    ap option_copied c.from_residual.ensures ∙ lookup-absent c.args.id c.self.inside.entries.items (rw c.deref.ensures.value at c.in_err-at.ensures) ∙ ap (lookup (is_file c.args.id)) c.self.view_is

pub returns : goal.returns
returns c =
    lookup-found c.args.id c.self.inside.entries.items c.in_ok-at.at c.index.result.now (rw c.deref.ensures.value at c.in_ok-at.ensures) c.index.ensures ∙ ap (lookup (is_file c.args.id)) c.self.view_is
