use Rattle.std.proofs.Common.{◌∙◌, ap}
use Rattle.gql_source.specs.File.{are_distinct}
use Rattle.gql_source.proofs.Joined.{are_distinct-take}
use Rattle.gql_source.proofs.source_map.SourceMap.truncate.Goals as goal

pub invariant_of-self : goal.invariant_of-self
invariant_of-self c =
    ap are_distinct c.truncate.ensures.items ∙ are_distinct-take c.args.count c.self.inside.entries.items c.self.invariant
