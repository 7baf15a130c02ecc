use Rattle.std.proofs.Common.{ap}
use Rattle.std.specs.List.{flat_map}
use Rattle.gql_rules_merging.proofs.SmallFacts.{keys_within}
use Rattle.gql_rules_merging.proofs.ToldPairs.{told_each}
use Rattle.gql_rules_merging.specs.bridge.Gathering.{fields_of, numbered_of}
use Rattle.gql_rules_merging.specs.bridge.Telling.{told_of}
use Rattle.gql_rules_merging.proofs.field_selection_merging.list_each.Goals as goal

pub explore-requires : goal.explore-requires
explore-requires c = keys_within (fields_of c.args.numbered.now.fields) c.args.keys.now c.requires

pub returns : goal.returns
returns c =
    let fields = fields_of c.as_slice.result.now in
    let found = c.in_ok-seen.seen in (
      flat_map (told_of c.args.types.now fields found) c.as_slice-2.result.now,
      told_each c.args.types.now (numbered_of c.args.numbered.now) fields c.args.keys.now found c.as_slice-2.result.now (ap fields_of c.as_slice.ensures) c.requires c.as_slice-2.ensures.pairs
          c.as_slice-2.ensures.distinct c.in_ok-seen.ensures,
      c.in_ok-list_broken.ensures,
    )
