use Rattle.std.proofs.Common.{sym, ap, ◌∙◌}
use Rattle.gql_rules_merging.proofs.SmallFacts.{keys_within}
use Rattle.gql_rules_merging.proofs.ToldPairs.{sound_by}
use Rattle.gql_rules_merging.specs.bridge.Gathering.{fields_of, numbered_of}
use Rattle.gql_rules_merging.proofs.field_selection_merging.is_sound_by_classes.Goals as goal

pub explore-requires : goal.explore-requires
explore-requires c = keys_within (fields_of c.args.numbered.now.fields) c.args.keys.now c.requires.keys

pub returns : goal.returns
returns c sound =
    sound_by c.args.types.now (numbered_of c.args.numbered.now) (fields_of c.as_slice.result.now) c.args.keys.now c.args.classes.now c.in_ok-seen.seen c.as_slice-2.result.now
    (ap fields_of c.as_slice.ensures) c.requires.keys c.as_slice-2.ensures.pairs c.requires.classes c.in_ok-seen.ensures (sym c.are_sound.ensures ∙ sound)
