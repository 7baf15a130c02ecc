use Rattle.std.proofs.Common.{◌<◌, [], sym, subst}
use Rattle.gql_graph.specs.bridge.Explored.{class_of, IsExplored}
use Rattle.gql_rules_merging.proofs.Agreement.{families_within, none_break}
use Rattle.gql_rules_merging.proofs.FamilySets.{fields_length}
use Rattle.gql_rules_merging.proofs.SmallFacts.{keys_within}
use Rattle.gql_rules_merging.specs.bridge.Families.{sets_over}
use Rattle.gql_rules_merging.specs.bridge.Gathering.{fields_of, numbered_of}
use Rattle.gql_rules_merging.proofs.families.are_closed.Goals as goal

pub gathered-requires : goal.gathered-requires
gathered-requires c number within =
    let held = c.args.numbered.now.fields in
    subst (λ n. class_of c.args.families.now number < n) (fields_length held)
    (families_within c.args.types.now (fields_of held) c.args.families.now c.requires.agreed number (subst (λ n. number < n) (sym (fields_length held)) within))

pub is_unmet-requires : goal.is_unmet-requires
is_unmet-requires c = keys_within (fields_of c.args.numbered.now.fields) c.args.keys.now c.requires.keys

pub returns : goal.returns
returns c closed =
    let document = numbered_of c.args.numbered.now in
    none_break c.args.types.now document c.args.families.now c.in_ok-rows.rows c.requires.agreed c.in_ok-rows.ensures
    (subst (λ keys. IsExplored (sets_over c.args.types.now document c.in_ok-rows.rows keys) c.args.families.now []) c.requires.keys (c.in_ok-none_meet.ensures closed))
