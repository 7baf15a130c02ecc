use Rattle.std.proofs.Common.{◌<◌, [], sym, subst}
use Rattle.gql_graph.specs.bridge.Explored.{class_of, IsExplored}
use Rattle.gql_rules_merging.proofs.FamilySets.{fields_length}
use Rattle.gql_rules_merging.proofs.ObjectFamilies.{shaped_within}
use Rattle.gql_rules_merging.proofs.SmallFacts.{keys_within}
use Rattle.gql_rules_merging.specs.bridge.Families.{AreShaped, sets_over}
use Rattle.gql_rules_merging.specs.bridge.Gathering.{fields_of, numbered_of}
use Rattle.gql_rules_merging.proofs.object_families.have_one_shape.Goals as goal

pub gathered-requires : goal.gathered-requires
gathered-requires c number within =
    let held = c.args.numbered.now.fields in
    let shaped : AreShaped c.args.types.now (fields_of held) c.args.families.now =
    subst (λ l. AreShaped c.args.types.now (fields_of l) c.args.families.now) c.as_slice.ensures (c.all_shaped.ensures c.if-not-all_shaped.false) in
    subst (λ n. class_of c.args.families.now number < n) (fields_length held)
    (shaped_within c.args.types.now (fields_of held) c.args.families.now shaped number (subst (λ n. number < n) (sym (fields_length held)) within))

pub is_unmet-requires : goal.is_unmet-requires
is_unmet-requires c = keys_within (fields_of c.args.numbered.now.fields) c.args.keys.now c.requires

pub returns : goal.returns
returns c have =
    let document = numbered_of c.args.numbered.now in
    record {
      shaped = subst (λ l. AreShaped c.args.types.now (fields_of l) c.args.families.now) c.as_slice.ensures (c.all_shaped.ensures c.if-not-all_shaped.false);
      rows = c.in_ok-rows.rows;
      gathered = c.in_ok-rows.ensures;
      closed = subst (λ keys. IsExplored (sets_over c.args.types.now document c.in_ok-rows.rows keys) c.args.families.now []) c.requires (c.in_ok-none_meet.ensures have);
    }
