use Rattle.std.proofs.Common.{◌<◌, [], sym, subst}
use Rattle.gql_graph.specs.bridge.Explored.{class_of, IsExplored}
use Rattle.gql_rules_merging.proofs.Agreement.{families_within}
use Rattle.gql_rules_merging.proofs.FamilySets.{fields_length}
use Rattle.gql_rules_merging.specs.bridge.Families.{AreAgreed, sets_over}
use Rattle.gql_rules_merging.specs.bridge.Gathering.{fields_of, numbered_of}
use Rattle.gql_rules_merging.proofs.object_families.agree_in_groups.Goals as goal

pub gathered-requires : goal.gathered-requires
gathered-requires c number within =
    let held = c.args.numbered.now.fields in
    let agreed : AreAgreed c.args.types.now (fields_of held) c.args.groups.now =
    subst (λ l. AreAgreed c.args.types.now (fields_of l) c.args.groups.now) c.as_slice.ensures (c.all_agree.ensures c.if-not-all_agree.false) in
    subst (λ n. class_of c.args.groups.now number < n) (fields_length held)
    (families_within c.args.types.now (fields_of held) c.args.groups.now agreed number (subst (λ n. number < n) (sym (fields_length held)) within))

pub returns : goal.returns
returns c agree = record {
  agreed = subst (λ l. AreAgreed c.args.types.now (fields_of l) c.args.groups.now) c.as_slice.ensures (c.all_agree.ensures c.if-not-all_agree.false);
  rows = c.in_ok-rows.rows;
  gathered = c.in_ok-rows.ensures;
  closed = subst (λ keys. IsExplored (sets_over c.args.types.now (numbered_of c.args.numbered.now) c.in_ok-rows.rows keys) c.args.groups.now []) c.as_slice-2.ensures.value
      (c.in_ok-none_meet.ensures agree);
}
