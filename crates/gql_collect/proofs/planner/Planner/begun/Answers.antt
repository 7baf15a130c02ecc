use Rattle.std.proofs.Common.{◌≡◌, List, [], ◌++◌, sym, ap, ◌∙◌, subst}
use Rattle.std.specs.List.{AllByRecursion}
use Rattle.std.proofs.lemmas.List.{append-nil}
use Rattle.gql_collect.specs.Plan.{fields_in, groups_in}
use Rattle.gql_collect.specs.bridge.Plan.{IsPlanned, ground_of, nodes_in}
use Rattle.gql_collect.specs.declared.plan.Part.{Part}
use Rattle.gql_collect.specs.declared.planned_field.PlannedField.{PlannedField}
use Rattle.gql_collect.proofs.Fields.{fields-more}
use Rattle.gql_collect.proofs.Lists.{all-more}
use Rattle.gql_collect.proofs.Nodes.{begun-more}
use Rattle.gql_collect.proofs.planner.Planner.begun.Goals as goal

pub loop-group-init : goal.loop-group-init
loop-group-init c =
    let planned = IsPlanned (ground_of c.args.self.now) c.args.object_type.now in
    record {
      same = ap (λ parts. groups_in parts ++ c.into_iter-group-iterator.result) c.new-parts.ensures ∙ c.into_iter-group-iterator.ensures.into_iter_gives;
      planned = subst (λ (parts : List Part). AllByRecursion planned (fields_in parts)) (sym c.new-parts.ensures) tt;
      fresh = subst (AllByRecursion (λ part. nodes_in part ≡ [])) (sym c.new-parts.ensures) tt;
    }

pub loop-group-preserved : goal.loop-group-preserved
loop-group-preserved c =
    let planned = IsPlanned (ground_of c.args.self.now) c.args.object_type.now in
    let grouped = ap (λ (field : PlannedField). field.group) c.new.ensures.field ∙ c.in_ok-field.ensures.group in
    record {
      same = ap (λ parts. groups_in parts ++ c.next.new.self) c.in_ok-push.ensures.pushed
          ∙ begun-more c.loop-group.parts c.new.result c.in-Some.group c.loop-group.group-iterator c.next.new.self c.args.groups grouped
          c.in-Some.ensures.steps c.loop-group.invariant.same;
      planned = subst (λ (parts : List Part). AllByRecursion planned (fields_in parts)) (sym c.in_ok-push.ensures.pushed)
          (fields-more planned c.loop-group.parts c.new.result c.loop-group.invariant.planned
          (subst planned (sym c.new.ensures.field) c.in_ok-field.ensures.planned));
      fresh = subst (AllByRecursion (λ part. nodes_in part ≡ [])) (sym c.in_ok-push.ensures.pushed)
          (all-more (λ part. nodes_in part ≡ []) c.loop-group.parts c.new.result c.loop-group.invariant.fresh c.new.ensures.nodes);
    }

pub returns : goal.returns
returns c = record {
  same = sym (append-nil (groups_in c.loop-group.parts)) ∙ ap (λ groups. groups_in c.loop-group.parts ++ groups) (sym c.in-None.ensures.steps.0) ∙ c.loop-group.invariant.same;
  planned = c.loop-group.invariant.planned;
  fresh = c.loop-group.invariant.fresh;
}
