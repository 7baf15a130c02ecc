use Rattle.std.proofs.Common.{List, sym, subst}
use Rattle.gql_document_types.specs.declared.selection.Selection.{Selection}
use Rattle.gql_collect.specs.bridge.Growth.{AreFresh}
use Rattle.gql_collect.specs.declared.plan.Part.{Part}
use Rattle.gql_collect.specs.bridge.Plan.{ArePartsOf, IsWithin, ground_of, sets_below}
use Rattle.gql_collect.proofs.planner.Planner.add_node.Goals as goal

pub parts-requires : goal.parts-requires
parts-requires g c = record {
  ranked = c.requires.ranked;
  within = subst (λ (ss : List (List Selection)). IsWithin (ground_of c.args.self.now) ss) (sym c.in_ok-pieces.ensures) c.requires.within;
}

pub returns-clause-added : goal.returns-clause-added
returns-clause-added g c =
    let ground = ground_of c.args.self.now in
    let U = c.args.object_type.now in
    let sets = sets_below c.args.group.now in
    record {
      node = c.new.result;
      added = c.in_ok-push.ensures.pushed;
      last = c.len-number.ensures;
      typed = c.new.ensures.typed;
      planned = subst (λ (parts : List Part). ArePartsOf ground U sets parts) (sym c.new.ensures.parts)
          (subst (λ (ss : List (List Selection)). ArePartsOf ground U ss c.in_ok-parts.parts) c.in_ok-pieces.ensures c.in_ok-parts.ensures.parts);
      fresh = subst (λ (parts : List Part). AreFresh parts) (sym c.new.ensures.parts) c.in_ok-parts.ensures.fresh;
    }
