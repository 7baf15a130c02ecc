use Rattle.std.proofs.Common.{◌≡◌, ◌≤◌, ◌+◌, [], ◌∷◌, sym, subst}
use Rattle.gql_document_types.specs.Spreads.{spread_graph}
use Rattle.gql_document_types.specs.Ranks.{AreRanked}
use Rattle.gql_collect.specs.Collected.{sets_of}
use Rattle.gql_collect.specs.Plan.{groups_in}
use Rattle.gql_collect.specs.bridge.Plan.{Ground, ArePartsOf, IsWithin, most_looks}
use Rattle.gql_collect.specs.bridge.Room.{HasRoom}
use Rattle.gql_collect.proofs.Room.{room-root}
use Rattle.gql_exec.specs.RequestWorld.{plain_world}
use Rattle.gql_exec.specs.Execution.{request_in}
use Rattle.gql_exec.specs.bridge.Trails.{trail_of}
use Rattle.gql_exec.specs.declared.executing.Executing.{Executing}
use Rattle.gql_exec.specs.declared.path.Path.TheVariants.{Root}
use Rattle.gql_exec.proofs.Collecting.{one-set, views-run}
use Rattle.gql_exec.proofs.Groups.{executed-sets}
use Rattle.gql_exec.proofs.Looking.{looks-of}
use Rattle.gql_collect.proofs.Acyclic.{spreads-ranked}
use Rattle.gql_exec.proofs.Responses.{answered-alone}
use Rattle.gql_exec.proofs.Views.{views}
use Rattle.gql_exec.proofs.Ways.{trail-root}
use Rattle.gql_exec.proofs.execution.Execution.run.Goals as goal

pub returns : goal.returns
returns g c =
    let all = c.args.self.now.document.now.fragments in
    let ranked = c.acyclic_graphs_have_ranks.ensures (spread_graph all) c.requires in
    let r = request_in c.args.self.now c.args.variables.now g.O.ObjectValue.type_of g.O.ObjectValue.resolves in
    let root = c.args.root.now in
    let x = g.O.ObjectValue.seen c.args.initial.now in
    let selections = c.args.operation.now.selection_set.selections in
    let alone : sets_of c.add.new.self ≡ selections ∷ [] = one-set c.new-pieces.result c.add.new.self _ c.new-pieces.ensures c.in_ok-add.ensures.added in
    let sets = sets_of c.add.new.self in
    let parts = subst (λ it. ArePartsOf it root sets c.in_ok-parts.parts) c.planner.ensures c.in_ok-parts.ensures.parts in
    let groups = groups_in c.in_ok-parts.parts in
    let found = c.in_ok-members.ensures.executed.found in
    let after = c.execute_parts.new.errors in
    let executes = executed-sets (plain_world r) root x (trail_of Root) sets (views groups) found c.new-errors.result after (views-run r root groups sets parts.0.groups) c.in_ok-members.ensures.executed.hold in
    let answered = answered-alone r ranked.0 (spreads-ranked all ranked.0 ranked.1) root x selections (trail_of Root) sets found c.new-errors.result after trail-root alone c.new-errors.ensures executes in
    let e : Executing = record {
      alloc = c.args.alloc;
      request = record { schema = c.args.self.now.schema; implementers_map = c.args.implementers_map; document = c.args.self.now.document };
      operation = c.args.operation;
      variables = c.args.variables;
      introspection = c.args.self.now.introspection;
    } in
    let few = subst (λ it. c.parts.new.steps ≤ c.args.steps.now + most_looks it) c.planner.ensures c.parts.ensures.looks in
    record {
      found = found;
      are = c.in_ok-members.ensures.executed.are;
      hold = (
        answered.0,
        answered.1,
        looks-of e g.O.ObjectValue.type_of g.O.ObjectValue.resolves root x sets alone c.args.steps.now c.parts.new.steps c.execute_parts.new.steps
            c.in_ok-parts.parts c.execute_parts.new.parts parts c.in_ok-parts.ensures.fresh few c.in_ok-parts.ensures.counted c.in_ok-members.ensures.same c.in_ok-members.ensures.planned c.in_ok-members.ensures.grows,
      );
    }

pub parts-requires : goal.parts-requires
parts-requires g c =
    let all = c.args.self.now.document.now.fragments in
    let ranked = c.acyclic_graphs_have_ranks.ensures (spread_graph all) c.requires in
    let operation = c.args.operation.now.selection_set.selections in
    let alone : sets_of c.add.new.self ≡ operation ∷ [] = one-set c.new-pieces.result c.add.new.self _ c.new-pieces.ensures c.in_ok-add.ensures.added in
    record {
      ranked = (ranked.0, subst (λ (it : Ground). AreRanked it.fragments ranked.0) (sym c.planner.ensures) (spreads-ranked all ranked.0 ranked.1));
      within = subst (λ (it : Ground). IsWithin it (sets_of c.add.new.self)) (sym c.planner.ensures) (subst (HasRoom all operation) (sym alone) (room-root all operation));
    }

pub execute_parts-requires : goal.execute_parts-requires
execute_parts-requires g c =
    let all = c.args.self.now.document.now.fragments in
    let ranked = c.acyclic_graphs_have_ranks.ensures (spread_graph all) c.requires in
    record {
      ranked = (ranked.0, spreads-ranked all ranked.0 ranked.1);
      planned = (sets_of c.add.new.self, subst (λ it. ArePartsOf it c.args.root.now (sets_of c.add.new.self) c.in_ok-parts.parts) c.planner.ensures c.in_ok-parts.ensures.parts);
    }
