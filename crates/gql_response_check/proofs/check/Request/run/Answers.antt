use Rattle.std.proofs.Common.{rules, ◌≡◌, [], ◌∷◌, sym, subst}
use Rattle.std.specs.Option.{option_copied}
use Rattle.gql_document_types.specs.Spreads.{spread_graph}
use Rattle.gql_collect.specs.Collected.{sets_of}
use Rattle.gql_collect.specs.Plan.{groups_in}
use Rattle.gql_collect.specs.bridge.Plan.{Ground, ArePartsOf, IsWithin}
use Rattle.gql_collect.specs.bridge.Room.{HasRoom}
use Rattle.gql_collect.proofs.Room.{room-root}
use Rattle.gql_exec.proofs.Collecting.{one-set}
use Rattle.gql_exec.proofs.Ways.{trail-root}
use Rattle.gql_exec.specs.bridge.Trails.{trail_of}
use Rattle.gql_exec.specs.declared.executing.Executing.{Executing}
use Rattle.gql_exec.specs.declared.path.Path.TheVariants.{Root}
use Rattle.gql_collect.proofs.Acyclic.{spreads-ranked}
use Rattle.gql_response_check.specs.bridge.Views.{claims_of}
use Rattle.gql_response_check.proofs.Judging.{verdict-found}
use Rattle.gql_response_check.proofs.check.Request.run.Goals as goal

pub parts-requires-clause-within : goal.parts-requires-clause-within
parts-requires-clause-within g c =
    let all = c.args.self.now.document.now.fragments in
    let operation = c.args.operation.now.selection_set.selections in
    let alone : sets_of c.add.new.self ≡ operation ∷ [] = one-set c.new-pieces.result c.add.new.self _ c.new-pieces.ensures c.in_ok-add.ensures.added in
    subst (λ (it : Ground). IsWithin it (sets_of c.add.new.self)) (sym c.planner.ensures) (subst (HasRoom all operation) (sym alone) (room-root all operation))

pub check_parts-requires-clause-ranked : goal.check_parts-requires-clause-ranked
check_parts-requires-clause-ranked g c =
    let all = c.args.self.now.document.now.fragments in
    let ranked = c.acyclic_graphs_have_ranks.ensures (spread_graph all) c.requires.acyclic in
    (ranked.0, spreads-ranked all ranked.0 ranked.1)

pub check_parts-requires-clause-planned : goal.check_parts-requires-clause-planned
check_parts-requires-clause-planned g c =
    (sets_of c.add.new.self, subst (λ it. ArePartsOf it c.args.object_type.now (sets_of c.add.new.self) c.in_ok-parts.parts) c.planner.ensures c.in_ok-parts.ensures.parts)

pub returns : goal.returns
returns g c =
    let all = c.args.self.now.document.now.fragments in
    let ranked = c.acyclic_graphs_have_ranks.ensures (spread_graph all) c.requires.acyclic in
    let U = c.args.object_type.now in
    let selections = c.args.operation.now.selection_set.selections in
    let alone : sets_of c.add.new.self ≡ selections ∷ [] = one-set c.new-pieces.result c.add.new.self _ c.new-pieces.ensures c.in_ok-add.ensures.added in
    let parts = subst (λ it. ArePartsOf it U (sets_of c.add.new.self) c.in_ok-parts.parts) c.planner.ensures c.in_ok-parts.ensures.parts in
    let e : Executing = record {
      alloc = c.args.alloc;
      request = record { schema = c.args.self.now.schema; implementers_map = c.args.implementers_map; document = c.args.self.now.document };
      operation = c.args.operation;
      variables = c.args.self.now.variables;
      introspection = c.args.self.now.introspection;
    } in
    verdict-found e g.O.ObjectValue.type_of g.O.ObjectValue.resolves ranked.0 (spreads-ranked all ranked.0 ranked.1) U (g.O.ObjectValue.seen c.args.root.now) selections c.args.response.now
    (groups_in c.in_ok-parts.parts) (sets_of c.add.new.self) alone parts.0.groups (trail_of Root) (option_copied c.with_keys-members.result) c.is_some.result (claims_of c.as_slice-2.result.now)
    c.in_ok-findings.findings c.check_parts.new.findings c.in_ok-passes.passes c.verdict.result trail-root (search rules) (search rules) (search rules) (search rules)
    c.in_ok-passes.ensures.found c.verdict.ensures
