use Rattle.std.proofs.Common.{List, ◌++◌, sym, subst}
use Rattle.std.proofs.lemmas.Result.{IfOk-weaker}
use Rattle.gql_collect.specs.Collected.{setting, sets_of}
use Rattle.gql_collect.specs.Grouping.{fields_in_groups, groups_seen}
use Rattle.gql_collect.specs.Groups.{SameGroups, applying}
use Rattle.gql_collect.specs.Standing.{NoneMoreOften, fields_in_all, fields_in_fragments}
use Rattle.gql_collect.specs.declared.group.Group.{Group}
use Rattle.gql_collect.specs.bridge.Growth.{AreBegun, AreFresh}
use Rattle.gql_collect.specs.bridge.Plan.{ArePartsOf, ground_of}
use Rattle.gql_collect.proofs.Acyclic.{ranked-acyclic}
use Rattle.gql_collect.proofs.Nodes.{HasGroups, begun-parts}
use Rattle.gql_collect.proofs.Room.{room-groups}
use Rattle.gql_schema_types.specs.declared.schema.Schema.{Schema}
use Rattle.gql_collect.proofs.planner.Planner.parts.Goals as goal

pub collect_fields-requires : goal.collect_fields-requires
collect_fields-requires g c = ranked-acyclic _ c.requires.ranked.0 c.requires.ranked.1

pub returns-clause-parts : goal.returns-clause-parts
returns-clause-parts g c =
    let ground = ground_of c.args.self.now in
    let U = c.args.object_type.now in
    let sets = sets_of c.args.pieces.now in
    let groups = c.into_groups.result in
    let seen = groups_seen c.in_ok-grouped.grouped in
    let by_schema = subst (λ (schema : Schema). SameGroups seen (applying (setting ground.fragments schema U c.as_ref-variables.result.now) sets))
    c.as_ref-schema.ensures c.in_ok-grouped.ensures.groups in
    let by_ground = subst (λ values. SameGroups seen (applying (setting ground.fragments ground.schema U values) sets)) c.as_ref-variables.ensures by_schema in
    let same = subst (HasGroups ground U sets) (sym c.into_groups.ensures) by_ground in
    let once = subst (λ (gs : List Group). NoneMoreOften (fields_in_groups (groups_seen gs)) (fields_in_all sets ++ fields_in_fragments ground.fragments))
    (sym c.into_groups.ensures) c.in_ok-grouped.ensures.once in
    let within = room-groups ground.fragments ground.operation sets groups c.requires.within once in
    IfOk-weaker c.begun.result (λ parts. AreBegun ground U groups parts) (λ parts. ArePartsOf ground U sets parts)
    (λ parts begun. begun-parts ground U sets groups parts same within begun) c.begun.ensures

pub returns-clause-fresh : goal.returns-clause-fresh
returns-clause-fresh g c =
    IfOk-weaker c.begun.result (λ parts. AreBegun (ground_of c.args.self.now) c.args.object_type.now c.into_groups.result parts) (λ parts. AreFresh parts)
    (λ parts begun. begun.fresh) c.begun.ensures
