use Rattle.std.proofs.Common.{rules, arith, ◌≡◌, ◌+◌, ◌*◌, ◌<◌, ◌≤◌, length, suc, Err, sym, ap, ◌∙◌, subst, refl, drop}
use Rattle.std.specs.Option.{option_copied}
use Rattle.std.proofs.lemmas.List.{length-map}
use Rattle.gql_ast_base.specs.Names.{Named}
use Rattle.gql_collect.specs.Groups.{response_name}
use Rattle.gql_response.specs.declared.path.ResponseDataPathSegment.TheVariants.{Field}
use Rattle.gql_checker_laws.specs.Claims.{share}
use Rattle.gql_ast.specs.declared.field_definition.FieldDefinition.{FieldDefinition}
use Rattle.gql_schema_types.specs.declared.schema.Schema.{Schema}
use Rattle.gql_schema_types.specs.Schemas.{type_named}
use Rattle.gql_resolvers.specs.bridge.Seen.{seen, misfit_seen, IsFitOfObject}
use Rattle.gql_resolvers.specs.Resolved.{gives_leaf, gives_list, gives_object, gives_skip, fails_with}
use Rattle.gql_resolvers.specs.Meaning.{item_by, meaning_by, meanings_by}
use Rattle.gql_resolvers.proofs.Height.{height, height-item}
use Rattle.gql_resolvers.proofs.Views.{meaning_list}
use Rattle.gql_collect.proofs.Lists.{ok-anyway, map-set}
use Rattle.gql_exec.specs.declared.path.Path.TheVariants.{Below}
use Rattle.gql_exec.specs.bridge.Executing.{world_of}
use Rattle.gql_exec.specs.Trails.{group_of}
use Rattle.gql_exec.specs.bridge.Trails.{spot_of, trail_of}
use Rattle.gql_exec.proofs.Heights.{top}
use Rattle.gql_exec.proofs.Measures.{schema_in, measure, definition-top}
use Rattle.gql_exec.proofs.Misfits.{fits-list, same-misfit, same-object}
use Rattle.gql_exec.proofs.NamedTypes.{item-named}
use Rattle.gql_exec.proofs.Planned.{object-typed, here, node-planned}
use Rattle.gql_exec.proofs.Objects.{object-less, object-parts, object-grown}
use Rattle.gql_exec.proofs.Values.{meaning-leaf, meaning-object, meaning-skip}
use Rattle.gql_exec.proofs.Ways.{item-place, item_in, trail-place}
use Rattle.gql_document_types.specs.Ranks.{AreRanked}
use Rattle.gql_collect.specs.Plan.{field_in, fields_in, groups_in, group_in}
use Rattle.gql_collect.specs.bridge.Plan.{Ground, ground_of, AreNodes, IsTyped, sets_below, parts_in}
use Rattle.gql_collect.specs.declared.planned_field.PlannedField.{PlannedField}
use Rattle.gql_collect.proofs.Nodes.{part-with}
use Rattle.gql_exec.specs.bridge.Planning.{ground_in}
use Rattle.gql_exec.proofs.Views.{views}
use Rattle.gql_collect.proofs.Changes.{with_nodes, changed-field}
use Rattle.gql_exec.proofs.Collecting.{views-end}
use Rattle.gql_checker_laws.specs.Walked.{IsVisiting, IsWalking}
use Rattle.gql_checker_laws.proofs.Walking.{visiting-begun, visiting-more, visiting-ends, walking-begun, walking-more, walking-ends}
use Rattle.gql_response_check.specs.bridge.Views.{claims_of, findings_of}
use Rattle.gql_response_check.proofs.Returning.{done-item, done-list, done-meant, done-misfit, done-object, done-typed, field-failed, field-gave, field-refused, idle-field, idle-item}
use Rattle.gql_response_check.proofs.walk.Checking.+check.Goals as goal

-- ---- a resolved value

pub check_value-check_object-requires : goal.check_value-check_object-requires
check_value-check_object-requires g t c =
    let e = c.args.self.now.executing in
    let smaller : measure e (group_of c.args.place.now.group.now).pieces 2 < measure e (group_of c.args.place.now.group.now).pieces (4 * height c.args.place.now.ty.now + 3) = omega arith in
    search rules

pub check_value-check_list-requires : goal.check_value-check_list-requires
check_value-check_list-requires g t c =
    let e = c.args.self.now.executing in
    let smaller : measure e (group_of c.args.place.now.group.now).pieces (4 * height c.args.place.now.ty.now + 2) < measure e (group_of c.args.place.now.group.now).pieces (4 * height c.args.place.now.ty.now + 3) = omega arith in
    search rules

-- ---- an object

pub check_object-fitting_object-requires : goal.check_object-fitting_object-requires
check_object-fitting_object-requires g t c =
    c.requires.named ∙ ap (λ (schema : Schema). type_named schema c.args.place.now.ty.now) (sym c.schema.ensures)

pub check_object-check_typed-requires : goal.check_object-check_typed-requires
check_object-check_typed-requires g t c =
    let e = c.args.self.now.executing in
    let schema = schema_in e in
    let x = g.O.ObjectValue.seen c.args.object.now in
    let typed = object-typed schema (g.O.ObjectValue.type_of x) c.in-Ok.object_type.now (sym (same-object c.schema.result.now schema c.type_name.result.now (g.O.ObjectValue.type_of x) c.schema.ensures c.type_name.ensures) ∙ c.in-Ok.ensures.1) in
    let smaller : measure e (group_of c.args.place.now.group.now).pieces 1 < measure e (group_of c.args.place.now.group.now).pieces 2 = omega arith in
    search rules

pub check_typed-node_number-requires : goal.check_typed-node_number-requires
check_typed-node_number-requires g t c =
    record { ranked = (c.requires.ranked.0, subst (λ (it : Ground). AreRanked it.fragments c.requires.ranked.0) (sym c.planner.ensures) c.requires.ranked.1); typed = subst (λ (it : Ground). IsTyped it.schema c.args.object_type.now) (sym c.planner.ensures) c.requires.typed; planned = subst (λ it. AreNodes it (sets_below c.args.place.now.group.now) c.args.nodes.now) (sym c.planner.ensures) c.requires.planned }

pub check_typed-check_parts-requires : goal.check_typed-check_parts-requires
check_typed-check_parts-requires g t c =
    let e = c.args.self.now.executing in
    let smaller = object-less e g.O.ObjectValue.type_of g.O.ObjectValue.resolves c.args.place.now c.args.object_type.now c.requires.ranked.0 c.requires.ranked.1 (ground_of c.planner.result) c.planner.ensures c.node_number.new.nodes c.in_ok-number.number c.in-Some.node.now c.in_ok-number.ensures.planned c.in_ok-number.ensures.there c.in-Some.ensures.value in
    let planned = object-parts e g.O.ObjectValue.type_of g.O.ObjectValue.resolves c.args.place.now c.args.object_type.now c.requires.ranked.0 c.requires.ranked.1 (ground_of c.planner.result) c.planner.ensures c.node_number.new.nodes c.in_ok-number.number c.in-Some.node.now c.in_ok-number.ensures.planned c.in_ok-number.ensures.there c.in-Some.ensures.value in
    search rules

-- ---- a list and its items

pub check_list-check_items-requires : goal.check_list-check_items-requires
check_list-check_items-requires g t c =
    let e = c.args.self.now.executing in
    let list = fits-list c.args.place.now.ty.now (sym c.in_ok-misfit.ensures ∙ ap misfit_seen c.in-None.is) in
    let smaller : measure e (group_of c.args.place.now.group.now).pieces (4 * height c.args.place.now.ty.now + 1) < measure e (group_of c.args.place.now.group.now).pieces (4 * height c.args.place.now.ty.now + 2) = omega arith in
    search rules

pub check_items-check_item-requires : goal.check_items-check_item-requires
check_items-check_item-requires g t c =
    let e = c.args.self.now.executing in
    let smaller : measure e (group_of c.args.place.now.group.now).pieces (4 * height c.args.place.now.ty.now) < measure e (group_of c.args.place.now.group.now).pieces (4 * height c.args.place.now.ty.now + 1) = omega arith in
    search rules

pub check_item-check_value-requires : goal.check_item-check_value-requires
check_item-check_value-requires g t c =
    let e = c.args.self.now.executing in
    let lower : height c.args.list.now.ty.now ≡ suc (height c.item_of.result.now) = height-item c.args.list.now.ty.now c.requires.list ∙ ap (λ u. suc (height u)) (sym c.item_of.ensures) in
    let smaller : measure e (group_of c.args.list.now.group.now).pieces (4 * height c.item_of.result.now + 3) < measure e (group_of c.args.list.now.group.now).pieces (4 * height c.args.list.now.ty.now) = omega (arith, lower) in
    let named = item-named e.request.schema.now c.args.list.now c.item_of.result.now c.requires.list c.item_of.ensures c.requires.named in
    search rules

-- ---- a field, and parts

pub check_field-check_value-requires : goal.check_field-check_value-requires
check_field-check_value-requires g t c =
    let e = c.args.self.now.executing in
    let schema = schema_in e in
    let first = c.args.field.now.group.first.now in
    let definition = c.args.field.now.definition.now in
    let low : height definition.ty ≤ top schema =
    subst (λ (d : FieldDefinition). height d.ty ≤ top schema) (sym c.requires.asked.definition) (definition-top schema c.args.object_type.now.name.text first.name.text first.definition c.requires.defined) in
    let smaller : measure e (group_of c.args.field.now.group).pieces (4 * height definition.ty + 3) < measure e (group_of c.args.field.now.group).pieces (4 * top schema + 7) = omega (arith, low) in
    search rules

pub check_parts-check_field-requires : goal.check_parts-check_field-requires
check_parts-check_field-requires g t c =
    let at = here c.args.self.now.executing g.O.ObjectValue.type_of g.O.ObjectValue.resolves c.args.object_type.now c.requires.ranked.0 c.requires.ranked.1 c.requires.planned.0 c.args.parts.now c.loop-number.parts c.loop-number.number c.in-Some.part.now c.requires.planned.1 c.loop-number.invariant.same c.loop-number.invariant.planned (sym c.in-Some.ensures.value) in
    let smaller = at.smaller in
    let defined = at.defined in
    let planned = at.nodes in
    let asked = at.asked in
    search rules

-- ---- what is given

pub check_value-returns-in-Leaf : goal.check_value-returns-in-Leaf
check_value-returns-in-Leaf g t c =
    let see = g.O.ObjectValue.seen in
    let is : meaning_by see c.args.resolved ≡ gives_leaf c.in-Leaf.value = ap (meaning_by see) c.in-Leaf.is ∙ meaning-leaf see c.in-Leaf.value in
    record {
      found = done-meant c.args.self.now.executing g.O.ObjectValue.type_of g.O.ObjectValue.resolves c.args.reported.now c.args.findings.now c.check_leaf.new.findings c.check_leaf.result
          (spot_of c.args.place.now) (meaning_by see c.args.resolved) (gives_leaf c.in-Leaf.value) is c.check_leaf.ensures;
      planned = ok-anyway c.check_leaf.result _ c.requires.planned;
    }

pub check_value-returns-in-Object : goal.check_value-returns-in-Object
check_value-returns-in-Object g t c =
    let see = g.O.ObjectValue.seen in
    let x = see c.in-Object.object in
    let is : meaning_by see c.args.resolved ≡ gives_object x = ap (meaning_by see) c.in-Object.is ∙ meaning-object see c.in-Object.object in
    record {
      found = done-meant c.args.self.now.executing g.O.ObjectValue.type_of g.O.ObjectValue.resolves c.args.reported.now c.args.findings.now c.check_object.new.findings c.check_object.result
          (spot_of c.args.place.now) (meaning_by see c.args.resolved) (gives_object x) is c.check_object.ensures.found;
      planned = c.check_object.ensures.planned;
    }

pub check_value-returns-in-List : goal.check_value-returns-in-List
check_value-returns-in-List g t c =
    let see = g.O.ObjectValue.seen in
    let ms = meanings_by see c.in-List.items in
    let is : meaning_by see c.args.resolved ≡ gives_list ms = ap (meaning_by see) c.in-List.is ∙ meaning_list see c.in-List.items in
    record {
      found = done-meant c.args.self.now.executing g.O.ObjectValue.type_of g.O.ObjectValue.resolves c.args.reported.now c.args.findings.now c.check_list.new.findings c.check_list.result
          (spot_of c.args.place.now) (meaning_by see c.args.resolved) (gives_list ms) is c.check_list.ensures.found;
      planned = c.check_list.ensures.planned;
    }

pub check_value-returns-in-SkipForPartialExecution : goal.check_value-returns-in-SkipForPartialExecution
check_value-returns-in-SkipForPartialExecution g t c =
    let see = g.O.ObjectValue.seen in
    let is : meaning_by see c.args.resolved ≡ gives_skip = ap (meaning_by see) c.in-SkipForPartialExecution.is ∙ meaning-skip see in
    record {
      found = done-meant c.args.self.now.executing g.O.ObjectValue.type_of g.O.ObjectValue.resolves c.args.reported.now c.args.findings.now c.check_skip.new.findings c.check_skip.result
          (spot_of c.args.place.now) (meaning_by see c.args.resolved) gives_skip is c.check_skip.ensures;
      planned = ok-anyway c.check_skip.result _ c.requires.planned;
    }

pub check_object-returns-in-Ok : goal.check_object-returns-in-Ok
check_object-returns-in-Ok g t c =
    let e = c.args.self.now.executing in
    let x = g.O.ObjectValue.seen c.args.object.now in
    let spot = spot_of c.args.place.now in
    let fits = same-misfit c.schema.result.now (schema_in e) c.type_name.result.now (g.O.ObjectValue.type_of x) c.schema.ensures c.type_name.ensures spot.type in
    let found = same-object c.schema.result.now (schema_in e) c.type_name.result.now (g.O.ObjectValue.type_of x) c.schema.ensures c.type_name.ensures in
    record {
      found = done-object e g.O.ObjectValue.type_of g.O.ObjectValue.resolves c.args.reported.now c.args.findings.now c.check_typed.new.findings c.check_typed.result
          spot x c.in-Ok.object_type.now (sym fits ∙ c.in-Ok.ensures.0) (sym found ∙ c.in-Ok.ensures.1) c.check_typed.ensures.found;
      planned = c.check_typed.ensures.planned;
    }

pub check_object-returns-in-Err-Fault : goal.check_object-returns-in-Err-Fault
check_object-returns-in-Err-Fault g t c =
    let e = c.args.self.now.executing in
    let x = g.O.ObjectValue.seen c.args.object.now in
    let spot = spot_of c.args.place.now in
    let fits = same-misfit c.schema.result.now (schema_in e) c.type_name.result.now (g.O.ObjectValue.type_of x) c.schema.ensures c.type_name.ensures spot.type in
    let misfits = subst (λ fault. IsFitOfObject c.schema.result.now spot.type c.type_name.result.now (Err fault)) c.in-Err-Fault.field-0-is c.in-Err-Fault.ensures in
    record {
      found = done-misfit e g.O.ObjectValue.type_of g.O.ObjectValue.resolves c.args.reported.now c.args.findings.now c.check_misfit.new.findings c.check_misfit.result
          spot (gives_object x) (seen c.in-Err-Fault.misfit) (sym fits ∙ misfits) c.check_misfit.ensures;
      planned = ok-anyway c.check_misfit.result _ c.requires.planned;
    }

pub check_list-returns-in-Some : goal.check_list-returns-in-Some
check_list-returns-in-Some g t c =
    record {
      found = done-misfit c.args.self.now.executing g.O.ObjectValue.type_of g.O.ObjectValue.resolves c.args.reported.now c.args.findings.now c.check_misfit.new.findings c.check_misfit.result
          (spot_of c.args.place.now) (gives_list (meanings_by g.O.ObjectValue.seen c.args.items)) (seen c.in-Some.misfit) (sym c.in_ok-misfit.ensures ∙ ap misfit_seen c.in-Some.is) c.check_misfit.ensures;
      planned = ok-anyway c.check_misfit.result _ c.requires.planned;
    }

pub check_parts-loop-number-init : goal.check_parts-loop-number-init
check_parts-loop-number-init g t c =
    let w = world_of c.args.self.now.executing g.O.ObjectValue.type_of g.O.ObjectValue.resolves in
    let groups = groups_in c.args.parts.now in
    record {
      same = refl;
      planned = c.requires.planned.1.1;
      visiting = visiting-begun w c.args.object_type.now (g.O.ObjectValue.seen c.args.object.now) (trail_of c.args.path.now) (option_copied c.args.members) (claims_of c.args.claims.now) (findings_of c.args.findings.now) (views groups) (views groups) refl;
    }

pub check_items-loop-item-init : goal.check_items-loop-item-init
check_items-loop-item-init g t c =
    let w = world_of c.args.self.now.executing g.O.ObjectValue.type_of g.O.ObjectValue.resolves in
    let see = g.O.ObjectValue.seen in
    record {
      counted = omega (arith, ap length c.into_iter-item-iterator.ensures.into_iter_gives);
      planned = c.requires.planned;
      walking = walking-begun w (spot_of c.args.place.now) (option_copied c.args.values) (claims_of c.args.claims.now) (findings_of c.args.findings.now) (meanings_by see c.into_iter-item-iterator.result) (meanings_by see c.args.items) (ap (meanings_by see) c.into_iter-item-iterator.ensures.into_iter_gives);
    }

pub check_parts-loop-number-preserved : goal.check_parts-loop-number-preserved
check_parts-loop-number-preserved g t c =
    let e = c.args.self.now.executing in
    let w = world_of e g.O.ObjectValue.type_of g.O.ObjectValue.resolves in
    let U = c.args.object_type.now in
    let x = g.O.ObjectValue.seen c.args.object.now in
    let outer = trail_of c.args.path.now in
    let groups = groups_in c.args.parts.now in
    let i = c.loop-number.number in
    let part = c.in-Some.part.now in
    let nodes = c.check_field.new.nodes in
    let is = sym c.in-Some.ensures.value in
    let ms = option_copied c.args.members in
    let cs = claims_of c.args.claims.now in
    let at = here e g.O.ObjectValue.type_of g.O.ObjectValue.resolves U c.requires.ranked.0 c.requires.ranked.1 c.requires.planned.0 c.args.parts.now c.loop-number.parts i part c.requires.planned.1 c.loop-number.invariant.same c.loop-number.invariant.planned is in
    let own : claims_of c.of.result.now ≡ share (Field (response_name (group_of (group_in part)).first)) cs =
    c.of.ensures ∙ c.in_ok-shares.ensures.shares c.key.result.now ∙ ap (λ (n : Named). share (Field n) cs) c.key.ensures in
    record {
      same = map-set field_in c.loop-number.parts i part (with_nodes part nodes) is (changed-field part nodes) ∙ c.loop-number.invariant.same;
      planned = part-with (ground_in e) c.loop-number.parts i part nodes c.loop-number.invariant.planned c.in_ok-comes.ensures.planned;
      visiting = subst (λ b. IsVisiting w U x outer ms cs b (findings_of c.check_field.new.findings) (findings_of c.args.findings.now) (i + 1) (views (drop (i + 1) groups)) (views groups)) (sym c.either-passes.ensures)
          (visiting-more w U x outer ms cs c.loop-number.passes c.in_ok-comes.comes (findings_of c.loop-number.findings) (findings_of c.check_field.new.findings) (findings_of c.args.findings.now) i (views (drop i groups)) (views (drop (i + 1) groups)) (views groups)
          (group_of (group_in part)) (option_copied c.member_at.result) (claims_of c.of.result.now) at.first c.member_at.ensures own c.in_ok-comes.ensures.found.finds c.loop-number.invariant.visiting);
    }

pub check_parts-returns-clause-found : goal.check_parts-returns-clause-found
check_parts-returns-clause-found g t c =
    let w = world_of c.args.self.now.executing g.O.ObjectValue.type_of g.O.ObjectValue.resolves in
    let groups = groups_in c.args.parts.now in
    let i = c.loop-number.number in
    let past : length groups ≤ i = omega (arith, length-map (fields_in c.args.parts.now) (λ (field : PlannedField). field.group), length-map c.args.parts.now field_in, c.len-number-end.ensures, c.loop-number-test.false, c.loop-number.auto.number-end) in
    record {
      finds = visiting-ends w c.args.object_type.now (g.O.ObjectValue.seen c.args.object.now) (trail_of c.args.path.now) (option_copied c.args.members) (claims_of c.args.claims.now)
          c.loop-number.passes (findings_of c.loop-number.findings) (findings_of c.args.findings.now) i (views (drop i groups)) (views groups) (views-end groups i past) c.loop-number.invariant.visiting;
    }

pub check_items-prove-unreachable-requires : goal.check_items-prove-unreachable-requires
check_items-prove-unreachable-requires g t c =
    absurd (omega (arith, c.if-prove.true, c.len-count.ensures, c.loop-item.invariant.counted, ap length c.in-Some.ensures.steps))

pub check_items-loop-item-preserved : goal.check_items-loop-item-preserved
check_items-loop-item-preserved g t c =
    let w = world_of c.args.self.now.executing g.O.ObjectValue.type_of g.O.ObjectValue.resolves in
    let see = g.O.ObjectValue.seen in
    let list = spot_of c.args.place.now in
    let vs = option_copied c.args.values in
    let cs = claims_of c.args.claims.now in
    let i = c.loop-item.index in
    let within : i < c.len-count.result = omega (arith, c.len-count.ensures, c.loop-item.invariant.counted, ap length c.in-Some.ensures.steps) in
    record {
      counted = omega (arith, c.loop-item.invariant.counted, ap length c.in-Some.ensures.steps);
      planned = c.in_ok-comes.ensures.planned;
      walking = subst (λ b. IsWalking w list vs cs b (findings_of c.check_item.new.findings) (findings_of c.args.findings.now) (i + 1) (meanings_by see c.next.new.self) (meanings_by see c.args.items)) (sym c.either-passes.ensures)
          (walking-more w list vs cs c.loop-item.passes c.in_ok-comes.comes (findings_of c.loop-item.findings) (findings_of c.check_item.new.findings) (findings_of c.args.findings.now) i (meanings_by see c.loop-item.item-iterator) (meanings_by see c.next.new.self) (meanings_by see c.args.items)
          (item_by see c.in-Some.item) (option_copied c.item_at.result) (claims_of c.of.result.now) (ap (meanings_by see) c.in-Some.ensures.steps) c.item_at.ensures
          (c.of.ensures ∙ c.in_ok-shares.ensures.shares i within) c.in_ok-comes.ensures.found.finds c.loop-item.invariant.walking);
    }

pub check_items-returns-clause-found : goal.check_items-returns-clause-found
check_items-returns-clause-found g t c =
    let w = world_of c.args.self.now.executing g.O.ObjectValue.type_of g.O.ObjectValue.resolves in
    let see = g.O.ObjectValue.seen in
    record {
      finds = walking-ends w (spot_of c.args.place.now) (option_copied c.args.values) (claims_of c.args.claims.now) c.loop-item.passes (findings_of c.loop-item.findings)
          (findings_of c.args.findings.now) c.loop-item.index (meanings_by see c.loop-item.item-iterator) (meanings_by see c.args.items) (ap (meanings_by see) c.in-None.ensures.steps.0)
          c.loop-item.invariant.walking;
    }

pub check_typed-returns : goal.check_typed-returns
check_typed-returns g t c =
    let e = c.args.self.now.executing in
    let U = c.args.object_type.now in
    let sets = sets_below c.args.place.now.group.now in
    let node = c.in-Some.node.now in
    let are = subst (λ it. AreNodes it sets c.node_number.new.nodes) c.planner.ensures c.in_ok-number.ensures.planned in
    let parts = node-planned e g.O.ObjectValue.type_of g.O.ObjectValue.resolves U c.requires.ranked.0 c.requires.ranked.1 sets c.node_number.new.nodes c.in_ok-number.number node are c.in_ok-number.ensures.there (sym c.in-Some.ensures.value) in
    let grown = object-grown e g.O.ObjectValue.type_of g.O.ObjectValue.resolves c.args.place.now U c.requires.ranked.0 c.requires.ranked.1 (ground_of c.planner.result) c.planner.ensures c.node_number.new.nodes c.in_ok-number.number node c.in_ok-number.ensures.planned c.in_ok-number.ensures.there c.in-Some.ensures.value in
    record {
      found = done-typed e g.O.ObjectValue.type_of g.O.ObjectValue.resolves c.args.reported.now c.args.findings.now c.settle_place.new.findings c.settle_place.result
          U (groups_in (parts_in node)) (spot_of c.args.place.now) parts.0.groups (g.O.ObjectValue.seen c.args.object.now) (option_copied c.members-members.result) c.is_some.result
          (trail_of (Below c.args.place.now.around c.args.place.now.step c.args.place.now.ty)) c.check_parts.new.findings c.in_ok-passes.passes (trail-place c.args.place.now)
          c.members-members.ensures (search rules) c.in_ok-passes.ensures.found c.settle_place.ensures;
      planned = ok-anyway c.settle_place.result _ (grown c.check_parts.new.parts c.in_ok-passes.ensures.same c.in_ok-passes.ensures.planned);
    }

pub check_list-returns-in_ok-passes-in-None : goal.check_list-returns-in_ok-passes-in-None
check_list-returns-in_ok-passes-in-None g t c =
    let fits = sym c.in_ok-misfit.ensures ∙ ap misfit_seen c.in-None.is in
    record {
      found = done-list c.args.self.now.executing g.O.ObjectValue.type_of g.O.ObjectValue.resolves c.args.reported.now c.args.findings.now c.settle_place.new.findings c.settle_place.result
          g.O.ObjectValue.seen (spot_of c.args.place.now) c.args.items (option_copied c.items-values.result) c.is_some-given.result c.check_items.new.findings c.in_ok-passes-in-None.passes
          fits (search rules) (search rules) c.in_ok-passes-in-None.ensures.found c.settle_place.ensures;
      planned = ok-anyway c.settle_place.result _ c.in_ok-passes-in-None.ensures.planned;
    }

-- ---- an item, where something is looked for

pub check_item-returns-then-is_idle : goal.check_item-returns-then-is_idle
check_item-returns-then-is_idle g t c =
    record {
      found = idle-item c.args.self.now.executing g.O.ObjectValue.type_of g.O.ObjectValue.resolves c.args.reported.now c.args.findings.now (search rules)
          (spot_of c.args.list.now) c.args.index (item_by g.O.ObjectValue.seen c.args.item);
      planned = c.requires.planned;
    }

pub check_item-returns-in-Ok : goal.check_item-returns-in-Ok
check_item-returns-in-Ok g t c =
    let list = c.args.list.now in
    let see = g.O.ObjectValue.seen in
    let here = item_in (trail_of (Below list.around list.step list.ty)) c.args.index c.item_of.result.now (group_of list.group.now) in
    record {
      found = done-item c.args.self.now.executing g.O.ObjectValue.type_of g.O.ObjectValue.resolves c.args.reported.now c.args.findings.now c.check_value.new.findings c.check_value.result
          (spot_of list) c.args.index here (meaning_by see c.in-Ok.resolved) (item_by see c.args.item) (item-place list c.args.index c.item_of.result.now c.item_of.ensures)
          (ap (item_by see) c.in-Ok.is) (search rules) c.check_value.ensures.found;
      planned = c.check_value.ensures.planned;
    }

pub check_item-returns-in-Err : goal.check_item-returns-in-Err
check_item-returns-in-Err g t c =
    let list = c.args.list.now in
    let see = g.O.ObjectValue.seen in
    let here = item_in (trail_of (Below list.around list.step list.ty)) c.args.index c.item_of.result.now (group_of list.group.now) in
    record {
      found = done-item c.args.self.now.executing g.O.ObjectValue.type_of g.O.ObjectValue.resolves c.args.reported.now c.args.findings.now c.check_failure.new.findings c.check_failure.result
          (spot_of list) c.args.index here (fails_with c.in-Err.error.message) (item_by see c.args.item) (item-place list c.args.index c.item_of.result.now c.item_of.ensures)
          (ap (item_by see) c.in-Err.is) (search rules) c.check_failure.ensures;
      planned = ok-anyway c.check_failure.result _ c.requires.planned;
    }

-- ---- a field

pub check_field-returns-then-is_idle : goal.check_field-returns-then-is_idle
check_field-returns-then-is_idle g t c =
    record {
      found = idle-field c.args.self.now.executing g.O.ObjectValue.type_of g.O.ObjectValue.resolves c.args.reported.now c.args.findings.now (search rules)
          c.args.object_type.now (g.O.ObjectValue.seen c.args.object.now) (trail_of c.args.path.now) (group_of c.args.field.now.group);
      planned = c.requires.planned;
    }

pub check_field-returns-in-Gave : goal.check_field-returns-in-Gave
check_field-returns-in-Gave g t c =
    record {
      found = field-gave c.args.self.now.executing g.O.ObjectValue.type_of g.O.ObjectValue.resolves c.args.reported.now c.args.findings.now c.check_value.new.findings c.check_value.result
          g.O.ObjectValue.seen c.args.object_type.now (g.O.ObjectValue.seen c.args.object.now) (trail_of c.args.path.now) (group_of c.args.field.now.group) c.key.result.now
          c.args.field.now.definition.now c.in_ok-resolved.field-0 c.key.ensures c.requires.asked.definition c.in_ok-resolved.ensures (search rules)
          c.in-Gave.resolved c.in-Gave.is c.check_value.ensures.found;
      planned = c.check_value.ensures.planned;
    }

pub check_field-returns-in-Failed : goal.check_field-returns-in-Failed
check_field-returns-in-Failed g t c =
    record {
      found = field-failed c.args.self.now.executing g.O.ObjectValue.type_of g.O.ObjectValue.resolves c.args.reported.now c.args.findings.now c.check_failure.new.findings c.check_failure.result
          g.O.ObjectValue.seen c.args.object_type.now (g.O.ObjectValue.seen c.args.object.now) (trail_of c.args.path.now) (group_of c.args.field.now.group) c.key.result.now
          c.args.field.now.definition.now c.in_ok-resolved.field-0 c.key.ensures c.requires.asked.definition c.in_ok-resolved.ensures (search rules)
          c.in-Failed.error c.in-Failed.is c.check_failure.ensures;
      planned = ok-anyway c.check_failure.result _ c.requires.planned;
    }

pub check_field-returns-in-Refused : goal.check_field-returns-in-Refused
check_field-returns-in-Refused g t c =
    record {
      found = field-refused c.args.self.now.executing g.O.ObjectValue.type_of g.O.ObjectValue.resolves c.args.reported.now c.args.findings.now c.check_argument.new.findings c.check_argument.result
          g.O.ObjectValue.seen c.args.object_type.now (g.O.ObjectValue.seen c.args.object.now) (trail_of c.args.path.now) (group_of c.args.field.now.group) c.key.result.now
          c.args.field.now.definition.now c.in_ok-resolved.field-0 c.key.ensures c.requires.asked.definition c.in_ok-resolved.ensures (search rules)
          c.in-Refused.fault c.in-Refused.is c.check_argument.ensures;
      planned = ok-anyway c.check_argument.result _ c.requires.planned;
    }
