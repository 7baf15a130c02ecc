use Rattle.std.proofs.Common.{rules, arith, ◌≡◌, ◌+◌, ◌*◌, ◌<◌, ◌≤◌, [], ◌∷◌, ◌++◌, length, suc, Some, None, Err, inr, sym, ap, ◌∙◌, subst, refl, drop}
use Rattle.std.proofs.lemmas.List.{append-nil, length-map}
use Rattle.gql_ast.specs.declared.field_definition.FieldDefinition.{FieldDefinition}
use Rattle.gql_schema_types.specs.declared.schema.Schema.{Schema}
use Rattle.gql_schema_types.specs.Schemas.{type_named}
use Rattle.gql_resolvers.specs.bridge.Seen.{seen, misfit_seen, IsFitOfObject}
use Rattle.jb_tree.specs.declared.value.Value.TheVariants as json
use Rattle.gql_resolvers.specs.Execute.{completed, items_made, one_array, one_object, settled}
use Rattle.gql_resolvers.specs.Resolved.{gives_leaf, gives_list, gives_object, gives_skip, fails_with}
use Rattle.gql_resolvers.specs.Spot.{item_spot, trail}
use Rattle.gql_resolvers.specs.Types.{item_type}
use Rattle.gql_resolvers.specs.Meaning.{item_by, meaning_by, meanings_by}
use Rattle.gql_resolvers.proofs.Height.{height, height-item}
use Rattle.gql_resolvers.proofs.Views.{meaning_list}
use Rattle.gql_collect.proofs.Lists.{ok-anyway, map-set}
use Rattle.gql_exec.specs.bridge.Executed.{MakesBelow}
use Rattle.gql_exec.specs.declared.path.Path.TheVariants.{Below}
use Rattle.gql_exec.specs.bridge.Executing.{request_of, world_of}
use Rattle.gql_exec.specs.bridge.Output.{IsWritten}
use Rattle.gql_exec.specs.Trails.{group_of}
use Rattle.gql_exec.specs.bridge.Trails.{null_at, spot_of, trail_of}
use Rattle.gql_exec.specs.bridge.Asking.{outcome_of}
use Rattle.gql_exec.specs.Opened.{AnyGives}
use Rattle.gql_exec.specs.bridge.Opened.{OpensBy, Turns}
use Rattle.gql_exec.proofs.Completing.{at_field, made-value}
use Rattle.gql_exec.proofs.Done.{null-done, done-meant, done-misfit, done-fits, done-object, done-there}
use Rattle.gql_exec.proofs.Fields.{field-gave, field-failed, field-faulted}
use Rattle.gql_exec.proofs.Grown.{none-grown, grown-meant, grown-object, grown-list, grown-place, grown-field, grown-item, grown-part}
use Rattle.gql_exec.proofs.Heights.{top}
use Rattle.gql_exec.proofs.Items.{completing-begun, completing-more, completing-stops, completing-ends}
use Rattle.gql_exec.proofs.Measures.{schema_in, measure, definition-top}
use Rattle.gql_exec.proofs.Misfits.{fits-list, same-misfit, same-object}
use Rattle.gql_exec.proofs.NamedTypes.{item-named}
use Rattle.gql_exec.proofs.Planned.{object-typed, here}
use Rattle.gql_exec.proofs.Outputs.{value-written, left-written, null-written, members-written, none-written}
use Rattle.gql_exec.proofs.Objects.{object-less, object-parts, object-grown, object-growth, object-made, object-null}
use Rattle.gql_exec.proofs.Values.{meaning-leaf, meaning-object, meaning-skip}
use Rattle.gql_exec.proofs.Ways.{item-place, item_in}
use Rattle.gql_exec.proofs.executing.Executing.+execute.Goals as goal
use Rattle.gql_exec.proofs.executing.Executing.+execute.Goals.{complete_items-in-Value+in_ok-add_item-in-Value, complete_items-in-LeftOut, execute_parts-in-Value+in_ok-add_member-in-Value, execute_parts-in-LeftOut}
use Rattle.gql_document_types.specs.Ranks.{AreRanked}
use Rattle.gql_collect.specs.Plan.{field_in, fields_in, groups_in, group_in}
use Rattle.gql_collect.specs.bridge.Plan.{Ground, ground_of, AreNodes, IsTyped, sets_below, most_looks}
use Rattle.gql_collect.specs.bridge.Ways.{ways_to}
use Rattle.gql_collect.proofs.Growing.{grows-none}
use Rattle.gql_collect.specs.declared.planned_field.PlannedField.{PlannedField}
use Rattle.gql_collect.proofs.Nodes.{part-with}
use Rattle.gql_exec.specs.bridge.Planning.{ground_in}
use Rattle.gql_exec.proofs.Views.{views}
use Rattle.gql_ast_base.specs.Names.{Named}
use Rattle.gql_exec.specs.RequestWorld.{plain_world}
use Rattle.gql_collect.proofs.Changes.{with_nodes, changed-field}
use Rattle.gql_exec.proofs.Collecting.{views-apart, views-end}
use Rattle.gql_exec.proofs.Groups.{executing-begun, executing-more, executing-less, executing-stops, executing-ends}
use Rattle.gql_exec.proofs.Keys.{key-free}

-- ---- a resolved value

pub complete_value-complete_object-requires : goal.complete_value-complete_object-requires
complete_value-complete_object-requires g t c =
    let smaller : measure c.args.self.now (group_of c.args.place.now.group.now).pieces 2 < measure c.args.self.now (group_of c.args.place.now.group.now).pieces (4 * height c.args.place.now.ty.now + 3) = omega arith in
    search rules

pub complete_value-complete_list-requires : goal.complete_value-complete_list-requires
complete_value-complete_list-requires g t c =
    let smaller : measure c.args.self.now (group_of c.args.place.now.group.now).pieces (4 * height c.args.place.now.ty.now + 2) < measure c.args.self.now (group_of c.args.place.now.group.now).pieces (4 * height c.args.place.now.ty.now + 3) = omega arith in
    search rules

pub complete_value-returns-in-Leaf : goal.complete_value-returns-in-Leaf
complete_value-returns-in-Leaf g t c =
    let see = g.O.ObjectValue.seen in
    let is : meaning_by see c.args.resolved ≡ gives_leaf c.in-Leaf.value = ap (meaning_by see) c.in-Leaf.is ∙ meaning-leaf see c.in-Leaf.value in
    record { made = done-meant (world_of c.args.self.now g.O.ObjectValue.type_of g.O.ObjectValue.resolves) c.args.errors.now c.complete_leaf.new.errors (λ done. IsWritten g.M.Output.is_made c.args.out.now c.complete_leaf.new.out done) c.complete_leaf.result (spot_of c.args.place.now) (meaning_by see c.args.resolved) (gives_leaf c.in-Leaf.value) is c.complete_leaf.ensures; planned = ok-anyway c.complete_leaf.result _ c.requires.planned; grows = ok-anyway c.complete_leaf.result _ (none-grown c.args.self.now c.args.steps.now c.args.nodes.now _) }

pub complete_value-returns-in-Object : goal.complete_value-returns-in-Object
complete_value-returns-in-Object g t c =
    let see = g.O.ObjectValue.seen in
    let x = see c.in-Object.object in
    let is : meaning_by see c.args.resolved ≡ gives_object x = ap (meaning_by see) c.in-Object.is ∙ meaning-object see c.in-Object.object in
    record {
      made = done-meant (world_of c.args.self.now g.O.ObjectValue.type_of g.O.ObjectValue.resolves) c.args.errors.now c.complete_object.new.errors (λ done. IsWritten g.M.Output.is_made c.args.out.now c.complete_object.new.out done) c.complete_object.result (spot_of c.args.place.now) (meaning_by see c.args.resolved) (gives_object x) is c.complete_object.ensures.made;
      planned = c.complete_object.ensures.planned;
      grows = grown-meant c.args.self.now c.args.steps.now c.args.nodes.now c.complete_object.new.steps c.complete_object.new.nodes c.complete_object.result
          (world_of c.args.self.now g.O.ObjectValue.type_of g.O.ObjectValue.resolves) (spot_of c.args.place.now) (meaning_by see c.args.resolved) (gives_object x) is c.complete_object.ensures.grows;
    }

pub complete_value-returns-in-List : goal.complete_value-returns-in-List
complete_value-returns-in-List g t c =
    let see = g.O.ObjectValue.seen in
    let ms = meanings_by see c.in-List.items in
    let is : meaning_by see c.args.resolved ≡ gives_list ms = ap (meaning_by see) c.in-List.is ∙ meaning_list see c.in-List.items in
    record {
      made = done-meant (world_of c.args.self.now g.O.ObjectValue.type_of g.O.ObjectValue.resolves) c.args.errors.now c.complete_list.new.errors (λ done. IsWritten g.M.Output.is_made c.args.out.now c.complete_list.new.out done) c.complete_list.result (spot_of c.args.place.now) (meaning_by see c.args.resolved) (gives_list ms) is c.complete_list.ensures.made;
      planned = c.complete_list.ensures.planned;
      grows = grown-meant c.args.self.now c.args.steps.now c.args.nodes.now c.complete_list.new.steps c.complete_list.new.nodes c.complete_list.result
          (world_of c.args.self.now g.O.ObjectValue.type_of g.O.ObjectValue.resolves) (spot_of c.args.place.now) (meaning_by see c.args.resolved) (gives_list ms) is c.complete_list.ensures.grows;
    }

pub complete_value-returns-in-SkipForPartialExecution : goal.complete_value-returns-in-SkipForPartialExecution
complete_value-returns-in-SkipForPartialExecution g t c =
    let see = g.O.ObjectValue.seen in
    let w = world_of c.args.self.now g.O.ObjectValue.type_of g.O.ObjectValue.resolves in
    let spot = spot_of c.args.place.now in
    let errors = c.args.errors.now in
    let is : meaning_by see c.args.resolved ≡ gives_skip = ap (meaning_by see) c.in-SkipForPartialExecution.is ∙ meaning-skip see in
    record { made = record { found = Some []; are = (refl, refl); hold = subst (λ m. MakesBelow w spot.group (Some []) errors errors (λ run. completed w run spot m)) (sym is) (λ depth enough. made-value [] errors) }; planned = c.requires.planned; grows = none-grown c.args.self.now c.args.steps.now c.args.nodes.now _ }

-- ---- an object

pub complete_object-fitting_object-requires : goal.complete_object-fitting_object-requires
complete_object-fitting_object-requires g t c =
    c.requires.named ∙ ap (λ (schema : Schema). type_named schema c.args.place.now.ty.now) (sym c.schema.ensures)

pub complete_object-execute_object-requires : goal.complete_object-execute_object-requires
complete_object-execute_object-requires g t c =
    let schema = schema_in c.args.self.now in
    let x = g.O.ObjectValue.seen c.args.object.now in
    let typed = object-typed schema (g.O.ObjectValue.type_of x) c.in-Ok.object_type.now (sym (same-object c.schema.result.now schema c.type_name.result.now (g.O.ObjectValue.type_of x) c.schema.ensures c.type_name.ensures) ∙ c.in-Ok.ensures.1) in
    let smaller : measure c.args.self.now (group_of c.args.place.now.group.now).pieces 1 < measure c.args.self.now (group_of c.args.place.now.group.now).pieces 2 = omega arith in
    search rules

pub complete_object-returns-in-Ok : goal.complete_object-returns-in-Ok
complete_object-returns-in-Ok g t c =
    let w = world_of c.args.self.now g.O.ObjectValue.type_of g.O.ObjectValue.resolves in
    let x = g.O.ObjectValue.seen c.args.object.now in
    let spot = spot_of c.args.place.now in
    let fits = same-misfit c.schema.result.now (schema_in c.args.self.now) c.type_name.result.now (g.O.ObjectValue.type_of x) c.schema.ensures c.type_name.ensures spot.type in
    let found = same-object c.schema.result.now (schema_in c.args.self.now) c.type_name.result.now (g.O.ObjectValue.type_of x) c.schema.ensures c.type_name.ensures in
    record {
      made = done-object w c.args.errors.now c.execute_object.new.errors (λ done. IsWritten g.M.Output.is_made c.args.out.now c.execute_object.new.out done) c.execute_object.result spot x c.in-Ok.object_type.now (sym fits ∙ c.in-Ok.ensures.0) (sym found ∙ c.in-Ok.ensures.1) c.execute_object.ensures.made;
      planned = c.execute_object.ensures.planned;
      grows = grown-object c.args.self.now c.args.steps.now c.args.nodes.now c.execute_object.new.steps c.execute_object.new.nodes c.execute_object.result w spot x c.in-Ok.object_type.now (sym fits ∙ c.in-Ok.ensures.0) (sym found ∙ c.in-Ok.ensures.1) c.execute_object.ensures.grows;
    }

pub complete_object-returns-in-Err-Fault : goal.complete_object-returns-in-Err-Fault
complete_object-returns-in-Err-Fault g t c =
    let x = g.O.ObjectValue.seen c.args.object.now in
    let spot = spot_of c.args.place.now in
    let fits = same-misfit c.schema.result.now (schema_in c.args.self.now) c.type_name.result.now (g.O.ObjectValue.type_of x) c.schema.ensures c.type_name.ensures spot.type in
    let misfits = subst (λ fault. IsFitOfObject c.schema.result.now spot.type c.type_name.result.now (Err fault)) c.in-Err-Fault.field-0-is c.in-Err-Fault.ensures in
    record { made = done-misfit (world_of c.args.self.now g.O.ObjectValue.type_of g.O.ObjectValue.resolves) c.args.errors.now c.refuse.new.errors (λ done. IsWritten g.M.Output.is_made c.args.out.now c.refuse.new.out done) c.refuse.result spot (gives_object x) (seen c.in-Err-Fault.misfit) (sym fits ∙ misfits) c.refuse.ensures; planned = ok-anyway c.refuse.result _ c.requires.planned; grows = ok-anyway c.refuse.result _ (none-grown c.args.self.now c.args.steps.now c.args.nodes.now _) }

pub execute_object-node_number-requires : goal.execute_object-node_number-requires
execute_object-node_number-requires g t c =
    record { ranked = (c.requires.ranked.0, subst (λ (it : Ground). AreRanked it.fragments c.requires.ranked.0) (sym c.planner.ensures) c.requires.ranked.1); typed = subst (λ (it : Ground). IsTyped it.schema c.args.object_type.now) (sym c.planner.ensures) c.requires.typed; planned = subst (λ it. AreNodes it (sets_below c.args.place.now.group.now) c.args.nodes.now) (sym c.planner.ensures) c.requires.planned }

pub execute_object-execute_parts-requires : goal.execute_object-execute_parts-requires
execute_object-execute_parts-requires g t c =
    let smaller = object-less c.args.self.now g.O.ObjectValue.type_of g.O.ObjectValue.resolves c.args.place.now c.args.object_type.now c.requires.ranked.0 c.requires.ranked.1 (ground_of c.planner.result) c.planner.ensures c.node_number.new.nodes c.in_ok-number.number c.in-Some.node.now c.in_ok-number.ensures.planned c.in_ok-number.ensures.there c.in-Some.ensures.value in
    let planned = object-parts c.args.self.now g.O.ObjectValue.type_of g.O.ObjectValue.resolves c.args.place.now c.args.object_type.now c.requires.ranked.0 c.requires.ranked.1 (ground_of c.planner.result) c.planner.ensures c.node_number.new.nodes c.in_ok-number.number c.in-Some.node.now c.in_ok-number.ensures.planned c.in_ok-number.ensures.there c.in-Some.ensures.value in
    search rules

pub execute_object-end_object-requires : goal.execute_object-end_object-requires
execute_object-end_object-requires g t c =
    let written = members-written g.M.Output.are_members c.args.out.now c.execute_parts.new.out c.in_ok-members.field-0 c.in_ok-members.ensures.executed.found c.in_ok-members.ensures.executed.are c.in-Some-2.members c.in-Some-2.is in
    (c.args.out.now, written.0, written.1)

pub execute_object-returns-in_ok-end_object-in-Some-2 : goal.execute_object-returns-in_ok-end_object-in-Some-2
execute_object-returns-in_ok-end_object-in-Some-2 g t c =
    let written = members-written g.M.Output.are_members c.args.out.now c.execute_parts.new.out c.in_ok-members.field-0 c.in_ok-members.ensures.executed.found c.in_ok-members.ensures.executed.are c.in-Some-2.members c.in-Some-2.is in
    let grown = object-grown c.args.self.now g.O.ObjectValue.type_of g.O.ObjectValue.resolves c.args.place.now c.args.object_type.now c.requires.ranked.0 c.requires.ranked.1 (ground_of c.planner.result) c.planner.ensures c.node_number.new.nodes c.in_ok-number.number c.in-Some.node.now c.in_ok-number.ensures.planned c.in_ok-number.ensures.there c.in-Some.ensures.value in
    record {
      made = record {
        found = Some (json.Object written.0 ∷ []);
        are = (json.Object written.0, c.in_ok-end_object-in-Some-2.ensures c.args.out.now written.0 written.1, refl);
        hold = object-made c.args.self.now g.O.ObjectValue.type_of g.O.ObjectValue.resolves c.args.place.now c.args.object_type.now c.requires.ranked.0 c.requires.ranked.1 (ground_of c.planner.result) c.planner.ensures c.node_number.new.nodes c.in_ok-number.number c.in-Some.node.now c.in_ok-number.ensures.planned c.in_ok-number.ensures.there c.in-Some.ensures.value
            (g.O.ObjectValue.seen c.args.object.now) c.args.errors.now c.execute_parts.new.errors c.in_ok-members.ensures.executed.found written.0 written.2 c.in_ok-members.ensures.executed.hold;
      };
      planned = grown c.execute_parts.new.parts c.in_ok-members.ensures.same c.in_ok-members.ensures.planned;
      grows = object-growth c.args.self.now g.O.ObjectValue.type_of g.O.ObjectValue.resolves c.args.place.now c.args.object_type.now c.requires.ranked.0 c.requires.ranked.1 (ground_of c.planner.result) c.planner.ensures c.node_number.new.nodes c.in_ok-number.number c.in-Some.node.now c.in_ok-number.ensures.planned c.in_ok-number.ensures.there c.in-Some.ensures.value
          (g.O.ObjectValue.seen c.args.object.now) c.args.steps.now c.node_number.new.steps c.execute_parts.new.steps c.args.nodes.now c.execute_parts.new.parts c.in_ok-number.ensures.grows c.in_ok-members.ensures.grows;
    }

pub execute_object-returns-in-None : goal.execute_object-returns-in-None
execute_object-returns-in-None g t c =
    let written = none-written g.M.Output.are_members c.args.out.now c.execute_parts.new.out c.in_ok-members.field-0 c.in_ok-members.ensures.executed.found c.in_ok-members.ensures.executed.are c.in-None.is in
    let grown = object-grown c.args.self.now g.O.ObjectValue.type_of g.O.ObjectValue.resolves c.args.place.now c.args.object_type.now c.requires.ranked.0 c.requires.ranked.1 (ground_of c.planner.result) c.planner.ensures c.node_number.new.nodes c.in_ok-number.number c.in-Some.node.now c.in_ok-number.ensures.planned c.in_ok-number.ensures.there c.in-Some.ensures.value in
    record {
      made = null-done (world_of c.args.self.now g.O.ObjectValue.type_of g.O.ObjectValue.resolves) c.args.errors.now c.execute_parts.new.errors g.M.Output.is_made c.args.out.now c.execute_parts.new.out c.null.new.out c.null.result c.args.place.now.ty.now (group_of c.args.place.now.group.now)
          (λ run. settled (spot_of c.args.place.now) (one_object (run c.args.object_type.now (g.O.ObjectValue.seen c.args.object.now) (trail (spot_of c.args.place.now)) (group_of c.args.place.now.group.now).pieces))) written.0 c.null.ensures
          (object-null c.args.self.now g.O.ObjectValue.type_of g.O.ObjectValue.resolves c.args.place.now c.args.object_type.now c.requires.ranked.0 c.requires.ranked.1 (ground_of c.planner.result) c.planner.ensures c.node_number.new.nodes c.in_ok-number.number c.in-Some.node.now c.in_ok-number.ensures.planned c.in_ok-number.ensures.there c.in-Some.ensures.value
          (g.O.ObjectValue.seen c.args.object.now) c.args.errors.now c.execute_parts.new.errors c.in_ok-members.ensures.executed.found (null_at c.args.place.now.ty.now) written.1 refl c.in_ok-members.ensures.executed.hold);
      planned = ok-anyway c.null.result _ (grown c.execute_parts.new.parts c.in_ok-members.ensures.same c.in_ok-members.ensures.planned);
      grows = ok-anyway c.null.result _ (object-growth c.args.self.now g.O.ObjectValue.type_of g.O.ObjectValue.resolves c.args.place.now c.args.object_type.now c.requires.ranked.0 c.requires.ranked.1 (ground_of c.planner.result) c.planner.ensures c.node_number.new.nodes c.in_ok-number.number c.in-Some.node.now c.in_ok-number.ensures.planned c.in_ok-number.ensures.there c.in-Some.ensures.value
          (g.O.ObjectValue.seen c.args.object.now) c.args.steps.now c.node_number.new.steps c.execute_parts.new.steps c.args.nodes.now c.execute_parts.new.parts c.in_ok-number.ensures.grows c.in_ok-members.ensures.grows);
    }

-- ---- a list and its items

pub complete_list-complete_items-requires : goal.complete_list-complete_items-requires
complete_list-complete_items-requires g t c =
    let list = fits-list c.args.place.now.ty.now (sym c.in_ok-misfit.ensures ∙ ap misfit_seen c.in-None.is) in
    let smaller : measure c.args.self.now (group_of c.args.place.now.group.now).pieces (4 * height c.args.place.now.ty.now + 1) < measure c.args.self.now (group_of c.args.place.now.group.now).pieces (4 * height c.args.place.now.ty.now + 2) = omega arith in
    search rules

pub complete_list-returns-in-Some : goal.complete_list-returns-in-Some
complete_list-returns-in-Some g t c =
    record { made = done-misfit (world_of c.args.self.now g.O.ObjectValue.type_of g.O.ObjectValue.resolves) c.args.errors.now c.refuse.new.errors (λ done. IsWritten g.M.Output.is_made c.args.out.now c.refuse.new.out done) c.refuse.result (spot_of c.args.place.now) (gives_list (meanings_by g.O.ObjectValue.seen c.args.items)) (seen c.in-Some.misfit) (sym c.in_ok-misfit.ensures ∙ ap misfit_seen c.in-Some.is) c.refuse.ensures; planned = ok-anyway c.refuse.result _ c.requires.planned; grows = ok-anyway c.refuse.result _ (none-grown c.args.self.now c.args.steps.now c.args.nodes.now _) }

pub complete_list-returns-in-None : goal.complete_list-returns-in-None
complete_list-returns-in-None g t c =
    record {
      made = done-fits (world_of c.args.self.now g.O.ObjectValue.type_of g.O.ObjectValue.resolves) c.args.errors.now c.complete_items.new.errors (λ done. IsWritten g.M.Output.is_made c.args.out.now c.complete_items.new.out done) c.complete_items.result (spot_of c.args.place.now) (gives_list (meanings_by g.O.ObjectValue.seen c.args.items))
          (sym c.in_ok-misfit.ensures ∙ ap misfit_seen c.in-None.is) c.complete_items.ensures.made;
      planned = c.complete_items.ensures.planned;
      grows = grown-list c.args.self.now c.args.steps.now c.args.nodes.now c.complete_items.new.steps c.complete_items.new.nodes c.complete_items.result
          (world_of c.args.self.now g.O.ObjectValue.type_of g.O.ObjectValue.resolves) (spot_of c.args.place.now) (meanings_by g.O.ObjectValue.seen c.args.items) (sym c.in_ok-misfit.ensures ∙ ap misfit_seen c.in-None.is) c.complete_items.ensures.grows;
    }

pub complete_items-complete_item-requires : goal.complete_items-complete_item-requires
complete_items-complete_item-requires g t c =
    let smaller : measure c.args.self.now (group_of c.args.place.now.group.now).pieces (4 * height c.args.place.now.ty.now) < measure c.args.self.now (group_of c.args.place.now.group.now).pieces (4 * height c.args.place.now.ty.now + 1) = omega arith in
    search rules

pub complete_items-loop-item-init : goal.complete_items-loop-item-init
complete_items-loop-item-init g t c =
    let w = world_of c.args.self.now g.O.ObjectValue.type_of g.O.ObjectValue.resolves in
    let see = g.O.ObjectValue.seen in
    let list = spot_of c.args.place.now in
    let before = c.args.errors.now in
    let all = meanings_by see c.args.items in
    let left = meanings_by see c.into_iter-item-iterator.result in
    record { counted = omega (arith, ap length c.into_iter-item-iterator.ensures.into_iter_gives); planned = c.requires.planned; grows = none-grown c.args.self.now c.args.steps.now c.args.nodes.now _; among = λ turn gives. subst (λ ms. AnyGives w (Turns w (sets_below c.args.place.now.group.now) turn) (item_type list.type) ms) (ap (meanings_by see) c.into_iter-item-iterator.ensures.into_iter_gives) gives; so_far = ([], c.in_ok-list.ensures, completing-begun w list before left all (ap (meanings_by see) c.into_iter-item-iterator.ensures.into_iter_gives)) }

pub complete_items-drop_list-requires : goal.complete_items-drop_list-requires
complete_items-drop_list-requires g t c =
    let made = c.in_ok-value.ensures.made in
    let null = null-written g.M.Output.is_made c.loop-item.out c.complete_item.new.out c.in_ok-value.field-0 made.found made.are c.in-NullPasses.is in
    let so_far = c.loop-item.invariant.so_far in
    (c.args.out.now, so_far.0, subst (λ o. g.M.Output.are_items c.args.out.now o c.loop-item.list so_far.0) (sym null.0) so_far.1)

pub complete_items-returns-in-NullPasses : goal.complete_items-returns-in-NullPasses
complete_items-returns-in-NullPasses g t c =
    let w = world_of c.args.self.now g.O.ObjectValue.type_of g.O.ObjectValue.resolves in
    let see = g.O.ObjectValue.seen in
    let list = spot_of c.args.place.now in
    let before = c.args.errors.now in
    let after = c.complete_item.new.errors in
    let all = meanings_by see c.args.items in
    let made = c.in_ok-value.ensures.made in
    let so_far = c.loop-item.invariant.so_far in
    let null = null-written g.M.Output.is_made c.loop-item.out c.complete_item.new.out c.in_ok-value.field-0 made.found made.are c.in-NullPasses.is in
    let dropped = c.drop_list.ensures c.args.out.now so_far.0 (subst (λ o. g.M.Output.are_items c.args.out.now o c.loop-item.list so_far.0) (sym null.0) so_far.1) in
    let stopped = completing-stops w list so_far.0 c.loop-item.errors before after c.loop-item.index (meanings_by see c.loop-item.item-iterator) (meanings_by see c.next.new.self) all (item_by see c.in-Some.item) made.found null.1 (ap (meanings_by see) c.in-Some.ensures.steps) made.hold so_far.2 in
    record {
      made = null-done w before after g.M.Output.is_made c.args.out.now c.drop_list.new.self c.null.new.out c.null.result c.args.place.now.ty.now (group_of c.args.place.now.group.now)
          (λ run. settled list (one_array (items_made w run list 0 all))) dropped c.null.ensures stopped;
      planned = ok-anyway c.null.result _ c.in_ok-value.ensures.planned;
      grows = ok-anyway c.null.result _ (grown-item c.args.self.now c.args.steps.now c.loop-item.steps c.complete_item.new.steps w list (item_spot list c.loop-item.index) (item_by see c.in-Some.item)
          (meanings_by see c.loop-item.item-iterator) (meanings_by see c.next.new.self) (meanings_by see c.args.items) refl refl (ap (meanings_by see) c.in-Some.ensures.steps) c.loop-item.invariant.among c.args.nodes.now c.loop-item.nodes c.complete_item.new.nodes c.loop-item.invariant.grows c.in_ok-value.ensures.grows);
    }

pub complete_items-prove-unreachable-requires : goal.complete_items-prove-unreachable-requires
complete_items-prove-unreachable-requires g t c =
    absurd (omega (arith, c.if-prove.true, c.len-count.ensures, c.loop-item.invariant.counted, ap length c.in-Some.ensures.steps))

pub complete_items-loop-item-preserved : goal.complete_items-loop-item-preserved
complete_items-loop-item-preserved g t c =
    let w = world_of c.args.self.now g.O.ObjectValue.type_of g.O.ObjectValue.resolves in
    let see = g.O.ObjectValue.seen in
    let list = spot_of c.args.place.now in
    let before = c.args.errors.now in
    let after = c.complete_item.new.errors in
    let all = meanings_by see c.args.items in
    let left = meanings_by see c.loop-item.item-iterator in
    let rest = meanings_by see c.next.new.self in
    let m = item_by see c.in-Some.item in
    let made = c.in_ok-value.ensures.made in
    let so_far = c.loop-item.invariant.so_far in
    let start = c.args.out.now in
    let between = c.complete_item.new.out in
    record {
      counted = omega (arith, c.loop-item.invariant.counted, ap length c.in-Some.ensures.steps);
      planned = c.in_ok-value.ensures.planned;
      grows = grown-item c.args.self.now c.args.steps.now c.loop-item.steps c.complete_item.new.steps w list (item_spot list c.loop-item.index) (item_by see c.in-Some.item)
          (meanings_by see c.loop-item.item-iterator) (meanings_by see c.next.new.self) (meanings_by see c.args.items) refl refl (ap (meanings_by see) c.in-Some.ensures.steps) c.loop-item.invariant.among c.args.nodes.now c.loop-item.nodes c.complete_item.new.nodes c.loop-item.invariant.grows c.in_ok-value.ensures.grows;
      among = λ turn gives. c.loop-item.invariant.among turn (subst (λ ms. AnyGives w (Turns w (sets_below c.args.place.now.group.now) turn) (item_type list.type) ms) (sym (ap (meanings_by see) c.in-Some.ensures.steps)) (inr gives));
      so_far = elim c.match-branch-3.branch [
        | complete_items-in-Value+in_ok-add_item-in-Value b ↦
            let value = value-written g.M.Output.is_made c.loop-item.out between c.in_ok-value.field-0 made.found made.are b.in-Value.value b.in-Value.is in
            let more = so_far.0 ++ value.0 ∷ [] in
            let added = b.in_ok-add_item-in-Value.ensures start c.loop-item.out so_far.0 value.0 so_far.1 value.1 in (more, subst (λ o. g.M.Output.are_items start o c.match-branch-3.list more) (sym b.out-is) (subst (λ l. g.M.Output.are_items start b.add_item.new.self l more) (sym b.list-is) added), completing-more w list so_far.0 more (value.0 ∷ []) c.loop-item.errors before after c.loop-item.index left rest all m made.found value.2 (ap (meanings_by see) c.in-Some.ensures.steps) refl made.hold so_far.2)
        | complete_items-in-LeftOut b ↦
            let left_out = left-written g.M.Output.is_made c.loop-item.out between c.in_ok-value.field-0 made.found made.are b.in-LeftOut.is in (so_far.0, subst (λ o. g.M.Output.are_items start o c.match-branch-3.list so_far.0) (sym (b.out-is ∙ left_out.0)) (subst (λ l. g.M.Output.are_items start c.loop-item.out l so_far.0) (sym b.list-is) so_far.1), completing-more w list so_far.0 so_far.0 [] c.loop-item.errors before after c.loop-item.index left rest all m made.found left_out.1 (ap (meanings_by see) c.in-Some.ensures.steps) (sym (append-nil so_far.0)) made.hold so_far.2)
      ];
    }

pub complete_items-end_list-requires : goal.complete_items-end_list-requires
complete_items-end_list-requires g t c = (c.args.out.now, c.loop-item.invariant.so_far.0, c.loop-item.invariant.so_far.1)

pub complete_items-returns-clause-made : goal.complete_items-returns-clause-made
complete_items-returns-clause-made g t c =
    let see = g.O.ObjectValue.seen in
    let so_far = c.loop-item.invariant.so_far in
    record { found = Some (json.Array so_far.0 ∷ []); are = (json.Array so_far.0, c.in_ok-end_list.ensures c.args.out.now so_far.0 so_far.1, refl); hold = completing-ends (world_of c.args.self.now g.O.ObjectValue.type_of g.O.ObjectValue.resolves) (spot_of c.args.place.now) so_far.0 c.loop-item.errors c.args.errors.now c.loop-item.index (meanings_by see c.loop-item.item-iterator) (meanings_by see c.args.items) (ap (meanings_by see) c.in-None.ensures.steps.0) so_far.2 }

pub complete_item-complete_value-requires : goal.complete_item-complete_value-requires
complete_item-complete_value-requires g t c =
    let lower : height c.args.list.now.ty.now ≡ suc (height c.item_of.result.now) = height-item c.args.list.now.ty.now c.requires.list ∙ ap (λ u. suc (height u)) (sym c.item_of.ensures) in
    let smaller : measure c.args.self.now (group_of c.args.list.now.group.now).pieces (4 * height c.item_of.result.now + 3) < measure c.args.self.now (group_of c.args.list.now.group.now).pieces (4 * height c.args.list.now.ty.now) = omega (arith, lower) in
    let named = item-named c.args.self.now.request.schema.now c.args.list.now c.item_of.result.now c.requires.list c.item_of.ensures c.requires.named in
    search rules

pub complete_item-returns-in-Ok : goal.complete_item-returns-in-Ok
complete_item-returns-in-Ok g t c =
    let list = c.args.list.now in
    let here = item_in (trail_of (Below list.around list.step list.ty)) c.args.index c.item_of.result.now (group_of list.group.now) in
    let see = g.O.ObjectValue.seen in
    let w = world_of c.args.self.now g.O.ObjectValue.type_of g.O.ObjectValue.resolves in
    let e = c.args.self.now in
    let was = c.args.steps.now in
    let nodes = c.args.nodes.now in
    let is = c.complete_value.new.steps in
    let now = c.complete_value.new.nodes in
    record {
      made = done-there (world_of c.args.self.now g.O.ObjectValue.type_of g.O.ObjectValue.resolves) c.args.errors.now c.complete_value.new.errors (λ done. IsWritten g.M.Output.is_made c.args.out.now c.complete_value.new.out done) c.complete_value.result here (item_spot (spot_of list) c.args.index) (meaning_by see c.in-Ok.resolved) (item_by see c.args.item) (item-place list c.args.index c.item_of.result.now c.item_of.ensures) (ap (item_by see) c.in-Ok.is) c.complete_value.ensures.made;
      planned = c.complete_value.ensures.planned;
      grows = grown-meant e was nodes is now c.complete_value.result w (item_spot (spot_of list) c.args.index) (item_by see c.args.item) (meaning_by see c.in-Ok.resolved) (ap (item_by see) c.in-Ok.is)
          (grown-place e was nodes is now c.complete_value.result w here (item_spot (spot_of list) c.args.index) (meaning_by see c.in-Ok.resolved) (item-place list c.args.index c.item_of.result.now c.item_of.ensures) c.complete_value.ensures.grows);
    }

pub complete_item-returns-in-Err : goal.complete_item-returns-in-Err
complete_item-returns-in-Err g t c =
    let list = c.args.list.now in
    let here = item_in (trail_of (Below list.around list.step list.ty)) c.args.index c.item_of.result.now (group_of list.group.now) in
    let see = g.O.ObjectValue.seen in
    record {
      made = done-there (world_of c.args.self.now g.O.ObjectValue.type_of g.O.ObjectValue.resolves) c.args.errors.now c.fail.new.errors (λ done. IsWritten g.M.Output.is_made c.args.out.now c.fail.new.out done) c.fail.result here (item_spot (spot_of list) c.args.index) (fails_with c.in-Err.error.message) (item_by see c.args.item) (item-place list c.args.index c.item_of.result.now c.item_of.ensures) (ap (item_by see) c.in-Err.is) c.fail.ensures;
      planned = ok-anyway c.fail.result _ c.requires.planned;
      grows = ok-anyway c.fail.result _ (none-grown c.args.self.now c.args.steps.now c.args.nodes.now _);
    }

-- ---- a field, and parts

pub execute_field-complete_value-requires : goal.execute_field-complete_value-requires
execute_field-complete_value-requires g t c =
    let schema = schema_in c.args.self.now in
    let first = c.args.field.now.group.first.now in
    let definition = c.args.field.now.definition.now in
    let low : height definition.ty ≤ top schema =
    subst (λ (d : FieldDefinition). height d.ty ≤ top schema) (sym c.requires.asked.definition) (definition-top schema c.args.object_type.now.name.text first.name.text first.definition c.requires.defined) in
    let smaller : measure c.args.self.now (group_of c.args.field.now.group).pieces (4 * height definition.ty + 3) < measure c.args.self.now (group_of c.args.field.now.group).pieces (4 * top schema + 7) = omega (arith, low) in
    search rules

pub execute_field-returns-in-Gave : goal.execute_field-returns-in-Gave
execute_field-returns-in-Gave g t c =
    let see = g.O.ObjectValue.seen in
    let w = world_of c.args.self.now g.O.ObjectValue.type_of g.O.ObjectValue.resolves in
    let definition = c.args.field.now.definition.now in
    record {
      made = field-gave g.O.ObjectValue.seen (request_of c.args.self.now g.O.ObjectValue.type_of g.O.ObjectValue.resolves) c.args.errors.now c.complete_value.new.errors (λ done. IsWritten g.M.Output.is_made c.args.out.now c.complete_value.new.out done) c.complete_value.result c.args.object_type.now (g.O.ObjectValue.seen c.args.object.now) (trail_of c.args.path.now) (group_of c.args.field.now.group) c.key.result.now c.args.field.now.definition.now
          c.in_ok-resolved.field-0 c.key.ensures c.requires.asked.definition c.in_ok-resolved.ensures c.in-Gave.resolved c.in-Gave.is c.complete_value.ensures.made;
      planned = c.complete_value.ensures.planned;
      grows = grown-field c.args.self.now c.args.steps.now c.args.nodes.now c.complete_value.new.steps c.complete_value.new.nodes c.complete_value.result w c.args.object_type.now (see c.args.object.now)
          (group_of c.args.field.now.group) (at_field (trail_of c.args.path.now) (group_of c.args.field.now.group) c.key.result.now definition.ty) (meaning_by see c.in-Gave.resolved) refl (ap (λ (d : FieldDefinition). d.ty) c.requires.asked.definition) (ap (outcome_of see) (sym c.in-Gave.is) ∙ c.in_ok-resolved.ensures) c.complete_value.ensures.grows;
    }

pub execute_field-returns-in-Failed : goal.execute_field-returns-in-Failed
execute_field-returns-in-Failed g t c =
    record {
      made = field-failed g.O.ObjectValue.seen (request_of c.args.self.now g.O.ObjectValue.type_of g.O.ObjectValue.resolves) c.args.errors.now c.fail.new.errors (λ done. IsWritten g.M.Output.is_made c.args.out.now c.fail.new.out done) c.fail.result c.args.object_type.now (g.O.ObjectValue.seen c.args.object.now) (trail_of c.args.path.now) (group_of c.args.field.now.group) c.key.result.now c.args.field.now.definition.now c.in_ok-resolved.field-0 c.key.ensures c.requires.asked.definition c.in_ok-resolved.ensures c.in-Failed.error c.in-Failed.is c.fail.ensures;
      planned = ok-anyway c.fail.result _ c.requires.planned;
      grows = ok-anyway c.fail.result _ (none-grown c.args.self.now c.args.steps.now c.args.nodes.now _);
    }

pub execute_field-returns-in-Refused : goal.execute_field-returns-in-Refused
execute_field-returns-in-Refused g t c =
    record {
      made = field-faulted g.O.ObjectValue.seen (request_of c.args.self.now g.O.ObjectValue.type_of g.O.ObjectValue.resolves) c.args.errors.now c.refuse_argument.new.errors (λ done. IsWritten g.M.Output.is_made c.args.out.now c.refuse_argument.new.out done) c.refuse_argument.result c.args.object_type.now (g.O.ObjectValue.seen c.args.object.now) (trail_of c.args.path.now) (group_of c.args.field.now.group) c.key.result.now c.args.field.now.definition.now
          c.in_ok-resolved.field-0 c.key.ensures c.requires.asked.definition c.in_ok-resolved.ensures c.in-Refused.fault c.in-Refused.is c.refuse_argument.ensures;
      planned = ok-anyway c.refuse_argument.result _ c.requires.planned;
      grows = ok-anyway c.refuse_argument.result _ (none-grown c.args.self.now c.args.steps.now c.args.nodes.now _);
    }

pub execute_parts-loop-number-init : goal.execute_parts-loop-number-init
execute_parts-loop-number-init g t c =
    let r = request_of c.args.self.now g.O.ObjectValue.type_of g.O.ObjectValue.resolves in
    let w = plain_world r in
    let U = c.args.object_type.now in
    let groups = groups_in c.args.parts.now in
    let x = g.O.ObjectValue.seen c.args.object.now in
    let outer = trail_of c.args.path.now in
    let before = c.args.errors.now in
    record { same = refl; planned = c.requires.planned.1.1; grows = grows-none (most_looks (ground_in c.args.self.now)) c.args.steps.now c.args.steps.now (λ n. ways_to n c.args.parts.now) (λ n. ways_to n c.args.parts.now) (OpensBy w (views groups) U x) refl (λ n. refl); so_far = ([], c.in_ok-members.ensures, executing-begun w U x outer before (views groups) (views groups) refl (views-apart r U groups c.requires.planned.0 c.requires.planned.1.0.groups)) }

pub execute_parts-execute_field-requires : goal.execute_parts-execute_field-requires
execute_parts-execute_field-requires g t c =
    let groups = groups_in c.args.parts.now in
    let at = here c.args.self.now g.O.ObjectValue.type_of g.O.ObjectValue.resolves c.args.object_type.now c.requires.ranked.0 c.requires.ranked.1 c.requires.planned.0 c.args.parts.now c.loop-number.parts c.loop-number.number c.in-Some.part.now c.requires.planned.1 c.loop-number.invariant.same c.loop-number.invariant.planned (sym c.in-Some.ensures.value) in
    let smaller = at.smaller in
    let defined = at.defined in
    let planned = at.nodes in
    let asked = at.asked in
    search rules

pub execute_parts-add_member-requires : goal.execute_parts-add_member-requires
execute_parts-add_member-requires g t c =
    let groups = groups_in c.args.parts.now in
    let i = c.loop-number.number in
    let part = c.in-Some.part.now in
    let so_far = c.loop-number.invariant.so_far in
    let at = here c.args.self.now g.O.ObjectValue.type_of g.O.ObjectValue.resolves c.args.object_type.now c.requires.ranked.0 c.requires.ranked.1 c.requires.planned.0 c.args.parts.now c.loop-number.parts i part c.requires.planned.1 c.loop-number.invariant.same c.loop-number.invariant.planned (sym c.in-Some.ensures.value) in (
      c.args.out.now,
      c.begin_member.new.self,
      so_far.0,
      c.in_ok-begin_member.ensures c.args.out.now so_far.0 so_far.1,
      key-free (world_of c.args.self.now g.O.ObjectValue.type_of g.O.ObjectValue.resolves) so_far.0 (views (drop i groups)) (views (drop (i + 1) groups)) (group_of (group_in part)) c.key-key.result.now.text at.first so_far.2.new
          (ap (λ (n : Named). n.text) c.key-key.ensures),
    )

pub execute_parts-drop_member-requires : goal.execute_parts-drop_member-requires
execute_parts-drop_member-requires g t c =
    let made = c.in_ok-value.ensures.made in
    let so_far = c.loop-number.invariant.so_far in
    let key = c.key-key.result.now.text in
    let left_out = left-written g.M.Output.is_made c.begin_member.new.self c.execute_field.new.out c.in_ok-value.field-0 made.found made.are c.in-LeftOut.is in
    let keyed = c.in_ok-begin_member.ensures c.args.out.now so_far.0 so_far.1 in
    (c.args.out.now, so_far.0, key, subst (λ o. g.M.Output.is_keyed c.args.out.now o c.begin_member.new.members so_far.0 key) (sym left_out.0) keyed)

pub execute_parts-drop_object-requires : goal.execute_parts-drop_object-requires
execute_parts-drop_object-requires g t c =
    let made = c.in_ok-value.ensures.made in
    let so_far = c.loop-number.invariant.so_far in
    let key = c.key-key.result.now.text in
    let null = null-written g.M.Output.is_made c.begin_member.new.self c.execute_field.new.out c.in_ok-value.field-0 made.found made.are c.in-NullPasses.is in
    let keyed = c.in_ok-begin_member.ensures c.args.out.now so_far.0 so_far.1 in
    (c.args.out.now, so_far.0, key, subst (λ o. g.M.Output.is_keyed c.args.out.now o c.begin_member.new.members so_far.0 key) (sym null.0) keyed)

pub execute_parts-returns-in-NullPasses : goal.execute_parts-returns-in-NullPasses
execute_parts-returns-in-NullPasses g t c =
    let groups = groups_in c.args.parts.now in
    let i = c.loop-number.number in
    let part = c.in-Some.part.now in
    let is = sym c.in-Some.ensures.value in
    let at = here c.args.self.now g.O.ObjectValue.type_of g.O.ObjectValue.resolves c.args.object_type.now c.requires.ranked.0 c.requires.ranked.1 c.requires.planned.0 c.args.parts.now c.loop-number.parts i part c.requires.planned.1 c.loop-number.invariant.same c.loop-number.invariant.planned is in
    let made = c.in_ok-value.ensures.made in
    let so_far = c.loop-number.invariant.so_far in
    let key = c.key-key.result.now.text in
    let null = null-written g.M.Output.is_made c.begin_member.new.self c.execute_field.new.out c.in_ok-value.field-0 made.found made.are c.in-NullPasses.is in
    let keyed = c.in_ok-begin_member.ensures c.args.out.now so_far.0 so_far.1 in
    record {
      executed = record {
        found = None;
        are = (c.drop_object.ensures c.args.out.now so_far.0 key (subst (λ o. g.M.Output.is_keyed c.args.out.now o c.begin_member.new.members so_far.0 key) (sym null.0) keyed), refl);
        hold = executing-stops (world_of c.args.self.now g.O.ObjectValue.type_of g.O.ObjectValue.resolves) c.args.object_type.now (g.O.ObjectValue.seen c.args.object.now) (trail_of c.args.path.now) so_far.0 c.loop-number.errors c.args.errors.now c.execute_field.new.errors (views (drop i groups)) (views groups) (views (drop (i + 1) groups))
            (group_of (group_in part)) made.found null.1 at.first made.hold so_far.2;
      };
      same = map-set field_in c.loop-number.parts i part (with_nodes part c.execute_field.new.nodes) is (changed-field part c.execute_field.new.nodes) ∙ c.loop-number.invariant.same;
      planned = part-with (ground_in c.args.self.now) c.loop-number.parts i part c.execute_field.new.nodes c.loop-number.invariant.planned c.in_ok-value.ensures.planned;
      grows = grown-part c.args.self.now c.args.steps.now c.loop-number.steps c.execute_field.new.steps (request_of c.args.self.now g.O.ObjectValue.type_of g.O.ObjectValue.resolves) c.args.object_type.now (g.O.ObjectValue.seen c.args.object.now) groups i (views (drop (i + 1) groups)) c.args.parts.now c.loop-number.parts part c.execute_field.new.nodes at.first is c.loop-number.invariant.grows c.in_ok-value.ensures.grows;
    }

pub execute_parts-loop-number-preserved : goal.execute_parts-loop-number-preserved
execute_parts-loop-number-preserved g t c =
    let w = world_of c.args.self.now g.O.ObjectValue.type_of g.O.ObjectValue.resolves in
    let U = c.args.object_type.now in
    let x = g.O.ObjectValue.seen c.args.object.now in
    let outer = trail_of c.args.path.now in
    let groups = groups_in c.args.parts.now in
    let i = c.loop-number.number in
    let part = c.in-Some.part.now in
    let nodes = c.execute_field.new.nodes in
    let is = sym c.in-Some.ensures.value in
    let at = here c.args.self.now g.O.ObjectValue.type_of g.O.ObjectValue.resolves U c.requires.ranked.0 c.requires.ranked.1 c.requires.planned.0 c.args.parts.now c.loop-number.parts i part c.requires.planned.1 c.loop-number.invariant.same c.loop-number.invariant.planned is in
    let group = group_of (group_in part) in
    let same = map-set field_in c.loop-number.parts i part (with_nodes part nodes) is (changed-field part nodes) ∙ c.loop-number.invariant.same in
    let have = part-with (ground_in c.args.self.now) c.loop-number.parts i part nodes c.loop-number.invariant.planned c.in_ok-value.ensures.planned in
    let grown = grown-part c.args.self.now c.args.steps.now c.loop-number.steps c.execute_field.new.steps (request_of c.args.self.now g.O.ObjectValue.type_of g.O.ObjectValue.resolves) c.args.object_type.now (g.O.ObjectValue.seen c.args.object.now) groups i (views (drop (i + 1) groups)) c.args.parts.now c.loop-number.parts part c.execute_field.new.nodes at.first is c.loop-number.invariant.grows c.in_ok-value.ensures.grows in
    let made = c.in_ok-value.ensures.made in
    let so_far = c.loop-number.invariant.so_far in
    let start = c.args.out.now in
    let between = c.begin_member.new.self in
    let key = c.key-key.result.now.text in
    let named = ap (λ (n : Named). n.text) c.key-key.ensures in
    let keyed = c.in_ok-begin_member.ensures start so_far.0 so_far.1 in
    record {
      same = same;
      planned = have;
      grows = grown;
      so_far = elim c.match-branch-4.branch [
        | execute_parts-in-Value+in_ok-add_member-in-Value b ↦
            let value = value-written g.M.Output.is_made between c.execute_field.new.out c.in_ok-value.field-0 made.found made.are b.in-Value.value b.in-Value.is in
            let more = so_far.0 ++ (key, value.0) ∷ [] in
            let added = b.in_ok-add_member-in-Value.ensures start between so_far.0 value.0 keyed value.1 in (more, subst (λ o. g.M.Output.are_members start o c.match-branch-4.members more) (sym b.out-is) (subst (λ ms. g.M.Output.are_members start b.add_member.new.self ms more) (sym b.members-is) added), executing-more w U x outer so_far.0 more c.loop-number.errors c.args.errors.now c.execute_field.new.errors (views (drop i groups)) (views groups) (views (drop (i + 1) groups)) group key value.0 made.found value.2 at.first named refl made.hold so_far.2)
        | execute_parts-in-LeftOut b ↦
            let left_out = left-written g.M.Output.is_made between c.execute_field.new.out c.in_ok-value.field-0 made.found made.are b.in-LeftOut.is in
            let dropped = b.drop_member.ensures start so_far.0 key (subst (λ o. g.M.Output.is_keyed start o c.begin_member.new.members so_far.0 key) (sym left_out.0) keyed) in (
              so_far.0,
              subst (λ o. g.M.Output.are_members start o c.match-branch-4.members so_far.0) (sym b.out-is) (subst (λ ms. g.M.Output.are_members start b.drop_member.new.self ms so_far.0) (sym b.members-is) dropped),
              executing-less w U x outer so_far.0 c.loop-number.errors c.args.errors.now c.execute_field.new.errors (views (drop i groups)) (views groups)
                  (views (drop (i + 1) groups)) group made.found left_out.1 at.first made.hold so_far.2,
            )
      ];
    }

pub execute_parts-returns-clause-executed : goal.execute_parts-returns-clause-executed
execute_parts-returns-clause-executed g t c =
    let w = world_of c.args.self.now g.O.ObjectValue.type_of g.O.ObjectValue.resolves in
    let groups = groups_in c.args.parts.now in
    let i = c.loop-number.number in
    let past : length groups ≤ i = omega (arith, length-map (fields_in c.args.parts.now) (λ (field : PlannedField). field.group), length-map c.args.parts.now field_in, c.len-number-end.ensures, c.loop-number-test.false, c.loop-number.auto.number-end) in
    let so_far = c.loop-number.invariant.so_far in
    record { found = Some so_far.0; are = (so_far.0, so_far.1, refl); hold = executing-ends w c.args.object_type.now (g.O.ObjectValue.seen c.args.object.now) (trail_of c.args.path.now) so_far.0 c.loop-number.errors c.args.errors.now (views (drop i groups)) (views groups) (views-end groups i past) so_far.2 }
