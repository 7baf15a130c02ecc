-- Each place that an execution reaches is at a type that is defined and is no input object type.
use Rattle.std.proofs.Common.{◌≡◌, inl, inr, ℕ, ◌+◌, Bool, true, false, cond, Option, Some, None, is_some, unwrap_or, List, [], ◌∷◌, ◌++◌, refl, sym, ap, ◌∙◌, subst}
use Rattle.std.specs.List.{AllByRecursion, filter}
use Rattle.std.specs.Option.{option_map_or}
use Rattle.gql_ast_base.specs.Names.{Named}
use Rattle.gql_ast_base.specs.TypeParts.{name_step, named_type}
use Rattle.gql_ast_base.specs.declared.type_ref.TypeRef.{TypeRef, fold_out-TypeRef, out-TypeRef}
use Rattle.gql_ast_base.specs.declared.type_ref.TypeRef as ref
use Rattle.gql_ast_base.specs.declared.type_ref.TypeRef.TheOpen.{TypeRef-F}
use Rattle.gql_ast.specs.declared.field_definition.FieldDefinition.{FieldDefinition}
use Rattle.gql_collect.specs.Flat.{flat_sets}
use Rattle.gql_collect.specs.Groups.{FieldGroup, applying, groups_of, has_field, is_defined}
use Rattle.gql_document_types.specs.declared.selection.Field.{Field}
use Rattle.gql_document_types.specs.declared.selection.Selection.{Selection}
use Rattle.gql_exec.specs.Asks.{definition_on}
use Rattle.gql_exec.specs.Group.{Group, groups_from, started}
use Rattle.gql_exec.specs.Request.{Request}
use Rattle.gql_exec.specs.RequestWorld.{plain_world, setting_on}
use Rattle.gql_resolvers.specs.Reached.{IsAmong, Reaches, at_inside, at_root, fields_if, fields_of, inside, items_of}
use Rattle.gql_resolvers.specs.Resolved.{Meaning, Meanings, Outcome, answer_then, fails_with, gives_leaf, gives_list, gives_object, gives_skip, no_answer}
use Rattle.gql_resolvers.specs.Spot.{Spot, trail}
use Rattle.gql_resolvers.specs.Trail.{Trail}
use Rattle.gql_resolvers.specs.Types.{item_level, item_type}
use Rattle.gql_resolvers.specs.World.{World}
use Rattle.gql_valid_laws.specs.Outputs.{NameOutputTypes}
use Rattle.gql_schema_types.specs.Schemas.{field_of}
use Rattle.gql_schema_types.specs.Types.{type_called}
use Rattle.gql_schema_types.specs.declared.types.ObjectType.{ObjectType}
use Rattle.gql_valid_laws.proofs.Fitting.{IsOutput, unmarked}
use Rattle.gql_valid_laws.specs.UnmarkedAnswers.{LeavesNoMark}

-- those that are kept have what is asked
kept-has : {A : Type 0} (p : A → Bool) (xs : List A) → AllByRecursion (λ x. p x ≡ true) (filter p xs)
kept-has p [] = tt
kept-has p (x ∷ xs) = by (p x) refl (kept-has p xs)
  where
    by : (b : Bool) → p x ≡ b → AllByRecursion (λ x. p x ≡ true) (filter p xs) → AllByRecursion (λ x. p x ≡ true) (cond b (x ∷ filter p xs) (filter p xs))
    by true is rest = (is, rest)
    by false is rest = rest

-- the items of a list have the name of the list
named-item : (ty : TypeRef) → named_type (item_type ty) ≡ named_type ty
named-item ty = by (out-TypeRef ty) refl
  where
    by : (k : TypeRef-F TypeRef) → out-TypeRef ty ≡ k → named_type (item_level ty k) ≡ named_type ty
    by (TypeRef-F.Named name) is = refl
    by (TypeRef-F.NonNullNamed name) is = refl
    by (TypeRef-F.List item) is =
        sym (fold_out-TypeRef Named name_step ty ∙ ap (λ (k : TypeRef-F TypeRef). name_step (ref.map-TypeRef TypeRef Named named_type k)) is)
    by (TypeRef-F.NonNullList item) is =
        sym (fold_out-TypeRef Named name_step ty ∙ ap (λ (k : TypeRef-F TypeRef). name_step (ref.map-TypeRef TypeRef Named named_type k)) is)

module _ {X : Type 0} (r : Request X) (outputs : NameOutputTypes r.schema) where
  abbrev w : World X ObjectType Group (List (List Selection))
  w = plain_world r

  abbrev Good : TypeRef → Type 0
  Good ty = IsOutput r.schema.types ty

  -- ---- groups

  field-good : (U : ObjectType) (f : Field) → has_field r.schema U f ≡ true → Good (definition_on r.schema U f).ty
  field-good U f has = by (field_of r.schema U.name.text f.name.text) refl has
    where
      by : (o : Option FieldDefinition) → field_of r.schema U.name.text f.name.text ≡ o → is_some o ≡ true → Good (unwrap_or o f.definition).ty
      by None is has = absurd (let e : false ≡ true = has in cc)
      by (Some own) is has =
          let it = outputs U.name.text f.name.text own is in
          record { type = it.type; defined = it.defined; output = it.output }

  group-good : (U : ObjectType) (x : X) (outer : Trail) (o : Option Field) (fields : List Field) (rest : List Group) → option_map_or (has_field r.schema U) o false ≡ true
      → ((spot : Spot Group) (outcome : Outcome X) → IsAmong spot outcome (fields_of w U x outer rest) → Good spot.type)
      → (spot : Spot Group) (outcome : Outcome X) → IsAmong spot outcome (fields_of w U x outer (started o fields ++ rest)) → Good spot.type
  group-good U x outer None fields rest has others spot outcome among = absurd (let e : false ≡ true = has in cc)
  group-good U x outer (Some f) fields rest has others spot outcome (inl here) = subst (λ (s : Spot Group). Good s.type) (sym here.0) (field-good U f has)
  group-good U x outer (Some f) fields rest has others spot outcome (inr later) = others spot outcome later

  groups-good : (U : ObjectType) (x : X) (outer : Trail) (gs : List FieldGroup) → AllByRecursion (λ g. is_defined r.schema U g ≡ true) gs
      → (spot : Spot Group) (outcome : Outcome X) → IsAmong spot outcome (fields_of w U x outer (groups_from gs)) → Good spot.type
  groups-good U x outer [] each spot outcome among = absurd among
  groups-good U x outer (g ∷ gs) each spot outcome among =
      group-good U x outer g.first g.fields (groups_from gs) each.0 (groups-good U x outer gs each.1) spot outcome among

  sets-good : (U : ObjectType) (x : X) (outer : Trail) (sets : List (List Selection)) (spot : Spot Group) (outcome : Outcome X)
      → IsAmong spot outcome (fields_of w U x outer (w.groups U sets)) → Good spot.type
  sets-good U x outer sets spot outcome among =
      groups-good U x outer (applying (setting_on r U) sets) (kept-has (is_defined r.schema U) (groups_of (flat_sets (setting_on r U) sets))) spot outcome among

  -- ---- inside a place

  items-good : (list : Spot Group) (i : ℕ) (answers : Meanings X) → Good list.type → (spot : Spot Group) (outcome : Outcome X) → IsAmong spot outcome (items_of list i answers) → Good spot.type
  items-good list i no_answer good spot outcome among = absurd among
  items-good list i (answer_then m ms) good spot outcome (inl here) =
      subst (λ (s : Spot Group). Good s.type) (sym here.0)
      (record { type = good.type; defined = ap (λ (n : Named). type_called n.text r.schema.types) (named-item list.type) ∙ good.defined; output = good.output })
  items-good list i (answer_then m ms) good spot outcome (inr later) = items-good list (i + 1) ms good spot outcome later

  object-good : (outer : Spot Group) (x : X) (o : Option ObjectType) (spot : Spot Group) (outcome : Outcome X) → IsAmong spot outcome (fields_if w o x outer) → Good spot.type
  object-good outer x None spot outcome among = absurd among
  object-good outer x (Some V) spot outcome among = sets-good V x (trail outer) outer.group.pieces spot outcome among

  inside-good : (outer : Spot Group) (m : Meaning X) → Good outer.type → (spot : Spot Group) (outcome : Outcome X) → IsAmong spot outcome (inside w outer m) → Good spot.type
  inside-good outer (gives_leaf v) good spot outcome among = absurd among
  inside-good outer (gives_object x) good spot outcome among = object-good outer x (w.type_of x) spot outcome among
  inside-good outer (gives_list ms) good spot outcome among = items-good outer 0 ms good spot outcome among
  inside-good outer gives_skip good spot outcome among = absurd among
  inside-good outer (fails_with text) good spot outcome among = absurd among

  module _ (root : ObjectType) (initial : X) (selections : List Selection) where
    reached-good : {spot : Spot Group} {outcome : Outcome X} → Reaches w root initial (selections ∷ []) spot outcome → Good spot.type
    reached-good {spot} {outcome} (at_root among) = sets-good root initial [] (selections ∷ []) spot outcome among
    reached-good {spot} {outcome} (at_inside outer m reached fits among) = inside-good outer m (reached-good reached) spot outcome among

    pub no-mark : LeavesNoMark r root initial selections
    no-mark spot answer found reached is = unmarked found r.schema r.type_of spot.type answer (reached-good reached) is
