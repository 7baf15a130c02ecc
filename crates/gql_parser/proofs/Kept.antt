-- Where nothing is wrong with selections, the first of them is kept.
use Rattle.std.proofs.Common.{◌≡◌, ◌<◌, Bool, true, false, ◌&&◌, if◌then◌else◌, List, [], ◌∷◌, ◌++◌, length, flat_map, Option, Some, None, refl, sym, ap, ◌∙◌, subst, arith, length-append}
use Rattle.std.specs.Option.{option_map_or}
use Rattle.std.proofs.lemmas.Grind.{flat_map-append}
use Rattle.gql_ast_base.specs.Names.{Named}
use Rattle.gql_ast.specs.declared.field_definition.FieldDefinition.{FieldDefinition}
use Rattle.gql_ast.specs.declared.selection.Field.{Field}
use Rattle.gql_ast.specs.declared.selection.InlineFragment.{InlineFragment}
use Rattle.gql_ast.specs.declared.selection.Selection.{Selection}
use Rattle.gql_ast_base.specs.TypeParts.{named_type}
use Rattle.gql_document_types.specs.declared.selection.Selection.{Selection as Built}
use Rattle.gql_document_types.specs.declared.selection.Selection.TheVariants as built
use Rattle.gql_schema_types.specs.Schemas.{field_of}
use Rattle.gql_schema_types.specs.Types.{type_called}
use Rattle.gql_schema_types.specs.declared.schema.Schema.{Schema}
use Rattle.gql_schema_types.specs.declared.types.ExtendedType.{ExtendedType}
use Rattle.gql_schema_types.specs.declared.types.ExtendedType.TheVariants as type
use Rattle.gql_document.specs.BuiltSelections.{built_set, makes_of, spread_of}
use Rattle.gql_document.specs.bridge.FaultsBelow.{faults_of}
use Rattle.gql_document.specs.bridge.Made as made
use Rattle.gql_document.specs.Nodes.{Node, FieldNode, field, inline_fragment, is_defined, is_enum, is_leaf, is_nonempty, is_open, is_scalar, nodes, nodes_of, type_inside}
use Rattle.gql_document.specs.SelectionFaults.{node_faults, selection_faults}
use Rattle.gql_document.specs.SubselectionOnEnumType.{subselection_on_enum_type}
use Rattle.gql_document.specs.SubselectionOnScalarType.{subselection_on_scalar_type}
use Rattle.gql_document.specs.UndefinedField.{undefined_field}
use Rattle.gql_document.specs.UndefinedTypeInInlineFragmentTypeCondition.{undefined_type_in_inline_fragment_type_condition}
use Rattle.gql_parser.proofs.Made.{below_field, below_inline, is_nonempty-map, made_field, made_inline, made_spread, node_of, nodes_field, nodes_inline}
use Rattle.gql_ast.proofs.Variants.{each}

pub front_empty : {X : Type 0} (xs ys : List X) → xs ++ ys ≡ [] → xs ≡ []
front_empty [] ys none = refl
front_empty (x ∷ xs) ys none = absurd cc

pub back_empty : {X : Type 0} (xs ys : List X) → xs ++ ys ≡ [] → ys ≡ []
back_empty [] ys none = none
back_empty (x ∷ xs) ys none = absurd cc

abbrev IsThere : {X : Type 0} → List X → Type 0
IsThere xs = 0 < length xs

one_there : {X : Type 0} (x : X) (xs : List X) → IsThere (x ∷ xs)
one_there x xs = omega arith

-- what selects on a leaf is a fault, and nothing else is left out
leaf_kept : {X Y : Type 0} (selects : Bool) (o : Option ExtendedType) (scalar enum : X) (kept : Y)
    → (if selects && option_map_or is_scalar o false then scalar ∷ [] else []) ≡ []
    → (if selects && option_map_or is_enum o false then enum ∷ [] else []) ≡ []
    → IsThere (if selects && option_map_or is_leaf o false then [] else kept ∷ [])
leaf_kept false o scalar enum kept no_scalar no_enum = one_there kept []
leaf_kept true None scalar enum kept no_scalar no_enum = one_there kept []
leaf_kept true (Some (type.Scalar it)) scalar enum kept no_scalar no_enum = absurd cc
leaf_kept true (Some (type.Enum it)) scalar enum kept no_scalar no_enum = absurd cc
leaf_kept true (Some (type.Object it)) scalar enum kept no_scalar no_enum = one_there kept []
leaf_kept true (Some (type.Interface it)) scalar enum kept no_scalar no_enum = one_there kept []
leaf_kept true (Some (type.Union it)) scalar enum kept no_scalar no_enum = one_there kept []
leaf_kept true (Some (type.InputObject it)) scalar enum kept no_scalar no_enum = one_there kept []

module _ (schema : Schema) (ty : Named) where
  first_node : (n : Node) (rest : List Node) → flat_map (node_faults schema) (n ∷ rest) ≡ [] → node_faults schema n ≡ []
  first_node n rest none = front_empty (node_faults schema n) (flat_map (node_faults schema) rest) none

  -- ---- a field

  abbrev node_with : Field → Bool → Option FieldDefinition → FieldNode
  node_with f selects definition = record { ty = ty; name = f.name; definition = definition; selects = selects; location = f.location }

  field_kept : (f : Field) → node_faults schema (field (node_of schema ty f)) ≡ [] → IsThere (made.field schema f ty)
  field_kept f none = by_definition (field_of schema ty.text f.name.text) quiet
    where
      quiet : node_faults schema (field (node_with f (is_nonempty f.selection_set) (field_of schema ty.text f.name.text))) ≡ []
      quiet = subst (λ selects. node_faults schema (field (node_with f selects (field_of schema ty.text f.name.text))) ≡ []) (is_nonempty-map (nodes_of schema) f.selection_set) none

      by_definition : (o : Option FieldDefinition) → node_faults schema (field (node_with f (is_nonempty f.selection_set) o)) ≡ [] → IsThere (option_map_or (made.defined schema f) o [])
      by_definition None k = absurd cc
      by_definition (Some d) k =
          let node = node_with f (is_nonempty f.selection_set) (Some d) in
          let scalar = subselection_on_scalar_type schema node in
          let enum = subselection_on_enum_type schema node in
          let both = back_empty (undefined_field node) (scalar ++ enum) k in
          leaf_kept (is_nonempty f.selection_set) (type_called (named_type d.ty).text schema.types) _ _ _ (front_empty scalar enum both) (back_empty scalar enum both)

  -- ---- an inline fragment

  abbrev made_on : InlineFragment → Option Named → Built
  made_on i condition = built.InlineFragment (record {
    type_condition = condition;
    directives = i.directives;
    selection_set = built_set schema (type_inside ty condition) i.selection_set;
    location = i.location;
  })

  inline_kept : (i : InlineFragment) → undefined_type_in_inline_fragment_type_condition schema i.type_condition ≡ [] → IsThere (made.inline schema i ty)
  inline_kept i none = by_condition i.type_condition none
    where
      defined_kept : {X : Type 0} (name : Named) (is : Bool) (told : X) → (if is then [] else told ∷ []) ≡ [] → IsThere (if is then made_on i (Some name) ∷ [] else [])
      defined_kept name true told k = one_there (made_on i (Some name)) []
      defined_kept name false told k = absurd cc

      by_condition : (o : Option Named) → undefined_type_in_inline_fragment_type_condition schema o ≡ [] → IsThere (if is_open schema o then made_on i o ∷ [] else [])
      by_condition None k = one_there (made_on i None) []
      by_condition (Some name) k = defined_kept name (is_defined schema name) _ k

  -- ---- each selection

  selection_kept : (s : Selection) → faults_of schema ty s ≡ [] → IsThere (makes_of schema s ty)
  selection_kept =
      each (λ s. faults_of schema ty s ≡ [] → IsThere (makes_of schema s ty))
      (λ f none. subst IsThere (sym (made_field schema f ty)) (field_kept f
      (first_node (field (node_of schema ty f)) (below_field schema ty f) (sym (ap (flat_map (node_faults schema)) (nodes_field schema ty f)) ∙ none))))
      (λ f none. subst IsThere (sym (made_spread schema f ty)) (one_there (spread_of f) []))
      (λ i none. subst IsThere (sym (made_inline schema i ty)) (inline_kept i
      (first_node (inline_fragment i.type_condition) (below_inline schema ty i) (sym (ap (flat_map (node_faults schema)) (nodes_inline schema ty i)) ∙ none))))

  -- so what selects something still does once it is built
  pub set_kept : (selections : List Selection) → 0 < length selections → selection_faults schema ty selections ≡ []
      → 0 < length (built_set schema ty selections).selections
  set_kept [] some none = absurd (omega (arith, some))
  set_kept (s ∷ others) some none =
      let next = flat_map-append (node_faults schema) (nodes_of schema s ty) (nodes schema ty others) in
      let first = selection_kept s (front_empty (faults_of schema ty s) (selection_faults schema ty others) (sym next ∙ none)) in
      let rest = (built_set schema ty others).selections in
      omega (arith, first, length-append (makes_of schema s ty) rest)
