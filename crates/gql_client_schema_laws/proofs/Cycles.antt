-- Cycles of interfaces and of input objects, in a schema and in one that tells it again: their graphs are the same.
use Rattle.std.proofs.Common.{◌≡◌, ℕ, Option, Some, None, List, [], length, refl, sym, ap, ◌∙◌}
use Rattle.std.specs.List.{slice_get, position}
use Rattle.std.specs.Option.{option_map_or}
use Rattle.std.specs.Str.{bytes_eq}
use Rattle.gql_ast_base.specs.Names.{Named}
use Rattle.gql_ast_base.specs.declared.type_ref.TypeRef.{TypeRef, out-TypeRef}
use Rattle.gql_ast_base.specs.declared.type_ref.TypeRef.TheOpen.{TypeRef-F}
use Rattle.gql_ast.specs.declared.field_definition.InputValueDefinition.{InputValueDefinition}
use Rattle.gql_diag_messages.specs.declared.diagnostic_data.DiagnosticData.{DiagnosticData}
use Rattle.gql_diag_messages.specs.declared.rule.Rule.TheVariants as rule
use Rattle.gql_rules_values.specs.Written.{is_written}
use Rattle.gql_client_schema_laws.specs.Pairs.{Paired}
use Rattle.gql_client_schema_laws.specs.Retold.{IsRetoldName, IsRetoldInputField, IsRetoldType}
use Rattle.gql_client_schema_laws.proofs.Found.{by_kind, kind_alike, same_type_name}
use Rattle.gql_client_schema_laws.proofs.Pairs.{value_alike, flat_same, map_same, length_alike, get_alike, position_alike, pairs_weaker}
use Rattle.gql_client_schema_laws.proofs.Marks.{told_again}
use Rattle.gql_client_schema_laws.proofs.References.{unplaced_level, level_alike}
use Rattle.gql_schema_rules.specs.RecursiveInputObjectDefinition as input
use Rattle.gql_schema_rules.specs.RecursiveInputObjectDefinition.{if_input_object, AreRecursiveInputObjects}
use Rattle.gql_schema_rules.specs.RecursiveInterfaceDefinition as interface
use Rattle.gql_schema_rules.specs.RecursiveInterfaceDefinition.{if_interface, AreRecursiveInterfaces}
use Rattle.gql_schema_types.specs.Entries.{is_called}
use Rattle.gql_schema_types.specs.Types.{type_name}
use Rattle.gql_schema_types.specs.declared.types.ExtendedType.{ExtendedType}

option_same : {Z : Type 0} (f g : ℕ → Z) (d : Z) → ((v : ℕ) → f v ≡ g v) → (o : Option ℕ) → option_map_or f o d ≡ option_map_or g o d
option_same f g d h None = refl
option_same f g d h (Some v) = h v

same_name_place : (t u : ExtendedType) → IsRetoldType t u → is_written (type_name t).location ≡ is_written (type_name u).location
same_name_place =
    by_kind (λ t u. is_written (type_name t).location ≡ is_written (type_name u).location) (λ t u same. same.name.place) (λ t u same. same.name.place)
    (λ t u same. same.name.place) (λ t u same. same.name.place) (λ t u same. same.name.place) (λ t u same. same.name.place)

module _ (types others : List ExtendedType) (pairs : Paired IsRetoldType types others) where
  pub place_of_name : (one other : List ℕ) → one ≡ other → position (is_called type_name one) types ≡ position (is_called type_name other) others
  place_of_name one other same =
      position_alike IsRetoldType (is_called type_name one) (is_called type_name other) (λ t u is. λ i. bytes_eq (same i) (same_type_name t u is i)) types others pairs

  places : Paired (λ (t u : ExtendedType). is_written (type_name t).location ≡ is_written (type_name u).location) types others
  places = pairs_weaker IsRetoldType (λ t u. is_written (type_name t).location ≡ is_written (type_name u).location) same_name_place types others pairs

  -- ---- interfaces

  interface_at : (v : ℕ) → interface.node_at types v ≡ interface.node_at others v
  interface_at v =
      value_alike IsRetoldType (if_interface v) (if_interface v) []
      (kind_alike (if_interface v) (λ t u. refl) (λ t u. refl) (λ t u. refl) (λ t u. refl) (λ t u. refl) (λ t u. refl))
      (slice_get types v) (slice_get others v) (get_alike IsRetoldType types others pairs v)

  interface_node : (x y : Named) → IsRetoldName x y → interface.interface_node types x ≡ interface.interface_node others y
  interface_node x y same =
      option_same (interface.node_at types) (interface.node_at others) [] interface_at (position (is_called type_name x.text) types)
      ∙ ap (λ o. option_map_or (interface.node_at others) o []) (place_of_name x.text y.text same.text)

  interface_edges : (t u : ExtendedType) → IsRetoldType t u → interface.interface_edges types t ≡ interface.interface_edges others u
  interface_edges =
      by_kind (λ t u. interface.interface_edges types t ≡ interface.interface_edges others u) (λ t u same. refl) (λ t u same. refl)
      (λ t u same. flat_same IsRetoldName (interface.interface_node types) (interface.interface_node others) interface_node t.implements_interfaces u.implements_interfaces same.interfaces)
      (λ t u same. refl) (λ t u same. refl) (λ t u same. refl)

  pub recursive_interfaces_alike : (told again : List DiagnosticData) → AreRecursiveInterfaces types told → AreRecursiveInterfaces others again → told ≡ [] → again ≡ []
  recursive_interfaces_alike told again =
      told_again type_name rule.RecursiveInterfaceDefinition (interface.interface_graph types) (interface.interface_graph others) (length types) (length others) types others told again
      (map_same IsRetoldType (interface.interface_edges types) (interface.interface_edges others) interface_edges types others pairs) (length_alike IsRetoldType types others pairs) places

  -- ---- input objects

  input_at : (v : ℕ) → input.node_at types v ≡ input.node_at others v
  input_at v =
      value_alike IsRetoldType (if_input_object v) (if_input_object v) []
      (kind_alike (if_input_object v) (λ t u. refl) (λ t u. refl) (λ t u. refl) (λ t u. refl) (λ t u. refl) (λ t u. refl))
      (slice_get types v) (slice_get others v) (get_alike IsRetoldType types others pairs v)

  input_node : (name : Named) → input.input_node types name ≡ input.input_node others name
  input_node name =
      option_same (input.node_at types) (input.node_at others) [] input_at (position (is_called type_name name.text) types)
      ∙ ap (λ o. option_map_or (input.node_at others) o []) (place_of_name name.text name.text refl)

  needed_level : (y : TypeRef-F TypeRef) → input.needed_level types y ≡ input.needed_level others y
  needed_level (TypeRef-F.Named name) = refl
  needed_level (TypeRef-F.NonNullNamed name) = input_node name
  needed_level (TypeRef-F.List item) = refl
  needed_level (TypeRef-F.NonNullList item) = refl

  needed_unplaced : (y : TypeRef-F TypeRef) → input.needed_level types (unplaced_level y) ≡ input.needed_level types y
  needed_unplaced (TypeRef-F.Named name) = refl
  needed_unplaced (TypeRef-F.NonNullNamed name) = refl
  needed_unplaced (TypeRef-F.List item) = refl
  needed_unplaced (TypeRef-F.NonNullList item) = refl

  needed : (x y : InputValueDefinition) → IsRetoldInputField x y → input.needed types x ≡ input.needed others y
  needed x y same =
      sym (needed_unplaced (out-TypeRef x.ty)) ∙ ap (input.needed_level types) (level_alike x.ty y.ty same.input.ty)
      ∙ needed_unplaced (out-TypeRef y.ty) ∙ needed_level (out-TypeRef y.ty)

  input_edges : (t u : ExtendedType) → IsRetoldType t u → input.input_edges types t ≡ input.input_edges others u
  input_edges =
      by_kind (λ t u. input.input_edges types t ≡ input.input_edges others u) (λ t u same. refl) (λ t u same. refl) (λ t u same. refl) (λ t u same. refl) (λ t u same. refl)
      (λ t u same. flat_same IsRetoldInputField (input.needed types) (input.needed others) needed t.fields u.fields same.fields)

  pub recursive_inputs_alike : (told again : List DiagnosticData) → AreRecursiveInputObjects types told → AreRecursiveInputObjects others again → told ≡ [] → again ≡ []
  recursive_inputs_alike told again =
      told_again type_name rule.RecursiveInputObjectDefinition (input.input_graph types) (input.input_graph others) (length types) (length others) types others told again
      (map_same IsRetoldType (input.input_edges types) (input.input_edges others) input_edges types others pairs) (length_alike IsRetoldType types others pairs) places
