-- No input object needs itself: section 3.10 of GraphQL October 2021, "Circular References".
use Rattle.std.specs.Prelude.{ℕ, List, [], ◌∷◌, position, slice_get, length, map}
use Rattle.std.specs.List.{flat_map}
use Rattle.std.specs.Option.{option_map_or}
use Rattle.gql_ast_base.specs.Names.{Named}
use Rattle.gql_ast.specs.declared.field_definition.InputValueDefinition.{InputValueDefinition}
use Rattle.gql_ast_base.specs.declared.type_ref.TypeRef.{TypeRef, out-TypeRef}
use Rattle.gql_ast_base.specs.declared.type_ref.TypeRef.TheOpen.{TypeRef-F}
use Rattle.gql_diag_messages.specs.declared.rule.Rule.TheVariants.{RecursiveInputObjectDefinition}
use Rattle.gql_diag_messages.specs.declared.diagnostic_data.DiagnosticData.{DiagnosticData}
use Rattle.gql_graph.specs.Graph.{Graph}
use Rattle.gql_schema_rules.specs.CycleFaults.{IsTold}
use Rattle.gql_schema_types.specs.Entries.{is_called}
use Rattle.gql_schema_types.specs.Types.{type_name}
use Rattle.gql_schema_types.specs.declared.types.ExtendedType.{ExtendedType}
use Rattle.gql_schema_types.specs.declared.types.ExtendedType.TheVariants.{InputObject}

-- the number, if the type is an input object
abbrev pub if_input_object : ℕ → ExtendedType → List ℕ
if_input_object v (InputObject it) = v ∷ []
if_input_object v _ = []

module _ (types : List ExtendedType) where
  abbrev pub node_at : ℕ → List ℕ
  node_at v = option_map_or (if_input_object v) (slice_get types v) []

  -- the number of the input object of a name
  abbrev pub input_node : Named → List ℕ
  input_node name = option_map_or node_at (position (is_called type_name name.text) types) []

  abbrev pub needed_level : TypeRef-F TypeRef → List ℕ
  needed_level (TypeRef-F.NonNullNamed name) = input_node name
  needed_level _ = []

  -- the input object that a value of a field needs: that of a type `T!`
  abbrev pub needed : InputValueDefinition → List ℕ
  needed field = needed_level (out-TypeRef field.ty)

  -- an edge leads from an input object to each that it needs
  abbrev pub input_edges : ExtendedType → List ℕ
  input_edges (InputObject it) = flat_map needed it.fields
  input_edges _ = []

  abbrev pub input_graph : Graph
  input_graph = map input_edges types

  abbrev pub AreRecursiveInputObjects : List DiagnosticData → Type 0
  AreRecursiveInputObjects told = IsTold type_name RecursiveInputObjectDefinition input_graph (length types) types told
