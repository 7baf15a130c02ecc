-- No interface implements itself: section 3.7 of GraphQL October 2021.
use Rattle.std.specs.Prelude.{ℕ, List, [], ◌∷◌, position, slice_get, length, map}
use Rattle.std.specs.List.{flat_map}
use Rattle.std.specs.Option.{option_map_or}
use Rattle.gql_ast_base.specs.Names.{Named}
use Rattle.gql_diag_messages.specs.declared.rule.Rule.TheVariants.{RecursiveInterfaceDefinition}
use Rattle.gql_diag_messages.specs.declared.diagnostic_data.DiagnosticData.{DiagnosticData}
use Rattle.gql_graph.specs.Graph.{Graph}
use Rattle.gql_schema_rules.specs.CycleFaults.{IsTold}
use Rattle.gql_schema_types.specs.Entries.{is_called}
use Rattle.gql_schema_types.specs.Types.{type_name}
use Rattle.gql_schema_types.specs.declared.types.ExtendedType.{ExtendedType}
use Rattle.gql_schema_types.specs.declared.types.ExtendedType.TheVariants.{Interface}

-- the number, if the type is an interface
abbrev pub if_interface : ℕ → ExtendedType → List ℕ
if_interface v (Interface it) = v ∷ []
if_interface v _ = []

module _ (types : List ExtendedType) where
  abbrev pub node_at : ℕ → List ℕ
  node_at v = option_map_or (if_interface v) (slice_get types v) []

  -- the number of the interface of a name
  abbrev pub interface_node : Named → List ℕ
  interface_node name = option_map_or node_at (position (is_called type_name name.text) types) []

  -- an edge leads from an interface to each that it lists
  abbrev pub interface_edges : ExtendedType → List ℕ
  interface_edges (Interface it) = flat_map interface_node it.implements_interfaces
  interface_edges _ = []

  abbrev pub interface_graph : Graph
  interface_graph = map interface_edges types

  abbrev pub AreRecursiveInterfaces : List DiagnosticData → Type 0
  AreRecursiveInterfaces told = IsTold type_name RecursiveInterfaceDefinition interface_graph (length types) types told
