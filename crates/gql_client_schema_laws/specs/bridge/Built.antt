-- A schema on which all that is asked for is defined: section 5.3.1 of GraphQL October 2021.
use Rattle.std.specs.Prelude.{◌≡◌, ℕ, false, List, map, Some}
use Rattle.gql_ast_base.specs.TypeParts.{named_type}
use Rattle.gql_ast.specs.declared.field_definition.FieldDefinition.{FieldDefinition}
use Rattle.gql_document.specs.BuiltSelections.{is_selected_leaf, makes_of}
use Rattle.gql_document.specs.Nodes.{is_nonempty}
use Rattle.gql_schema_types.specs.Schemas.{field_of}
use Rattle.gql_schema_types.specs.declared.schema.Schema.{Schema}
use Rattle.gql_client_schema_laws.specs.Asked.{Asked, asks_nothing, asks_field, asks_fragment, written}

module _ (schema : Schema) where
  -- Each field that is asked for on the type of a name is defined, and what is asked of it is defined on its type, which is a composite type
  -- where something is asked.
  abbrev pub AreDefinedOn : List ℕ → Asked → Type 0
  AreDefinedOn ty asks_nothing = Unit {0}
  AreDefinedOn ty (asks_field start end name deprecated within rest) =
      ((definition : FieldDefinition) × (field_of schema ty name ≡ Some definition)
      × (is_selected_leaf schema definition (is_nonempty (map (makes_of schema) (written within))) ≡ false)
      × AreDefinedOn (named_type definition.ty).text within)
      × AreDefinedOn ty rest
  AreDefinedOn ty (asks_fragment start name rest) = AreDefinedOn ty rest
