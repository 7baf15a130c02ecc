-- Members of a type, without the deprecated ones unless these are asked for: section 4.2 of GraphQL October 2021.
use Rattle.std.specs.Prelude.{Bool, false, not, ◌||◌, List, map, filter, option_and_then, unwrap_or, codes}
use Rattle.std.specs.Map.{lookup}
use Rattle.std.specs.Str.{bytes_eq}
use Rattle.jb_tree.specs.Value.{truth_value}
use Rattle.gql_ast.specs.declared.field_definition.EnumValueDefinition.{EnumValueDefinition}
use Rattle.gql_ast.specs.declared.field_definition.FieldDefinition.{FieldDefinition}
use Rattle.gql_ast.specs.declared.field_definition.InputValueDefinition.{InputValueDefinition}
use Rattle.gql_ast_base.specs.declared.directive.Directive.{Directive}
use Rattle.gql_resolvers.specs.Resolved.{Meaning}
use Rattle.gql_resolvers.specs.Meaning.{Members}
use Rattle.gql_schema_types.specs.declared.schema.Schema.{Schema}
use Rattle.gql_introspection.specs.Answers.{objects}
use Rattle.gql_introspection.specs.Deprecation.{is_deprecated}
use Rattle.gql_introspection.specs.Meta.{Meta, field_def, enum_value_def, input_value_def}

-- is `includeDeprecated` true? A missing one and any other value are not
abbrev pub include_deprecated : Members → Bool
include_deprecated arguments = unwrap_or (option_and_then truth_value (lookup (bytes_eq (codes "includeDeprecated")) arguments)) false

abbrev pub is_kept : Bool → List Directive → Bool
is_kept deprecated_too directives = deprecated_too || not (is_deprecated directives)

-- the objects for those of these with such directives that are kept
abbrev pub kept : {T : Type 0} → (T → Meta) → (T → List Directive) → Bool → List T → Meaning Meta
kept shows directives_of deprecated_too parts = objects (map shows (filter (λ part. is_kept deprecated_too (directives_of part)) parts))

abbrev pub field_directives : FieldDefinition → List Directive
field_directives field = field.directives

abbrev pub value_directives : EnumValueDefinition → List Directive
value_directives value = value.directives

abbrev pub input_directives : InputValueDefinition → List Directive
input_directives value = value.directives

module _ (schema : Schema) (arguments : Members) where
  abbrev pub kept_fields : List FieldDefinition → Meaning Meta
  kept_fields fields = kept (field_def schema) field_directives (include_deprecated arguments) fields

  abbrev pub kept_enum_values : List EnumValueDefinition → Meaning Meta
  kept_enum_values values = kept (enum_value_def schema) value_directives (include_deprecated arguments) values

  abbrev pub kept_input_values : List InputValueDefinition → Meaning Meta
  kept_input_values values = kept (input_value_def schema) input_directives (include_deprecated arguments) values
