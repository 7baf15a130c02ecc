-- The objects of introspection leave nothing out.
use Rattle.std.proofs.Common.{◌≡◌, ℕ, Bool, true, false, if◌then◌else◌, List, [], ◌∷◌, map, Option, Some, None}
use Rattle.std.specs.Prelude.{codes}
use Rattle.std.specs.Option.{option_map}
use Rattle.std.specs.Str.{bytes_eq}
use Rattle.gql_ast.specs.ValueText.{value_text}
use Rattle.gql_ast_base.specs.Names.{Named}
use Rattle.gql_ast_base.specs.declared.type_ref.TypeRef.{TypeRef, out-TypeRef}
use Rattle.gql_ast_base.specs.declared.type_ref.TypeRef.TheOpen.{TypeRef-F}
use Rattle.gql_ast.specs.declared.field_definition.EnumValueDefinition.{EnumValueDefinition}
use Rattle.gql_ast.specs.declared.field_definition.FieldDefinition.{FieldDefinition}
use Rattle.gql_ast.specs.declared.field_definition.InputValueDefinition.{InputValueDefinition}
use Rattle.gql_ast.specs.declared.schema_definition.DirectiveDefinition.{DirectiveDefinition}
use Rattle.gql_resolvers.specs.Meaning.{Members}
use Rattle.gql_introspection.specs.Answers.{text_leaf, text_or_null, all_of, objects, texts}
use Rattle.gql_introspection.specs.Deprecation.{deprecation_reason}
use Rattle.gql_introspection.specs.DirectiveDef.{directive_row}
use Rattle.gql_introspection.specs.EnumValueDef.{enum_value_row}
use Rattle.gql_introspection.specs.FieldDef.{field_row}
use Rattle.gql_introspection.specs.InputValueDef.{input_value_row}
use Rattle.gql_introspection.specs.Meta.{Meta, schema_meta, type_def, wrapped, directive_def, field_def, enum_value_def, input_value_def}
use Rattle.gql_introspection.specs.MetaMeaning.{meta_row, or_unknown, meta_meaning}
use Rattle.gql_introspection.specs.NamedTypes.{type_or_null, named_type, root_type, type_level, type_meaning}
use Rattle.gql_introspection.specs.RootFields.{type_by, name_argument, type_field_meaning, schema_field_meaning}
use Rattle.gql_introspection.specs.SchemaMeta.{schema_row}
use Rattle.gql_introspection.specs.TypeDef.{type_description, scalar_url, type_fields, type_interfaces, possible_types, enum_values, input_fields, one_of, type_row}
use Rattle.gql_introspection.specs.Wrapped.{wrapped_kind, inner_level, inner_type, is_null_field, wrapped_row}
use Rattle.gql_resolvers.specs.Resolved.{Meaning, Meanings, gives_object}
use Rattle.gql_resolvers.specs.Skips.{SkipsNothing, SkipNothing}
use Rattle.gql_schema_types.specs.Types.{type_called}
use Rattle.gql_schema_types.specs.declared.schema.Schema.{Schema}
use Rattle.gql_schema_types.specs.declared.types.ExtendedType.{ExtendedType}
use Rattle.gql_schema_types.specs.declared.types.ExtendedType.TheVariants.{Scalar, Object, Interface, Union, Enum, InputObject}

text-whole : (text : Option (List ℕ)) → SkipsNothing (text_or_null text)
text-whole (Some text) = tt
text-whole None = tt

objects-whole : (xs : List Meta) → SkipsNothing (objects xs)
objects-whole [] = tt
objects-whole (x ∷ xs) = (tt, objects-whole xs)

texts-whole : (ts : List (List ℕ)) → SkipsNothing (texts ts)
texts-whole [] = tt
texts-whole (t ∷ ts) = (tt, texts-whole ts)

-- ---- rows

abbrev IsWholeRow : Option (Meaning Meta) → Type 0
IsWholeRow None = Unit {0}
IsWholeRow (Some m) = SkipsNothing m

-- one column, and the others
column : (b : Bool) (m : Meaning Meta) (rest : Option (Meaning Meta)) → SkipsNothing m → IsWholeRow rest → IsWholeRow (if b then Some m else rest)
column true m rest whole others = whole
column false m rest whole others = others

module _ (schema : Schema) where
  type-whole : (found : Option ExtendedType) → SkipsNothing (type_or_null schema found)
  type-whole (Some ty) = tt
  type-whole None = tt

  named-whole : (name : List ℕ) → SkipsNothing (named_type schema name)
  named-whole name = type-whole (type_called name schema.types)

  root-whole : (name : Option Named) → SkipsNothing (root_type schema name)
  root-whole (Some name) = named-whole name.text
  root-whole None = tt

  level-whole : (ty : TypeRef) (k : TypeRef-F TypeRef) → SkipsNothing (type_level schema ty k)
  level-whole ty (TypeRef-F.Named name) = named-whole name.text
  level-whole ty (TypeRef-F.NonNullNamed name) = tt
  level-whole ty (TypeRef-F.List item) = tt
  level-whole ty (TypeRef-F.NonNullList item) = tt

  meaning-whole : (ty : TypeRef) → SkipsNothing (type_meaning schema ty)
  meaning-whole ty = level-whole ty (out-TypeRef ty)

  inner-whole : (ty : TypeRef) (stripped : Bool) (k : TypeRef-F TypeRef) → SkipsNothing (inner_level schema ty stripped k)
  inner-whole ty stripped (TypeRef-F.Named name) = tt
  inner-whole ty true (TypeRef-F.NonNullNamed name) = tt
  inner-whole ty false (TypeRef-F.NonNullNamed name) = named-whole name.text
  inner-whole ty stripped (TypeRef-F.List item) = meaning-whole item
  inner-whole ty true (TypeRef-F.NonNullList item) = meaning-whole item
  inner-whole ty false (TypeRef-F.NonNullList item) = tt

  -- ---- the columns of `__Type`

  fields-whole : (arguments : Members) (ty : ExtendedType) → SkipsNothing (type_fields schema arguments ty)
  fields-whole arguments (Scalar it) = tt
  fields-whole arguments (Object it) = objects-whole _
  fields-whole arguments (Interface it) = objects-whole _
  fields-whole arguments (Union it) = tt
  fields-whole arguments (Enum it) = tt
  fields-whole arguments (InputObject it) = tt

  interfaces-whole : (ty : ExtendedType) → SkipsNothing (type_interfaces schema ty)
  interfaces-whole (Scalar it) = tt
  interfaces-whole (Object it) = objects-whole _
  interfaces-whole (Interface it) = objects-whole _
  interfaces-whole (Union it) = tt
  interfaces-whole (Enum it) = tt
  interfaces-whole (InputObject it) = tt

  possible-whole : (ty : ExtendedType) → SkipsNothing (possible_types schema ty)
  possible-whole (Scalar it) = tt
  possible-whole (Object it) = tt
  possible-whole (Interface it) = objects-whole _
  possible-whole (Union it) = objects-whole _
  possible-whole (Enum it) = tt
  possible-whole (InputObject it) = tt

  values-whole : (arguments : Members) (ty : ExtendedType) → SkipsNothing (enum_values schema arguments ty)
  values-whole arguments (Scalar it) = tt
  values-whole arguments (Object it) = tt
  values-whole arguments (Interface it) = tt
  values-whole arguments (Union it) = tt
  values-whole arguments (Enum it) = objects-whole _
  values-whole arguments (InputObject it) = tt

  inputs-whole : (arguments : Members) (ty : ExtendedType) → SkipsNothing (input_fields schema arguments ty)
  inputs-whole arguments (Scalar it) = tt
  inputs-whole arguments (Object it) = tt
  inputs-whole arguments (Interface it) = tt
  inputs-whole arguments (Union it) = tt
  inputs-whole arguments (Enum it) = tt
  inputs-whole arguments (InputObject it) = objects-whole _

  one-of-whole : (ty : ExtendedType) → SkipsNothing (one_of ty)
  one-of-whole (Scalar it) = tt
  one-of-whole (Object it) = tt
  one-of-whole (Interface it) = tt
  one-of-whole (Union it) = tt
  one-of-whole (Enum it) = tt
  one-of-whole (InputObject it) = tt

  -- ---- each row

  schema-row : (f : List ℕ) → IsWholeRow (schema_row schema f)
  schema-row f =
      column (bytes_eq f (codes "description")) _ _ (text-whole _)
      (column (bytes_eq f (codes "types")) _ _ (objects-whole _)
      (column (bytes_eq f (codes "queryType")) _ _ (root-whole _)
      (column (bytes_eq f (codes "mutationType")) _ _ (root-whole _)
      (column (bytes_eq f (codes "subscriptionType")) _ _ (root-whole _)
      (column (bytes_eq f (codes "directives")) _ _ (objects-whole _) tt)))))

  type-row : (ty : ExtendedType) (f : List ℕ) (arguments : Members) → IsWholeRow (type_row schema ty f arguments)
  type-row ty f arguments =
      column (bytes_eq f (codes "kind")) _ _ tt
      (column (bytes_eq f (codes "name")) _ _ tt
      (column (bytes_eq f (codes "description")) _ _ (text-whole _)
      (column (bytes_eq f (codes "fields")) _ _ (fields-whole arguments ty)
      (column (bytes_eq f (codes "interfaces")) _ _ (interfaces-whole ty)
      (column (bytes_eq f (codes "possibleTypes")) _ _ (possible-whole ty)
      (column (bytes_eq f (codes "enumValues")) _ _ (values-whole arguments ty)
      (column (bytes_eq f (codes "inputFields")) _ _ (inputs-whole arguments ty)
      (column (bytes_eq f (codes "ofType")) _ _ tt
      (column (bytes_eq f (codes "specifiedByURL")) _ _ (text-whole _)
      (column (bytes_eq f (codes "isOneOf")) _ _ (one-of-whole ty) tt))))))))))

  wrapped-row : (ty : TypeRef) (stripped : Bool) (f : List ℕ) → IsWholeRow (wrapped_row schema ty stripped f)
  wrapped-row ty stripped f =
      column (bytes_eq f (codes "kind")) _ _ (text-whole _)
      (column (bytes_eq f (codes "ofType")) _ _ (inner-whole ty stripped (out-TypeRef ty))
      (column (is_null_field f) _ _ tt tt))

  directive-row : (directive : DirectiveDefinition) (f : List ℕ) (arguments : Members) → IsWholeRow (directive_row schema directive f arguments)
  directive-row directive f arguments =
      column (bytes_eq f (codes "name")) _ _ tt
      (column (bytes_eq f (codes "description")) _ _ (text-whole _)
      (column (bytes_eq f (codes "locations")) _ _ (texts-whole _)
      (column (bytes_eq f (codes "args")) _ _ (objects-whole _)
      (column (bytes_eq f (codes "isRepeatable")) _ _ tt tt))))

  field-row : (field : FieldDefinition) (f : List ℕ) (arguments : Members) → IsWholeRow (field_row schema field f arguments)
  field-row field f arguments =
      column (bytes_eq f (codes "name")) _ _ tt
      (column (bytes_eq f (codes "description")) _ _ (text-whole _)
      (column (bytes_eq f (codes "args")) _ _ (objects-whole _)
      (column (bytes_eq f (codes "type")) _ _ (meaning-whole field.ty)
      (column (bytes_eq f (codes "isDeprecated")) _ _ tt
      (column (bytes_eq f (codes "deprecationReason")) _ _ (text-whole _) tt)))))

  value-row : (value : EnumValueDefinition) (f : List ℕ) → IsWholeRow (enum_value_row schema value f)
  value-row value f =
      column (bytes_eq f (codes "name")) _ _ tt
      (column (bytes_eq f (codes "description")) _ _ (text-whole _)
      (column (bytes_eq f (codes "isDeprecated")) _ _ tt
      (column (bytes_eq f (codes "deprecationReason")) _ _ (text-whole _) tt)))

  input-row : (value : InputValueDefinition) (f : List ℕ) → IsWholeRow (input_value_row schema value f)
  input-row value f =
      column (bytes_eq f (codes "name")) _ _ tt
      (column (bytes_eq f (codes "description")) _ _ (text-whole _)
      (column (bytes_eq f (codes "type")) _ _ (meaning-whole value.ty)
      (column (bytes_eq f (codes "defaultValue")) _ _ (text-whole _)
      (column (bytes_eq f (codes "isDeprecated")) _ _ tt
      (column (bytes_eq f (codes "deprecationReason")) _ _ (text-whole _) tt)))))

  by-whole : (name : Option (List ℕ)) → SkipsNothing (type_by schema name)
  by-whole (Some name) = named-whole name
  by-whole None = tt

  pub type-field-whole : (arguments : Members) → SkipsNothing (type_field_meaning schema arguments)
  type-field-whole arguments = by-whole (name_argument arguments)

row-whole : (object : Meta) (f : List ℕ) (arguments : Members) → IsWholeRow (meta_row object f arguments)
row-whole (schema_meta schema) f arguments = schema-row schema f
row-whole (type_def schema ty) f arguments = type-row schema ty f arguments
row-whole (wrapped schema ty stripped) f arguments = wrapped-row schema ty stripped f
row-whole (directive_def schema directive) f arguments = directive-row schema directive f arguments
row-whole (field_def schema field) f arguments = field-row schema field f arguments
row-whole (enum_value_def schema value) f arguments = value-row schema value f
row-whole (input_value_def schema value) f arguments = input-row schema value f

known-whole : (row : Option (Meaning Meta)) (object : Meta) (f : List ℕ) → IsWholeRow row → SkipsNothing (or_unknown row object f)
known-whole (Some m) object f whole = whole
known-whole None object f whole = tt

pub meta-whole : (object : Meta) (f : List ℕ) (arguments : Members) → SkipsNothing (meta_meaning object f arguments)
meta-whole object f arguments = known-whole (meta_row object f arguments) object f (row-whole object f arguments)
