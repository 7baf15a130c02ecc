-- The fields of the built-in types, in a schema that has these types.
use Rattle.std.proofs.Common.{rules, ◌≡◌, ℕ, Option, Some, List, [], ◌∷◌, codes, refl, ap, ◌∙◌}
use Rattle.std.specs.Option.{option_and_then, option_or}
use Rattle.gql_ast_base.specs.Names.{Named}
use Rattle.gql_ast_base.specs.Types.{non_null}
use Rattle.gql_ast_base.specs.declared.type_ref.TypeRef.{TypeRef, List as ListOf, NonNullList, the_lemmas}
use Rattle.gql_ast_base.specs.declared.type_ref.TypeRef.TheVariants as ref
use Rattle.gql_ast.specs.declared.field_definition.FieldDefinition.{FieldDefinition}
use Rattle.gql_ast.specs.declared.field_definition.InputValueDefinition.{InputValueDefinition}
use Rattle.gql_client_schema_laws.specs.Introspection.{Form, plain, required, list, required_list, formed, TakesDeprecated, Takes, FieldRow, HasField}
use Rattle.gql_schema.specs.BuiltInSchema.{built_in_file}
use Rattle.gql_schema.specs.Rows as rows
use Rattle.gql_schema_types.specs.Entries.{entry}
use Rattle.gql_schema_types.specs.Schemas.{field_of, field_on, meta_field, is_query_root}
use Rattle.gql_schema_types.specs.Types.{type_called, fields_of, field_name, is_composite}
use Rattle.gql_schema_types.specs.declared.schema.Schema.{Schema}
use Rattle.gql_schema_types.specs.declared.types.ExtendedType.{ExtendedType}

-- what is opened to compute the built-in definitions
unfoldable pub rows_computed : Unit {0}
unfolding rows.arguments_at rows.fields_at rows.values_at rows.argument_of rows.field_of rows.enum_value_of rows.object_of rows.enum_of rows.scalar_of
rows_computed = tt

-- a name of the built-in text
abbrev pub name_of : ℕ → ℕ → List ℕ → Named
name_of start end text = record { text = text; location = Some (record { file_id = built_in_file; offset = start; end_offset = end }) }

-- ---- references, as the text's forms make them

abbrev pub form_made : Form → Named → TypeRef
form_made plain name = ref.Named name
form_made required name = non_null (ref.Named name)
form_made list name = ListOf (non_null (ref.Named name))
form_made required_list name = non_null (ListOf (non_null (ref.Named name)))

required-is : (name : Named) → non_null (ref.Named name) ≡ ref.NonNullNamed name
required-is name = search (rules, the_lemmas)

required_list-is : (item : TypeRef) → non_null (ListOf item) ≡ NonNullList item
required_list-is item = search (rules, the_lemmas)

form-is : (form : Form) (name : Named) → form_made form name ≡ formed form name
form-is plain name = refl
form-is required name = required-is name
form-is list name = ap ListOf (required-is name)
form-is required_list name = required_list-is (non_null (ref.Named name)) ∙ ap NonNullList (required-is name)

-- `includeDeprecated: Boolean`
pub takes-deprecated : (arguments : List InputValueDefinition) (argument : InputValueDefinition) (name : Named) → arguments ≡ argument ∷ [] → argument.name.text ≡ codes "includeDeprecated"
    → argument.ty ≡ ref.Named name → name.text ≡ codes "Boolean" → TakesDeprecated arguments
takes-deprecated arguments argument name only named is target =
    record { argument = argument; only = only; named = named; ty = record { name = name; is = is; named = target } }

module _ (S : Schema) where
  field-found : (T : List ℕ) (t : ExtendedType) → type_called T S.types ≡ Some t → (name : List ℕ) (definition : FieldDefinition)
      → entry field_name name (fields_of t) ≡ Some definition → field_of S T name ≡ Some definition
  field-found T t called name definition found =
      ap (option_and_then (λ (ty : ExtendedType). field_on S.schema_definition ty T name)) called
      ∙ ap (λ (o : Option FieldDefinition). option_or o (meta_field (is_composite t) (is_query_root S.schema_definition T) name)) found

  pub has-field : (T : List ℕ) (t : ExtendedType) → type_called T S.types ≡ Some t → (it : FieldRow) (definition : FieldDefinition) (name : Named)
      → entry field_name it.name (fields_of t) ≡ Some definition → definition.ty ≡ form_made it.form name → name.text ≡ it.target → Takes it.deprecated definition.arguments
      → HasField S T it
  has-field T t called it definition name found is named takes = record {
    definition = definition;
    found = field-found T t called it.name definition found;
    refers = record { name = name; is = is ∙ form-is it.form name; named = named };
    takes = takes;
  }
