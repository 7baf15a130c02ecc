-- What introspection answers fits the types of its fields.
use Rattle.std.proofs.Common.{◌≡◌, ℕ, Bool, true, false, if◌then◌else◌, Option, Some, None, is_some, List, codes, refl, ap, ◌∙◌}
use Rattle.std.specs.Option.{option_map_or}
use Rattle.std.specs.Str.{bytes_eq}
use Rattle.std.proofs.lemmas.Slice.Eq.{bytes_eq-Decides}
use Rattle.gql_ast_base.specs.TypeParts.{named_type, is_non_null}
use Rattle.gql_ast_base.specs.declared.type_ref.TypeRef.{TypeRef}
use Rattle.gql_ast.specs.declared.field_definition.EnumValueDefinition.{EnumValueDefinition}
use Rattle.gql_coerce.specs.InputTypes.{is_enum_value}
use Rattle.gql_client_schema_laws.specs.Introspection.{Form, RefersAs, HasObject, HasScalar, HasEnum, FieldRow}
use Rattle.gql_client_schema_laws.proofs.Forms.{named-formed, null-formed, many-formed, takes_null, is_many, null-null, text-not_null, truth-not_null, text-text, truth-truth}
use Rattle.gql_resolvers.specs.Fit.{leaf_misfit, leaf_at, list_misfit, object_misfit, object_at, null_misfit, unless, wrong}
use Rattle.gql_resolvers.specs.Lists.{is_list}
use Rattle.gql_resolvers.specs.Messages as message
use Rattle.gql_resolvers.specs.Resolved.{Misfit}
use Rattle.gql_schema_types.specs.Schemas.{type_named}
use Rattle.gql_schema_types.specs.Types.{type_called}
use Rattle.gql_schema_types.specs.declared.schema.Schema.{Schema}
use Rattle.gql_schema_types.specs.declared.types.ExtendedType.{ExtendedType}
use Rattle.gql_schema_types.specs.declared.types.ExtendedType.TheVariants as type
use Rattle.jb_tree.specs.Value.{is_null}
use Rattle.jb_tree.specs.declared.value.Value.{Value}
use Rattle.jb_tree.specs.declared.value.Value.TheVariants as json

abbrev none : Option Misfit
none = None

module _ (schema : Schema) where
  -- the name of a reference
  pub its_name : {form : Form} {target : List ℕ} {ty : TypeRef} → RefersAs form target ty → (named_type ty).text ≡ target
  its_name {form} refers = ap (λ t. (named_type t).text) refers.is ∙ ap (λ n. n.text) (named-formed form refers.name) ∙ refers.named

  pub its_list : {form : Form} {target : List ℕ} {ty : TypeRef} → RefersAs form target ty → is_list ty ≡ is_many form
  its_list {form} refers = ap is_list refers.is ∙ many-formed form refers.name

  pub its_type : {form : Form} {target : List ℕ} {ty : TypeRef} (found : Option ExtendedType) → RefersAs form target ty → type_called target schema.types ≡ found
      → type_named schema ty ≡ found
  its_type found refers called = ap (λ n. type_called n schema.types) (its_name refers) ∙ called

  -- ---- leaves

  leaf-fits : (ty : TypeRef) (value : Value) (found : Option ExtendedType) (target : List ℕ) → is_null value ≡ false → is_list ty ≡ false
      → type_named schema ty ≡ found → (named_type ty).text ≡ target → leaf_at found target value ≡ none → leaf_misfit schema ty value ≡ none
  leaf-fits ty value found target some single is named fits =
      ap (λ b. if b then null_misfit ty else (if is_list ty then Some (wrong (message.other_at_list ty)) else leaf_at (type_named schema ty) (named_type ty).text value)) some
      ∙ ap (λ b. if b then Some (wrong (message.other_at_list ty)) else leaf_at (type_named schema ty) (named_type ty).text value) single
      ∙ ap (λ o. leaf_at o (named_type ty).text value) is ∙ ap (λ n. leaf_at found n value) named ∙ fits

  pub null-fits : (form : Form) (target : List ℕ) (ty : TypeRef) → RefersAs form target ty → takes_null form ≡ true → leaf_misfit schema ty json.Null ≡ none
  null-fits form target ty refers takes =
      ap (λ b. if b then null_misfit ty else (if is_list ty then Some (wrong (message.other_at_list ty)) else leaf_at (type_named schema ty) (named_type ty).text json.Null)) null-null
      ∙ ap (λ b. if b then Some (wrong (message.null_at_non_null ty)) else none) (ap is_non_null refers.is ∙ null-formed form refers.name takes)

  pub text-fits : (form : Form) (ty : TypeRef) (text : List ℕ) → HasScalar schema (codes "String") → RefersAs form (codes "String") ty → is_many form ≡ false
      → leaf_misfit schema ty (json.String text) ≡ none
  text-fits form ty text scalar refers single =
      leaf-fits ty (json.String text) (Some (type.Scalar scalar.scalar)) (codes "String") (text-not_null text) (its_list refers ∙ single)
      (its_type (Some (type.Scalar scalar.scalar)) refers scalar.called) (its_name refers)
      (ap (λ o. unless (is_some o) (wrong (message.other_leaf (json.String text) (codes "String")))) (text-text text))

  pub truth-fits : (form : Form) (ty : TypeRef) (truth : Bool) → HasScalar schema (codes "Boolean") → RefersAs form (codes "Boolean") ty → is_many form ≡ false
      → leaf_misfit schema ty (json.Bool truth) ≡ none
  truth-fits form ty truth scalar refers single =
      leaf-fits ty (json.Bool truth) (Some (type.Scalar scalar.scalar)) (codes "Boolean") (truth-not_null truth) (its_list refers ∙ single)
      (its_type (Some (type.Scalar scalar.scalar)) refers scalar.called) (its_name refers)
      (ap (λ o. unless (is_some o) (wrong (message.other_leaf (json.Bool truth) (codes "Boolean")))) (truth-truth truth))

  pub word-fits : (form : Form) (ty : TypeRef) (text target : List ℕ) (Takes : List EnumValueDefinition → Type 0) (enum : HasEnum schema target Takes)
      → RefersAs form target ty → is_many form ≡ false → is_enum_value enum.enum.values text ≡ true → leaf_misfit schema ty (json.String text) ≡ none
  word-fits form ty text target Takes enum refers single taken =
      leaf-fits ty (json.String text) (Some (type.Enum enum.enum)) target (text-not_null text) (its_list refers ∙ single)
      (its_type (Some (type.Enum enum.enum)) refers enum.called) (its_name refers)
      (ap (λ o. unless (option_map_or (is_enum_value enum.enum.values) o false) (wrong (message.other_enum (json.String text) target))) (text-text text)
      ∙ ap (λ b. unless b (wrong (message.other_enum (json.String text) target))) taken)

  -- ---- lists and objects

  pub list-fits : (form : Form) (target : List ℕ) (ty : TypeRef) → RefersAs form target ty → is_many form ≡ true → list_misfit ty ≡ none
  list-fits form target ty refers many = ap (λ b. unless b (wrong (message.list_at_other ty))) (its_list refers ∙ many)

  pub itself : (text : List ℕ) → bytes_eq text text ≡ true
  itself text = (bytes_eq-Decides text text).1 refl

  pub object-fits : (form : Form) (ty : TypeRef) (target : List ℕ) (rows : List FieldRow) → HasObject schema target rows → RefersAs form target ty → is_many form ≡ false
      → object_misfit schema ty target ≡ none
  object-fits form ty target rows object refers single =
      ap (λ b. if b then Some (wrong (message.other_at_list ty)) else object_at schema (type_named schema ty) (named_type ty).text target) (its_list refers ∙ single)
      ∙ ap (λ o. object_at schema o (named_type ty).text target) (its_type (Some (type.Object object.object)) refers object.called)
      ∙ ap (λ n. unless (bytes_eq target n) (wrong (message.other_object target n))) (its_name refers)
      ∙ ap (λ b. unless b (wrong (message.other_object target target))) (itself target)
