-- At a type that is defined and is no input object type no fault is marked.
use Rattle.std.proofs.Common.{◌≡◌, ℕ, Bool, true, false, if◌then◌else◌, Option, Some, None, List, sym, ap, ◌∙◌}
use Rattle.std.specs.Str.{bytes_eq}
use Rattle.jb_tree.specs.declared.value.Value.{Value}
use Rattle.jb_tree.specs.Value.{is_null}
use Rattle.gql_ast_base.specs.Names.{Named}
use Rattle.gql_ast_base.specs.TypeParts.{is_non_null, named_type}
use Rattle.gql_ast_base.specs.declared.type_ref.TypeRef.{TypeRef}
use Rattle.gql_coerce.specs.Scalars.{enum_takes, scalar_takes}
use Rattle.gql_resolvers.specs.Fit.{wrong, unless, scalar_text, leaf_at, null_misfit, leaf_misfit_at, implementing_misfit, member_misfit, object_at, misfit}
use Rattle.gql_resolvers.specs.Lists.{is_list}
use Rattle.gql_resolvers.specs.Messages as message
use Rattle.gql_resolvers.specs.Resolved.{Meaning, gives_leaf, gives_object, gives_list, gives_skip, fails_with, Misfit}
use Rattle.gql_schema_rules_parts.specs.OutputType.{is_input_object}
use Rattle.gql_schema_types.specs.Called.{is_among}
use Rattle.gql_schema_types.specs.Schemas.{object_of, type_named}
use Rattle.gql_schema_types.specs.Types.{type_called}
use Rattle.gql_schema_types.specs.declared.schema.Schema.{Schema}
use Rattle.gql_schema_types.specs.declared.types.ExtendedType.{ExtendedType}
use Rattle.gql_schema_types.specs.declared.types.ExtendedType.TheVariants as type
use Rattle.gql_schema_types.specs.declared.types.ObjectType.{ObjectType}

-- the type that a reference names is defined, and is no input object type
pub record IsOutput (types : List ExtendedType) (ty : TypeRef) : Type 0 where
  pub type : ExtendedType
  pub defined : type_called (named_type ty).text types ≡ Some type
  pub output : is_input_object type ≡ false

module _ (found : Misfit) where
  abbrev Unmarked : Type 0
  Unmarked = found.marked ≡ false

  of-wrong : (text : List ℕ) → Some (wrong text) ≡ Some found → Unmarked
  of-wrong text is = let same : wrong text ≡ found = cc in ap (λ (m : Misfit). m.marked) (sym same)

  of-unless : (b : Bool) (text : List ℕ) → unless b (wrong text) ≡ Some found → Unmarked
  of-unless true text is = absurd (let e : None ≡ Some found = is in cc)
  of-unless false text is = of-wrong text is

  of-null : (b : Bool) (text : List ℕ) → (if b then Some (wrong text) else None) ≡ Some found → Unmarked
  of-null true text is = of-wrong text is
  of-null false text is = absurd (let e : None ≡ Some found = is in cc)

  -- ---- leaves

  leaf-at : (t : ExtendedType) → is_input_object t ≡ false → (T : List ℕ) (value : Value) → leaf_at (Some t) T value ≡ Some found → Unmarked
  leaf-at (type.Scalar it) output T value is = of-unless (scalar_takes T value) (scalar_text T value) is
  leaf-at (type.Enum it) output T value is = of-unless (enum_takes it.values value) (message.other_enum value T) is
  leaf-at (type.Object it) output T value is = of-wrong (message.leaf_at_composite T) is
  leaf-at (type.Interface it) output T value is = of-wrong (message.leaf_at_composite T) is
  leaf-at (type.Union it) output T value is = of-wrong (message.leaf_at_composite T) is
  leaf-at (type.InputObject it) output T value is = absurd (let e : true ≡ false = output in cc)

  leaf-misfit : (t : ExtendedType) → is_input_object t ≡ false → (ty : TypeRef) (value : Value) → leaf_misfit_at (Some t) ty value ≡ Some found → Unmarked
  leaf-misfit t output ty value is = by_null (is_null value) is
    where
      by_list : (b : Bool) → (if b then Some (wrong (message.other_at_list ty)) else leaf_at (Some t) (named_type ty).text value) ≡ Some found → Unmarked
      by_list true is = of-wrong (message.other_at_list ty) is
      by_list false is = leaf-at t output (named_type ty).text value is

      by_null : (b : Bool)
          → (if b then null_misfit ty
          else (if is_list ty then Some (wrong (message.other_at_list ty)) else leaf_at (Some t) (named_type ty).text value)) ≡ Some found → Unmarked
      by_null true is = of-null (is_non_null ty) (message.null_at_non_null ty) is
      by_null false is = by_list (is_list ty) is

  -- ---- objects

  implementing : (o : Option ObjectType) (T name : List ℕ) → implementing_misfit o T name ≡ Some found → Unmarked
  implementing None T name is = of-wrong (message.object_not_defined name) is
  implementing (Some it) T name is = of-unless (is_among T it.implements_interfaces) (message.no_implementer name T) is

  a-member : (o : Option ObjectType) (members : List Named) (T name : List ℕ) → member_misfit o members T name ≡ Some found → Unmarked
  a-member None members T name is = of-wrong (message.object_not_defined name) is
  a-member (Some it) members T name is = of-unless (is_among name members) (message.no_member name T) is

  object-at : (schema : Schema) (t : ExtendedType) → is_input_object t ≡ false → (T name : List ℕ) → object_at schema (Some t) T name ≡ Some found → Unmarked
  object-at schema (type.Object it) output T name is = of-unless (bytes_eq name T) (message.other_object name T) is
  object-at schema (type.Interface it) output T name is = implementing (object_of schema name) T name is
  object-at schema (type.Union it) output T name is = a-member (object_of schema name) it.members T name is
  object-at schema (type.Scalar it) output T name is = of-wrong (message.object_at_leaf name T) is
  object-at schema (type.Enum it) output T name is = of-wrong (message.object_at_leaf name T) is
  object-at schema (type.InputObject it) output T name is = absurd (let e : true ≡ false = output in cc)

  -- ---- each answer

  pub unmarked : {X : Type 0} (schema : Schema) (type_of : X → List ℕ) (ty : TypeRef) (answer : Meaning X) → IsOutput schema.types ty
      → misfit schema type_of ty answer ≡ Some found → Unmarked
  unmarked schema type_of ty (gives_leaf value) it is = leaf-misfit it.type it.output ty value (sym (ap (λ o. leaf_misfit_at o ty value) it.defined) ∙ is)
  unmarked schema type_of ty (gives_object x) it is = by_list (is_list ty) is
    where
      by_list : (b : Bool) → (if b then Some (wrong (message.other_at_list ty)) else object_at schema (type_named schema ty) (named_type ty).text (type_of x)) ≡ Some found → Unmarked
      by_list true is = of-wrong (message.other_at_list ty) is
      by_list false is =
          object-at schema it.type it.output (named_type ty).text (type_of x) (sym (ap (λ o. object_at schema o (named_type ty).text (type_of x)) it.defined) ∙ is)
  unmarked schema type_of ty (gives_list answers) it is = of-unless (is_list ty) (message.list_at_other ty) is
  unmarked schema type_of ty gives_skip it is = absurd (let e : None ≡ Some found = is in cc)
  unmarked schema type_of ty (fails_with text) it is = of-wrong (message.resolver_error text) is
