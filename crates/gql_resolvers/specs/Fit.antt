-- What is wrong with an answer of a resolver at a type, its parts aside: CompleteValue, section 6.4.3 of GraphQL October 2021.
use Rattle.std.specs.Prelude.{ℕ, Bool, true, false, ◌&&◌, if◌then◌else◌, List, Option, Some, None, codes}
use Rattle.std.specs.Str.{bytes_eq}
use Rattle.jb_tree.specs.declared.value.Value.{Value}
use Rattle.jb_tree.specs.Value.{is_null}
use Rattle.gql_ast_base.specs.Names.{Named}
use Rattle.gql_ast_base.specs.declared.type_ref.TypeRef.{TypeRef}
use Rattle.gql_ast.specs.declared.field_definition.EnumValueDefinition.{EnumValueDefinition}
use Rattle.gql_ast_base.specs.TypeParts.{named_type, is_non_null}
use Rattle.gql_schema_types.specs.Called.{is_among}
use Rattle.gql_schema_types.specs.Schemas.{object_of, type_named}
use Rattle.gql_schema_types.specs.declared.schema.Schema.{Schema}
use Rattle.gql_schema_types.specs.declared.types.ExtendedType.{ExtendedType}
use Rattle.gql_schema_types.specs.declared.types.ExtendedType.TheVariants as type
use Rattle.gql_schema_types.specs.declared.types.ObjectType.{ObjectType}
use Rattle.gql_coerce.specs.Scalars.{is_signed, number_is, scalar_takes, enum_takes}
use Rattle.gql_resolvers.specs.Resolved.{Meaning, gives_leaf, gives_object, gives_list, gives_skip, fails_with, Misfit}
use Rattle.gql_resolvers.specs.Lists.{is_list}
use Rattle.gql_resolvers.specs.Messages as message

abbrev pub wrong : List ℕ → Misfit
wrong text = record { message = text; marked = false }

-- what validation should have found
abbrev pub bug : List ℕ → Misfit
bug text = record { message = text; marked = true }

abbrev pub unless : Bool → Misfit → Option Misfit
unless fits misfit = if fits then None else Some misfit

-- ---- Leaves

-- what is told of a leaf that the scalar type T does not take: at Int, a whole number of 64 bits with a sign overflows
abbrev pub scalar_text : List ℕ → Value → List ℕ
scalar_text T value =
    if bytes_eq T (codes "Int") && number_is is_signed value then message.overflowing_leaf value
    else message.other_leaf value T

abbrev pub scalar_misfit : List ℕ → Value → Option Misfit
scalar_misfit T value = unless (scalar_takes T value) (wrong (scalar_text T value))

abbrev pub enum_misfit : List ℕ → List EnumValueDefinition → Value → Option Misfit
enum_misfit T values value = unless (enum_takes values value) (wrong (message.other_enum value T))

-- a leaf that is not null, at the type of the name T
abbrev pub leaf_at : Option ExtendedType → List ℕ → Value → Option Misfit
leaf_at None T value = Some (bug (message.undefined_type T))
leaf_at (Some (type.Scalar it)) T value = scalar_misfit T value
leaf_at (Some (type.Enum it)) T value = enum_misfit T it.values value
leaf_at (Some (type.InputObject it)) T value = Some (bug (message.input_object_type T))
leaf_at (Some (type.Object it)) T value = Some (wrong (message.leaf_at_composite T))
leaf_at (Some (type.Interface it)) T value = Some (wrong (message.leaf_at_composite T))
leaf_at (Some (type.Union it)) T value = Some (wrong (message.leaf_at_composite T))

-- null fits where it is not ruled out
abbrev pub null_misfit : TypeRef → Option Misfit
null_misfit ty = if is_non_null ty then Some (wrong (message.null_at_non_null ty)) else None

abbrev pub leaf_misfit_at : Option ExtendedType → TypeRef → Value → Option Misfit
leaf_misfit_at named ty value =
    if is_null value then null_misfit ty
    else (if is_list ty then Some (wrong (message.other_at_list ty))
    else leaf_at named (named_type ty).text value)

abbrev pub leaf_misfit : Schema → TypeRef → Value → Option Misfit
leaf_misfit schema ty value = leaf_misfit_at (type_named schema ty) ty value

-- ---- Lists

abbrev pub list_misfit : TypeRef → Option Misfit
list_misfit ty = unless (is_list ty) (wrong (message.list_at_other ty))

-- ---- Objects, by the names of their types

-- at the interface T: the object type that the object names lists it
abbrev pub implementing_misfit : Option ObjectType → List ℕ → List ℕ → Option Misfit
implementing_misfit None T found = Some (wrong (message.object_not_defined found))
implementing_misfit (Some it) T found = unless (is_among T it.implements_interfaces) (wrong (message.no_implementer found T))

-- at the union T: it has the object type that the object names
abbrev pub member_misfit : Option ObjectType → List Named → List ℕ → List ℕ → Option Misfit
member_misfit None members T found = Some (wrong (message.object_not_defined found))
member_misfit (Some it) members T found = unless (is_among found members) (wrong (message.no_member found T))

module _ (schema : Schema) where
  -- at a type of the name T
  abbrev pub object_at : Option ExtendedType → List ℕ → List ℕ → Option Misfit
  object_at None T found = Some (bug (message.undefined_type T))
  object_at (Some (type.Object it)) T found = unless (bytes_eq found T) (wrong (message.other_object found T))
  object_at (Some (type.Interface it)) T found = implementing_misfit (object_of schema found) T found
  object_at (Some (type.Union it)) T found = member_misfit (object_of schema found) it.members T found
  object_at (Some (type.InputObject it)) T found = Some (bug (message.input_object_type T))
  object_at (Some (type.Scalar it)) T found = Some (wrong (message.object_at_leaf found T))
  object_at (Some (type.Enum it)) T found = Some (wrong (message.object_at_leaf found T))

  abbrev pub object_misfit : TypeRef → List ℕ → Option Misfit
  object_misfit ty found =
      if is_list ty then Some (wrong (message.other_at_list ty))
      else object_at (type_named schema ty) (named_type ty).text found

  -- what is wrong with an answer; a failure is wrong at any type, and what is to be left out fits any
  abbrev pub misfit : {X : Type 0} → (X → List ℕ) → TypeRef → Meaning X → Option Misfit
  misfit type_of ty (gives_leaf value) = leaf_misfit schema ty value
  misfit type_of ty (gives_object x) = object_misfit ty (type_of x)
  misfit type_of ty (gives_list ms) = list_misfit ty
  misfit type_of ty gives_skip = None
  misfit type_of ty (fails_with text) = Some (wrong (message.resolver_error text))
