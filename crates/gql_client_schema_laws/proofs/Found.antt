-- Types of a schema and of one that tells it again: by kind, and by name.
use Rattle.std.proofs.Common.{◌≡◌, ℕ, Bool, false, not, ◌&&◌, ◌||◌, List, refl, ap, subst}
use Rattle.std.specs.List.{list_any}
use Rattle.std.specs.Option.{option_map_or}
use Rattle.std.specs.Str.{bytes_eq}
use Rattle.gql_ast_base.specs.Names.{Named}
use Rattle.gql_schema_rules_parts.specs.ObjectTypes.{is_another_kind}
use Rattle.gql_schema_rules_parts.specs.OutputType.{is_input_object}
use Rattle.gql_schema_rules_parts.specs.Subtypes.{is_below, is_subname}
use Rattle.gql_rules_values.specs.Known.{is_known, is_built_in_scalar}
use Rattle.gql_client_schema_laws.specs.Pairs.{Paired}
use Rattle.gql_client_schema_laws.specs.bridge.Pairs.{Both}
use Rattle.gql_client_schema_laws.specs.Retold.{IsRetoldName, IsRetoldScalar, IsRetoldObject, IsRetoldInterface, IsRetoldUnion, IsRetoldEnum, IsRetoldInputObject, IsRetoldType}
use Rattle.gql_client_schema_laws.proofs.Pairs.{value_alike, some_alike, any_alike, find_alike}
use Rattle.gql_schema_types.specs.Implementers.{implements, is_object}
use Rattle.gql_schema_types.specs.Types.{type_name, type_called, is_composite, interfaces_of}
use Rattle.gql_schema_types.specs.declared.types.EnumType.{EnumType}
use Rattle.gql_schema_types.specs.declared.types.ExtendedType.{ExtendedType}
use Rattle.gql_schema_types.specs.declared.types.ExtendedType.TheVariants as type
use Rattle.gql_schema_types.specs.declared.types.InputObjectType.{InputObjectType}
use Rattle.gql_schema_types.specs.declared.types.InterfaceType.{InterfaceType}
use Rattle.gql_schema_types.specs.declared.types.ObjectType.{ObjectType}
use Rattle.gql_schema_types.specs.declared.types.ScalarType.{ScalarType}
use Rattle.gql_schema_types.specs.declared.types.UnionType.{UnionType}

-- two types of one kind
pub by_kind : (P : ExtendedType → ExtendedType → Type 0)
    → ((t u : ScalarType) → IsRetoldScalar t u → P (type.Scalar t) (type.Scalar u))
    → ((t u : ObjectType) → IsRetoldObject t u → P (type.Object t) (type.Object u))
    → ((t u : InterfaceType) → IsRetoldInterface t u → P (type.Interface t) (type.Interface u))
    → ((t u : UnionType) → IsRetoldUnion t u → P (type.Union t) (type.Union u))
    → ((t u : EnumType) → IsRetoldEnum t u → P (type.Enum t) (type.Enum u))
    → ((t u : InputObjectType) → IsRetoldInputObject t u → P (type.InputObject t) (type.InputObject u))
    → (t u : ExtendedType) → IsRetoldType t u → P t u
by_kind P scalar object interface union enumeration input (type.Scalar t) (type.Scalar u) same = scalar t u same
by_kind P scalar object interface union enumeration input (type.Object t) (type.Object u) same = object t u same
by_kind P scalar object interface union enumeration input (type.Interface t) (type.Interface u) same = interface t u same
by_kind P scalar object interface union enumeration input (type.Union t) (type.Union u) same = union t u same
by_kind P scalar object interface union enumeration input (type.Enum t) (type.Enum u) same = enumeration t u same
by_kind P scalar object interface union enumeration input (type.InputObject t) (type.InputObject u) same = input t u same
by_kind P scalar object interface union enumeration input _ _ same = absurd same

-- a test that only the kind decides
pub kind_alike : {Z : Type 0} (f : ExtendedType → Z)
    → ((t u : ScalarType) → f (type.Scalar t) ≡ f (type.Scalar u)) → ((t u : ObjectType) → f (type.Object t) ≡ f (type.Object u))
    → ((t u : InterfaceType) → f (type.Interface t) ≡ f (type.Interface u)) → ((t u : UnionType) → f (type.Union t) ≡ f (type.Union u))
    → ((t u : EnumType) → f (type.Enum t) ≡ f (type.Enum u)) → ((t u : InputObjectType) → f (type.InputObject t) ≡ f (type.InputObject u))
    → (t u : ExtendedType) → IsRetoldType t u → f t ≡ f u
kind_alike f scalar object interface union enumeration input =
    by_kind (λ t u. f t ≡ f u) (λ t u same. scalar t u) (λ t u same. object t u) (λ t u same. interface t u) (λ t u same. union t u)
    (λ t u same. enumeration t u) (λ t u same. input t u)

pub same_type_name : (t u : ExtendedType) → IsRetoldType t u → (type_name t).text ≡ (type_name u).text
same_type_name =
    by_kind (λ t u. (type_name t).text ≡ (type_name u).text) (λ t u same. same.name.text) (λ t u same. same.name.text) (λ t u same. same.name.text)
    (λ t u same. same.name.text) (λ t u same. same.name.text) (λ t u same. same.name.text)

pub same_interfaces : (t u : ExtendedType) → IsRetoldType t u → Paired IsRetoldName (interfaces_of t) (interfaces_of u)
same_interfaces =
    by_kind (λ t u. Paired IsRetoldName (interfaces_of t) (interfaces_of u)) (λ t u same. tt) (λ t u same. same.interfaces)
    (λ t u same. same.interfaces) (λ t u same. tt) (λ t u same. tt) (λ t u same. tt)

pub object_alike : (t u : ExtendedType) → IsRetoldType t u → is_object t ≡ is_object u
object_alike = kind_alike is_object (λ t u. refl) (λ t u. refl) (λ t u. refl) (λ t u. refl) (λ t u. refl) (λ t u. refl)

pub composite_alike : (t u : ExtendedType) → IsRetoldType t u → is_composite t ≡ is_composite u
composite_alike = kind_alike is_composite (λ t u. refl) (λ t u. refl) (λ t u. refl) (λ t u. refl) (λ t u. refl) (λ t u. refl)

pub input_alike : (t u : ExtendedType) → IsRetoldType t u → is_input_object t ≡ is_input_object u
input_alike = kind_alike is_input_object (λ t u. refl) (λ t u. refl) (λ t u. refl) (λ t u. refl) (λ t u. refl) (λ t u. refl)

-- names of two lists are the same, tested alike
pub called_alike : (one other : List ℕ) (names again : List Named) → one ≡ other → Paired IsRetoldName names again
    → list_any (λ (name : Named). bytes_eq one name.text) names ≡ list_any (λ (name : Named). bytes_eq other name.text) again
called_alike one other names again same pairs =
    any_alike IsRetoldName (λ (name : Named). bytes_eq one name.text) (λ (name : Named). bytes_eq other name.text)
    (λ x y is. λ i. bytes_eq (same i) (is.text i)) names again pairs

pub implements_alike : (one other : List ℕ) → one ≡ other → (t u : ExtendedType) → IsRetoldType t u → implements one t ≡ implements other u
implements_alike one other is t u same = called_alike one other (interfaces_of t) (interfaces_of u) is (same_interfaces t u same)

module _ (types others : List ExtendedType) (pairs : Paired IsRetoldType types others) where
  pub found : (name : List ℕ) → Both IsRetoldType (type_called name types) (type_called name others)
  found name =
      find_alike IsRetoldType (λ t. bytes_eq name (type_name t).text) (λ u. bytes_eq name (type_name u).text)
      (λ t u same. ap (bytes_eq name) (same_type_name t u same)) types others pairs

  pub found_as : (one other : List ℕ) → one ≡ other → Both IsRetoldType (type_called one types) (type_called other others)
  found_as one other same = subst (λ n. Both IsRetoldType (type_called one types) (type_called n others)) same (found one)

  pub known_alike : (one other : List ℕ) → one ≡ other → is_known types one ≡ is_known others other
  known_alike one other same =
      λ i. some_alike IsRetoldType (type_called one types) (type_called other others) (found_as one other same) i || is_built_in_scalar (same i)

  pub tested : (test : ExtendedType → Bool) → ((t u : ExtendedType) → IsRetoldType t u → test t ≡ test u) → (one other : List ℕ) → one ≡ other
      → option_map_or test (type_called one types) false ≡ option_map_or test (type_called other others) false
  tested test h one other same = value_alike IsRetoldType test test false h (type_called one types) (type_called other others) (found_as one other same)

  pub another_alike : (one other : List ℕ) → one ≡ other → is_another_kind types one ≡ is_another_kind others other
  another_alike one other same = λ i. known_alike one other same i && not (tested is_object object_alike one other same i)

  below_alike : (name : List ℕ) (t u : ExtendedType) → IsRetoldType t u → is_below types name t ≡ is_below others name u
  below_alike name =
      by_kind (λ t u. is_below types name t ≡ is_below others name u) (λ t u same. refl) (λ t u same. refl)
      (λ t u same. value_alike IsRetoldType (implements t.name.text) (implements u.name.text) false (implements_alike t.name.text u.name.text same.name.text)
      (type_called name types) (type_called name others) (found name))
      (λ t u same. called_alike name name t.members u.members refl same.members) (λ t u same. refl) (λ t u same. refl)

  pub subname_alike : (name other : List ℕ) → is_subname types name other ≡ is_subname others name other
  subname_alike name other =
      ap (λ b. bytes_eq name other || b)
      (value_alike IsRetoldType (is_below types name) (is_below others name) false (below_alike name) (type_called other types) (type_called other others) (found other))
