-- References to types that are not null.
use Rattle.std.proofs.Common.{◌≡◌, ap, ◌∙◌, rules}
use Rattle.gql_ast_base.specs.Names.{Named}
use Rattle.gql_ast_base.specs.declared.type_ref.TypeRef.{TypeRef, List as ListOf, NonNullList, the_lemmas}
use Rattle.gql_ast_base.specs.declared.type_ref.TypeRef.TheVariants.{Named as NamedType, NonNullNamed}
use Rattle.gql_ast_base.specs.Types.{non_null}

pub required : (name : Named) → NonNullNamed name ≡ non_null (NamedType name)
required name = search (rules, the_lemmas)

required_list_of : (item : TypeRef) → NonNullList item ≡ non_null (ListOf item)
required_list_of item = search (rules, the_lemmas)

pub list : (name : Named) → ListOf (NonNullNamed name) ≡ ListOf (non_null (NamedType name))
list name = ap ListOf (required name)

pub required_list : (name : Named) → NonNullList (NonNullNamed name) ≡ non_null (ListOf (non_null (NamedType name)))
required_list name = ap NonNullList (required name) ∙ required_list_of (non_null (NamedType name))
