-- References to types and values, one level at a time.
use Rattle.std.proofs.Common.{rules, ◌≡◌, ℕ, Bool, true, false, List, Some, ap, ◌∙◌}
use Rattle.gql_ast_base.specs.Names.{Named}
use Rattle.gql_ast_base.specs.TypeParts.{named_type, is_non_null}
use Rattle.gql_ast_base.specs.declared.type_ref.TypeRef.{TypeRef, out-TypeRef, List as ListOf, NonNullList, the_lemmas as type_lemmas}
use Rattle.gql_ast_base.specs.declared.type_ref.TypeRef.TheOpen.{TypeRef-F}
use Rattle.gql_ast_base.specs.declared.type_ref.TypeRef.TheVariants as ref
use Rattle.gql_client_schema_laws.specs.Introspection.{Form, plain, required, list, required_list, formed}
use Rattle.gql_resolvers.specs.Lists.{is_list}
use Rattle.gql_resolvers.specs.Types.{item_type, item_level}
use Rattle.jb_tree.specs.Value.{is_null, string_text, truth_value}
use Rattle.jb_tree.specs.declared.value.Value.{the_lemmas as value_lemmas}
use Rattle.jb_tree.specs.declared.value.Value.TheVariants as json

-- ---- references

pub out-named : (name : Named) → out-TypeRef (ref.Named name) ≡ TypeRef-F.Named name
out-named name = search (rules, type_lemmas)

pub out-strict : (name : Named) → out-TypeRef (ref.NonNullNamed name) ≡ TypeRef-F.NonNullNamed name
out-strict name = search (rules, type_lemmas)

pub out-list : (item : TypeRef) → out-TypeRef (ListOf item) ≡ TypeRef-F.List item
out-list item = search (rules, type_lemmas)

pub out-strict_list : (item : TypeRef) → out-TypeRef (NonNullList item) ≡ TypeRef-F.NonNullList item
out-strict_list item = search (rules, type_lemmas)

named-named : (name : Named) → named_type (ref.Named name) ≡ name
named-named name = search (rules, type_lemmas)

named-strict : (name : Named) → named_type (ref.NonNullNamed name) ≡ name
named-strict name = search (rules, type_lemmas)

named-list : (item : TypeRef) → named_type (ListOf item) ≡ named_type item
named-list item = search (rules, type_lemmas)

named-strict_list : (item : TypeRef) → named_type (NonNullList item) ≡ named_type item
named-strict_list item = search (rules, type_lemmas)

pub named-formed : (form : Form) (name : Named) → named_type (formed form name) ≡ name
named-formed plain name = named-named name
named-formed required name = named-strict name
named-formed list name = named-list (ref.NonNullNamed name) ∙ named-strict name
named-formed required_list name = named-strict_list (ref.NonNullNamed name) ∙ named-strict name

-- null is a value of it
abbrev pub takes_null : Form → Bool
takes_null plain = true
takes_null required = false
takes_null list = true
takes_null required_list = false

abbrev pub is_many : Form → Bool
is_many plain = false
is_many required = false
is_many list = true
is_many required_list = true

pub null-formed : (form : Form) (name : Named) → takes_null form ≡ true → is_non_null (formed form name) ≡ false
null-formed plain name takes = search (rules, type_lemmas)
null-formed required name takes = absurd (let e : false ≡ true = takes in cc)
null-formed list name takes = search (rules, type_lemmas)
null-formed required_list name takes = absurd (let e : false ≡ true = takes in cc)

pub many-formed : (form : Form) (name : Named) → is_list (formed form name) ≡ is_many form
many-formed plain name = search (rules, type_lemmas)
many-formed required name = search (rules, type_lemmas)
many-formed list name = search (rules, type_lemmas)
many-formed required_list name = search (rules, type_lemmas)

-- the items of a list are never null
pub item-formed : (form : Form) (name : Named) → is_many form ≡ true → item_type (formed form name) ≡ formed required name
item-formed plain name many = absurd (let e : false ≡ true = many in cc)
item-formed required name many = absurd (let e : false ≡ true = many in cc)
item-formed list name many = ap (item_level (formed list name)) (out-list (ref.NonNullNamed name))
item-formed required_list name many = ap (item_level (formed required_list name)) (out-strict_list (ref.NonNullNamed name))

-- ---- values

pub null-null : is_null json.Null ≡ true
null-null = search (rules, value_lemmas)

pub text-not_null : (text : List ℕ) → is_null (json.String text) ≡ false
text-not_null text = search (rules, value_lemmas)

pub truth-not_null : (truth : Bool) → is_null (json.Bool truth) ≡ false
truth-not_null truth = search (rules, value_lemmas)

pub text-text : (text : List ℕ) → string_text (json.String text) ≡ Some text
text-text text = search (rules, value_lemmas)

pub truth-truth : (truth : Bool) → truth_value (json.Bool truth) ≡ Some truth
truth-truth truth = search (rules, value_lemmas)
