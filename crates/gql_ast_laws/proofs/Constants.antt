-- Which values are constant, kind by kind.
use Rattle.std.proofs.Common.{◌≡◌, ℕ, List, map, Bool, true, false, ◌&&◌, refl, rules}
use Rattle.gql_ast_base.specs.Names.{Named}
use Rattle.gql_ast_base.specs.declared.value.Value.{Value}
use Rattle.gql_ast_base.specs.declared.value.ValueKind.{Null, Variable, Int, Float, String, Boolean, Enum, List as ListKind, Object as ObjectKind, the_lemmas}
use Rattle.gql_ast_laws.specs.Constants.{all_true, all_members_true, is_constant_kind, is_constant}

pub constant-Null : is_constant_kind Null ≡ true
unfolding is_constant_kind
constant-Null = search (rules, the_lemmas)

pub constant-Variable : (name : Named) → is_constant_kind (Variable name) ≡ false
unfolding is_constant_kind
constant-Variable name = search (rules, the_lemmas)

pub constant-Int : (text : List ℕ) → is_constant_kind (Int text) ≡ true
unfolding is_constant_kind
constant-Int text = search (rules, the_lemmas)

pub constant-Float : (text : List ℕ) → is_constant_kind (Float text) ≡ true
unfolding is_constant_kind
constant-Float text = search (rules, the_lemmas)

pub constant-String : (text : List ℕ) → is_constant_kind (String text) ≡ true
unfolding is_constant_kind
constant-String text = search (rules, the_lemmas)

pub constant-Boolean : (truth : Bool) → is_constant_kind (Boolean truth) ≡ true
unfolding is_constant_kind
constant-Boolean truth = search (rules, the_lemmas)

pub constant-Enum : (name : Named) → is_constant_kind (Enum name) ≡ true
unfolding is_constant_kind
constant-Enum name = search (rules, the_lemmas)

pub constant-List : (items : List Value) → is_constant_kind (ListKind items) ≡ all_true (map is_constant items)
unfolding is_constant_kind
constant-List items = search (rules, the_lemmas)

-- a name beside whether its value is constant
abbrev pub judged : Named × Value → Named × Bool
judged member = (member.0, is_constant member.1)

pub constant-Object : (members : List (Named × Value)) → is_constant_kind (ObjectKind members) ≡ all_members_true (map judged members)
unfolding is_constant_kind
constant-Object members = search (rules, the_lemmas)

pub both-true : (a b : Bool) → (a && b) ≡ true → (a ≡ true) × (b ≡ true)
both-true true true h = (refl, refl)
both-true true false h = absurd (cc)
both-true false b h = absurd (cc)
