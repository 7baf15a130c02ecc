-- What a response has at places, by the parts of a plan.
use Rattle.std.specs.Prelude.{ℕ, Bool, true, false, ◌&&◌, List, [], ◌∷◌, Option, Some, None, slice_get}
use Rattle.std.specs.Str.{bytes_eq}
use Rattle.jb_tree.specs.declared.value.Value.{Value}
use Rattle.jb_tree.specs.Value.{array_items, object_members}
use Rattle.gql_collect.specs.Groups.{response_name}
use Rattle.gql_collect.specs.declared.group.Group.{Group}
use Rattle.gql_resolvers.specs.Execute.{Member}
use Rattle.gql_checker_laws.specs.Claims.{Claim}
use Rattle.gql_checker_laws.specs.Identical.{is_identical}
use Rattle.gql_checker_laws.specs.Walk.{kept_if, of_length, second}

abbrev pub is_idle : Option Value → List Claim → Bool
is_idle None [] = true
is_idle None (c ∷ cs) = false
is_idle (Some v) cs = false

-- the value is this leaf
abbrev pub is_leaf : Value → Option Value → Bool
is_leaf leaf None = false
is_leaf leaf (Some u) = is_identical leaf u

-- an array of this length
abbrev pub items_of : ℕ → Option Value → Option (List Value)
items_of n None = None
items_of n (Some v) = of_length n (array_items v)

abbrev pub key_in : Group → List ℕ
key_in group = (response_name group.first.now).text

abbrev pub have_keys : List Group → List Member → Bool
have_keys [] [] = true
have_keys [] (m ∷ ms) = false
have_keys (g ∷ gs) [] = false
have_keys (g ∷ gs) (m ∷ ms) = bytes_eq (key_in g) m.0 && have_keys gs ms

abbrev pub with_keys : List Group → Option (List Member) → Option (List Member)
with_keys groups None = None
with_keys groups (Some ms) = kept_if (have_keys groups ms) ms

-- an object with the keys of these groups
abbrev pub members_of : List Group → Option Value → Option (List Member)
members_of groups None = None
members_of groups (Some v) = with_keys groups (object_members v)

abbrev pub item_at : ℕ → Option (List Value) → Option Value
item_at index None = None
item_at index (Some vs) = slice_get vs index

abbrev pub member_at : ℕ → Option (List Member) → Option Value
member_at number None = None
member_at number (Some ms) = second (slice_get ms number)
