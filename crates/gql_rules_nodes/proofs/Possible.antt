-- The possible types of types, by tables of their names.
use Rattle.std.proofs.Common.{◌≡◌, ℕ, Bool, true, false, ◌&&◌, ◌||◌, cond, if◌then◌else◌, Option, Some, None, is_some, List, [], ◌∷◌, ◌++◌, map, fold, filter, position, slice_get, refl, sym, ap, ◌∙◌}
use Rattle.std.specs.List.{list_any}
use Rattle.std.specs.Map.{lookup}
use Rattle.std.specs.Option.{option_map, option_map_or}
use Rattle.std.specs.Str.{bytes_eq}
use Rattle.std.specs.Cmp.Lexicographic.{nat_list_eq_equiv}
use Rattle.std.proofs.lemmas.List.Folds.{list_any-append}
use Rattle.std.proofs.lemmas.Map.Made.{is_some-lookup}
use Rattle.std.proofs.lemmas.Option.{slice_get-map}
use Rattle.std.proofs.lemmas.Slice.Eq.{bytes_eq-Decides}
use Rattle.indexmap.proofs.MapLemmas.{some_index}
use Rattle.gql_ast_base.specs.Names.{Named}
use Rattle.gql_schema_types.proofs.Lookups.{found}
use Rattle.gql_schema_types.specs.Entries.{is_called}
use Rattle.gql_schema_types.specs.Implementers.{Found, implements, is_object, implementers_in, implementers_of}
use Rattle.gql_schema_types.specs.Types.{type_name, type_called}
use Rattle.gql_schema_types.specs.declared.implementers.Implementers.{Implementers}
use Rattle.gql_schema_types.specs.declared.types.ExtendedType.{ExtendedType}
use Rattle.gql_schema_types.specs.declared.types.ExtendedType.TheVariants as type
use Rattle.jb_map.proofs.Positions.{beside, keys_back}
use Rattle.gql_rules_nodes.specs.PossibleTypes.{texts_of, is_among, possible_names, possible_texts, have_common, distinct_texts, names_in, tables_in}
use Rattle.gql_rules_nodes.specs.Seen.{with_name}

-- ---- tests

or-false : (a : Bool) → (a || false) ≡ a
or-false true = refl
or-false false = refl

or_assoc : (a b c : Bool) → ((a || b) || c) ≡ (a || (b || c))
or_assoc true b c = refl
or_assoc false b c = refl

crossed : (a b c d : Bool) → ((a || b) || (c || d)) ≡ ((a || c) || (b || d))
crossed true b c d = refl
crossed false b true d = or-true b d
  where
    or-true : (b d : Bool) → (b || true) ≡ true
    or-true true d = refl
    or-true false d = refl
crossed false b false d = refl

kept : (a b : Bool) → (b ≡ true → a ≡ true) → a ≡ (a || b)
kept true b h = refl
kept false true h = h refl
kept false false h = refl

both_false : (a b : Bool) → (a || b) ≡ false → (a ≡ false) × (b ≡ false)
both_false true b h = absurd (let f : true ≡ false = h in cc)
both_false false b h = (refl, h)

and-false : (a b : Bool) → b ≡ false → (a && b) ≡ false
and-false true b h = h
and-false false b h = refl

-- ---- a table of names has those that were noted

is_some-position : (t : List ℕ → Bool) (ks : List (List ℕ)) → is_some (position t ks) ≡ list_any t ks
is_some-position t ks =
    ap (λ l. is_some (position t l)) (sym (keys_back ks)) ∙ some_index t (map beside ks) ∙ is_some-lookup t (map beside ks) ∙ ap (list_any t) (keys_back ks)

one : (n : List ℕ) (seen : List (List ℕ)) (x : Named) → list_any (bytes_eq n) (with_name seen x) ≡ (list_any (bytes_eq n) seen || bytes_eq n x.text)
one n seen x = by_seen (is_some (position (bytes_eq x.text) seen)) refl
  where
    by_seen : (b : Bool) → is_some (position (bytes_eq x.text) seen) ≡ b
        → list_any (bytes_eq n) (if b then seen else seen ++ x.text ∷ []) ≡ (list_any (bytes_eq n) seen || bytes_eq n x.text)
    by_seen true is =
        kept (list_any (bytes_eq n) seen) (bytes_eq n x.text)
        (λ same. ap (λ k. list_any (bytes_eq k) seen) ((bytes_eq-Decides n x.text).0 same) ∙ sym (is_some-position (bytes_eq x.text) seen) ∙ is)
    by_seen false is = list_any-append (bytes_eq n) seen (x.text ∷ []) ∙ ap (λ b. list_any (bytes_eq n) seen || b) (or-false (bytes_eq n x.text))

noted : (n : List ℕ) (seen : List (List ℕ)) (names : List Named)
    → list_any (bytes_eq n) (fold with_name seen names) ≡ (list_any (bytes_eq n) seen || list_any (bytes_eq n) (texts_of names))
noted n seen [] = sym (or-false (list_any (bytes_eq n) seen))
noted n seen (x ∷ names) =
    noted n (with_name seen x) names
    ∙ ap (λ b. b || list_any (bytes_eq n) (texts_of names)) (one n seen x)
    ∙ or_assoc (list_any (bytes_eq n) seen) (bytes_eq n x.text) (list_any (bytes_eq n) (texts_of names))

-- one of the names is in the table of the others
pub any-table : (others names : List Named)
    → list_any (λ (name : Named). is_some (position (bytes_eq name.text) (distinct_texts others))) names ≡ list_any (is_among (texts_of others)) (texts_of names)
any-table others [] = refl
any-table others (n ∷ names) =
    λ i. (is_some-position (bytes_eq n.text) (distinct_texts others) ∙ noted n.text [] others) i || any-table others names i

-- ---- which list is gone through does not matter

any-or : {X : Type 0} (p q : X → Bool) (xs : List X) → list_any (λ x. p x || q x) xs ≡ (list_any p xs || list_any q xs)
any-or p q [] = refl
any-or p q (x ∷ xs) = ap (λ b. (p x || q x) || b) (any-or p q xs) ∙ crossed (p x) (q x) (list_any p xs) (list_any q xs)

none : {X : Type 0} (xs : List X) → list_any (λ x. false) xs ≡ false
none [] = refl
none (x ∷ xs) = none xs

turned : (x : List ℕ) (ys : List (List ℕ)) → list_any (bytes_eq x) ys ≡ list_any (λ y. bytes_eq y x) ys
turned x [] = refl
turned x (y ∷ ys) = λ i. nat_list_eq_equiv.symm x y i || turned x ys i

pub any-symmetric : (xs ys : List (List ℕ)) → list_any (is_among ys) xs ≡ list_any (is_among xs) ys
any-symmetric [] ys = sym (none ys)
any-symmetric (x ∷ xs) ys = (λ i. turned x ys i || any-symmetric xs ys i) ∙ sym (any-or (λ y. bytes_eq y x) (is_among xs) ys)

-- ---- the possible names by the map of implementers

none_implements : (name : List ℕ) (types : List ExtendedType) → list_any (implements name) types ≡ false
    → filter (λ ty. is_object ty && implements name ty) types ≡ []
none_implements name [] h = refl
none_implements name (ty ∷ types) h =
    let parts = both_false (implements name ty) (list_any (implements name) types) h in
    ap (λ b. cond b (ty ∷ filter (λ ty. is_object ty && implements name ty) types) (filter (λ ty. is_object ty && implements name ty) types))
    (and-false (is_object ty) (implements name ty) parts.0)
    ∙ none_implements name types parts.1

objects : Option Implementers → List Named
objects found = option_map_or (λ found. found.objects) found []

objects-known : (name : List ℕ) (types : List ExtendedType) → option_map_or (λ found. found.objects) (implementers_of name types) [] ≡ (implementers_in name types).objects
objects-known name types = by_any (list_any (implements name) types) refl
  where
    by_any : (b : Bool) → list_any (implements name) types ≡ b
        → option_map_or (λ found. found.objects) (if b then Some (implementers_in name types) else None) [] ≡ (implementers_in name types).objects
    by_any true is = refl
    by_any false is = sym (ap (map type_name) (none_implements name types is))

abbrev pub AreImplementers : Found → List ExtendedType → Type 0
AreImplementers implementers types = (name : List ℕ) → lookup (bytes_eq name) implementers ≡ implementers_of name types

pub names-known : (implementers : Found) (types : List ExtendedType) → AreImplementers implementers types
    → (ty : ExtendedType) → names_in implementers ty ≡ possible_names types ty
names-known implementers types known (type.Scalar it) = refl
names-known implementers types known (type.Object it) = refl
names-known implementers types known (type.Interface it) =
    ap (λ found. option_map_or (λ (found : Implementers). found.objects) found []) (known it.name.text) ∙ objects-known it.name.text types
names-known implementers types known (type.Union it) = refl
names-known implementers types known (type.Enum it) = refl
names-known implementers types known (type.InputObject it) = refl

map-same : {X Y : Type 0} (f g : X → Y) → ((x : X) → f x ≡ g x) → (o : Option X) → option_map f o ≡ option_map g o
map-same f g same None = refl
map-same f g same (Some x) = ap Some (same x)

-- the table at the place of a type
pub table_at : (implementers : Found) (types : List ExtendedType) → AreImplementers implementers types
    → (tables : List (List (List ℕ))) → tables ≡ tables_in implementers types
    → (name : List ℕ) (at : ℕ) → position (is_called type_name name) types ≡ Some at
    → slice_get tables at ≡ option_map (λ ty. distinct_texts (possible_names types ty)) (type_called name types)
table_at implementers types known tables are name at is =
    ap (λ l. slice_get l at) are
    ∙ slice_get-map (λ ty. distinct_texts (names_in implementers ty)) types at
    ∙ ap (option_map (λ ty. distinct_texts (names_in implementers ty))) (sym (found (is_called type_name name) types at is))
    ∙ map-same (λ ty. distinct_texts (names_in implementers ty)) (λ ty. distinct_texts (possible_names types ty))
    (λ ty. ap distinct_texts (names-known implementers types known ty)) (type_called name types)

-- ---- what is answered at a name

-- one of the names is possible for a type, by its table
pub any_at : (types : List ExtendedType) (names : List Named) (o : Option ExtendedType) (table : List (List ℕ))
    → Some table ≡ option_map (λ ty. distinct_texts (possible_names types ty)) o
    → list_any (λ (name : Named). is_some (position (bytes_eq name.text) table)) names
    ≡ option_map_or (λ ty. list_any (is_among (possible_texts types ty)) (texts_of names)) o true
any_at types names None table is = absurd cc
any_at types names (Some ty) table is =
    ap (λ o. option_map_or (λ (table : List (List ℕ)). list_any (λ (name : Named). is_some (position (bytes_eq name.text) table)) names) o true) is
    ∙ any-table (possible_names types ty) names

-- the names of the second type, looked for among those of the first
pub other_way : (types : List ExtendedType) (a b : Option ExtendedType) (names others : List Named)
    → option_map (possible_names types) a ≡ Some names → Some others ≡ option_map (possible_names types) b
    → option_map_or (λ ty. list_any (is_among (possible_texts types ty)) (texts_of others)) a true
    ≡ option_map_or (λ x. option_map_or (have_common types x) b true) a true
other_way types None b names others is also = refl
other_way types (Some x) None names others is also = absurd cc
other_way types (Some x) (Some y) names others is also =
    ap (λ o. option_map_or (λ (names : List Named). list_any (is_among (possible_texts types x)) (texts_of names)) o true) also
    ∙ any-symmetric (possible_texts types y) (possible_texts types x)
