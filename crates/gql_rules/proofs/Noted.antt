-- Names that are noted.
use Rattle.std.proofs.Common.{◌≡◌, ℕ, Bool, true, false, ◌||◌, if◌then◌else◌, List, [], ◌∷◌, ◌++◌, map, fold, position, is_some, refl, sym, ap, ◌∙◌}
use Rattle.std.specs.List.{list_any}
use Rattle.std.specs.Str.{bytes_eq}
use Rattle.std.proofs.lemmas.List.Folds.{list_any-append}
use Rattle.std.proofs.lemmas.Slice.Eq.{bytes_eq-Decides}
use Rattle.std.proofs.lemmas.Map.Made.{is_some-lookup}
use Rattle.indexmap.proofs.MapLemmas.{some_index}
use Rattle.std.specs.Map.{lookup, keys_of}
use Rattle.gql_rules.proofs.Firsts.{or-false}
use Rattle.gql_rules.specs.bridge.Operations.{with_name}

or_assoc : (a b c : Bool) → ((a || b) || c) ≡ (a || (b || c))
or_assoc true b c = refl
or_assoc false b c = refl

kept : (a b : Bool) → (b ≡ true → a ≡ true) → a ≡ (a || b)
kept true b h = refl
kept false true h = h refl
kept false false h = refl

abbrev beside : List ℕ → List ℕ × List ℕ
beside k = (k, k)

keys_back : (ks : List (List ℕ)) → keys_of (map beside ks) ≡ ks
keys_back [] = refl
keys_back (k ∷ ks) = ap (λ l. k ∷ l) (keys_back ks)

pub is_some-position : (t : List ℕ → Bool) (ks : List (List ℕ)) → is_some (position t ks) ≡ list_any t ks
is_some-position t ks =
    ap (λ l. is_some (position t l)) (sym (keys_back ks)) ∙ some_index t (map beside ks) ∙ is_some-lookup t (map beside ks) ∙ ap (list_any t) (keys_back ks)

one : (n : List ℕ) (names : List (List ℕ)) (x : List ℕ) → list_any (bytes_eq n) (with_name names x) ≡ (list_any (bytes_eq n) names || bytes_eq n x)
one n names x = by_seen (is_some (position (bytes_eq x) names)) refl
  where
    by_seen : (b : Bool) → is_some (position (bytes_eq x) names) ≡ b
        → list_any (bytes_eq n) (if b then names else names ++ x ∷ []) ≡ (list_any (bytes_eq n) names || bytes_eq n x)
    by_seen true is =
        kept (list_any (bytes_eq n) names) (bytes_eq n x)
        (λ same. ap (λ k. list_any (bytes_eq k) names) ((bytes_eq-Decides n x).0 same) ∙ sym (is_some-position (bytes_eq x) names) ∙ is)
    by_seen false is = list_any-append (bytes_eq n) names (x ∷ []) ∙ ap (λ b. list_any (bytes_eq n) names || b) (or-false (bytes_eq n x))

pub noted : {U : Type 0} (name_of : U → List ℕ) (n : List ℕ) (names : List (List ℕ)) (uses : List U)
    → list_any (bytes_eq n) (fold (λ names u. with_name names (name_of u)) names uses) ≡ (list_any (bytes_eq n) names || list_any (λ u. bytes_eq n (name_of u)) uses)
noted name_of n names [] = sym (or-false (list_any (bytes_eq n) names))
noted name_of n names (u ∷ uses) =
    noted name_of n (with_name names (name_of u)) uses
    ∙ ap (λ b. b || list_any (λ u. bytes_eq n (name_of u)) uses) (one n names (name_of u))
    ∙ or_assoc (list_any (bytes_eq n) names) (bytes_eq n (name_of u)) (list_any (λ u. bytes_eq n (name_of u)) uses)
