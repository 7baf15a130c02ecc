-- Response keys that are noted field by field have the numbers of the first fields that have them.
use Rattle.std.proofs.Common.{◌≡◌, ℕ, suc, ◌+◌, Bool, true, false, cond, Option, Some, None, List, [], ◌∷◌, ◌++◌, length, map, refl, sym, ap, ◌∙◌, append_assoc, length-append}
use Rattle.std.specs.Map.{lookup}
use Rattle.std.specs.Option.{unwrap_or, option_map}
use Rattle.std.specs.Str.{bytes_eq}
use Rattle.std.proofs.lemmas.List.{append-nil}
use Rattle.std.proofs.lemmas.Slice.Eq.{bytes_eq-Decides}
use Rattle.gql_rules_merging.specs.bridge.Keying.{Noted, noted, with_key, with_field, with_fields}
use Rattle.gql_rules_merging.specs.Numbering.{Selected}
use Rattle.gql_rules_merging.specs.ResponseKeys.{key_of, has_key, place_of, key_number, key_numbers}

-- the first of some items, or else of the next one
abbrev or_next : Option ℕ → Bool → ℕ → Option ℕ
or_next (Some n) test next = Some n
or_next None true next = Some next
or_next None false next = None

position_more : (test : Selected → Bool) (xs : List Selected) (y : Selected) → place_of test (xs ++ y ∷ []) ≡ or_next (place_of test xs) (test y) (length xs)
position_more test [] y = by_test (test y)
  where
    by_test : (t : Bool) → cond t (Some 0) (option_map suc None) ≡ or_next None t 0
    by_test true = refl
    by_test false = refl
position_more test (x ∷ xs) y = by_test (position_more test xs y) (test x)
  where
    later : (o : Option ℕ) (t : Bool) → option_map suc (or_next o t (length xs)) ≡ or_next (option_map suc o) t (suc (length xs))
    later (Some n) t = refl
    later None true = refl
    later None false = refl

    by_test : place_of test (xs ++ y ∷ []) ≡ or_next (place_of test xs) (test y) (length xs) → (t : Bool)
        → cond t (Some 0) (option_map suc (place_of test (xs ++ y ∷ []))) ≡ or_next (cond t (Some 0) (option_map suc (place_of test xs))) (test y) (suc (length xs))
    by_test rest true = refl
    by_test rest false = ap (option_map suc) rest ∙ later (place_of test xs) (test y)

lookup_more : (test : List ℕ → Bool) (xs : List (List ℕ × ℕ)) (key : List ℕ) (n : ℕ) → lookup test (xs ++ (key, n) ∷ []) ≡ or_next (lookup test xs) (test key) n
lookup_more test [] key n = by_test (test key)
  where
    by_test : (t : Bool) → cond t (Some n) None ≡ or_next None t n
    by_test true = refl
    by_test false = refl
lookup_more test (x ∷ xs) key n = by_test (lookup_more test xs key n) (test x.0)
  where
    by_test : lookup test (xs ++ (key, n) ∷ []) ≡ or_next (lookup test xs) (test key) n → (t : Bool)
        → cond t (Some x.1) (lookup test (xs ++ (key, n) ∷ [])) ≡ or_next (cond t (Some x.1) (lookup test xs)) (test key) n
    by_test rest true = refl
    by_test rest false = rest

position_on : (test : Selected → Bool) (xs ys : List Selected) (n : ℕ) → place_of test xs ≡ Some n → place_of test (xs ++ ys) ≡ Some n
position_on test [] ys n is = absurd cc
position_on test (x ∷ xs) ys n is = by_test (λ m later. position_on test xs ys m later) (test x) is
  where
    by_rest : ((m : ℕ) → place_of test xs ≡ Some m → place_of test (xs ++ ys) ≡ Some m) → (o : Option ℕ) → place_of test xs ≡ o → option_map suc o ≡ Some n → option_map suc (place_of test (xs ++ ys)) ≡ Some n
    by_rest further None at is = absurd cc
    by_rest further (Some m) at is = ap (option_map suc) (further m at) ∙ is

    by_test : ((m : ℕ) → place_of test xs ≡ Some m → place_of test (xs ++ ys) ≡ Some m) → (t : Bool) → cond t (Some 0) (option_map suc (place_of test xs)) ≡ Some n
        → cond t (Some 0) (option_map suc (place_of test (xs ++ ys))) ≡ Some n
    by_test further true is = is
    by_test further false is = by_rest further (place_of test xs) refl is

bytes_refl : (xs : List ℕ) → bytes_eq xs xs ≡ true
bytes_refl xs = (bytes_eq-Decides xs xs).1 refl

-- what is noted of the fields so far
record Holds (before rest : List Selected) (so_far : Noted) : Type 0 where
  as_many : length so_far.keys ≡ length before
  keys : so_far.keys ≡ map (key_number (before ++ rest)) before
  firsts : (key : List ℕ) → lookup (bytes_eq key) so_far.firsts ≡ place_of (has_key key) before

map_more : {A B : Type 0} (f : A → B) (xs : List A) (x : A) → map f (xs ++ x ∷ []) ≡ map f xs ++ f x ∷ []
map_more f [] x = refl
map_more f (y ∷ xs) x = ap (λ l. f y ∷ l) (map_more f xs x)

holds_on : (before : List Selected) (field : Selected) (rest : List Selected) (so_far : Noted) → Holds before (field ∷ rest) so_far → Holds (before ++ field ∷ []) rest (with_field field so_far)
holds_on before field rest so_far holds = by_place (lookup (bytes_eq key) so_far.firsts) refl
  where
    key : List ℕ
    key = key_of field

    whole : List Selected
    whole = before ++ field ∷ rest

    same_whole : (before ++ field ∷ []) ++ rest ≡ whole
    same_whole = append_assoc before (field ∷ []) rest

    -- the place_of of a key among these and the field
    position_of : (k : List ℕ) → place_of (has_key k) (before ++ field ∷ []) ≡ or_next (place_of (has_key k) before) (bytes_eq k key) (length before)
    position_of k = position_more (has_key k) before field

    keys_with : (n : ℕ) → place_of (has_key key) (before ++ field ∷ []) ≡ Some n → so_far.keys ++ n ∷ [] ≡ map (key_number ((before ++ field ∷ []) ++ rest)) (before ++ field ∷ [])
    keys_with n at =
        let number : n ≡ key_number ((before ++ field ∷ []) ++ rest) field = sym (ap (λ o. unwrap_or o 0) (position_on (has_key key) (before ++ field ∷ []) rest n at)) in
        ap (λ l. l ++ n ∷ []) (holds.keys ∙ ap (λ l. map (key_number l) before) (sym same_whole))
        ∙ ap (λ m. map (key_number ((before ++ field ∷ []) ++ rest)) before ++ m ∷ []) number
        ∙ sym (map_more (key_number ((before ++ field ∷ []) ++ rest)) before field)

    by_place : (o : Option ℕ) → lookup (bytes_eq key) so_far.firsts ≡ o → Holds (before ++ field ∷ []) rest (with_key key so_far o)
    by_place (Some n) at =
        let first : place_of (has_key key) before ≡ Some n = sym (holds.firsts key) ∙ at in
        record {
          as_many = length-append so_far.keys (n ∷ []) ∙ ap (λ m. m + 1) holds.as_many ∙ sym (length-append before (field ∷ []));
          keys = keys_with n (position_on (has_key key) before (field ∷ []) n first);
          firsts = λ k. holds.firsts k ∙ sym (position_of k ∙ stays k (bytes_eq k key) refl);
        }
      where
        stays : (k : List ℕ) (t : Bool) → bytes_eq k key ≡ t → or_next (place_of (has_key k) before) t (length before) ≡ place_of (has_key k) before
        stays k false is = by_none (place_of (has_key k) before)
          where
            by_none : (o : Option ℕ) → or_next o false (length before) ≡ o
            by_none None = refl
            by_none (Some m) = refl
        stays k true is =
            let same : k ≡ key = (bytes_eq-Decides k key).0 is in
            let there : place_of (has_key k) before ≡ Some n = ap (λ x. place_of (has_key x) before) same ∙ sym (holds.firsts key) ∙ at in
            ap (λ o. or_next o true (length before)) there ∙ sym there
    by_place None at =
        let absent : place_of (has_key key) before ≡ None = sym (holds.firsts key) ∙ at in
        let number : place_of (has_key key) (before ++ field ∷ []) ≡ Some (length before) = position_of key ∙ ap (λ o. or_next o (bytes_eq key key) (length before)) absent ∙ ap (λ t. or_next None t (length before)) (bytes_refl key) in
        record {
          as_many = length-append so_far.keys (length so_far.keys ∷ []) ∙ ap (λ m. m + 1) holds.as_many ∙ sym (length-append before (field ∷ []));
          keys = keys_with (length so_far.keys) (number ∙ ap Some (sym holds.as_many));
          firsts = λ k. lookup_more (bytes_eq k) so_far.firsts key (length so_far.keys)
              ∙ ap (λ o. or_next o (bytes_eq k key) (length so_far.keys)) (holds.firsts k)
              ∙ ap (or_next (place_of (has_key k) before) (bytes_eq k key)) holds.as_many
              ∙ sym (position_of k);
        }

hold_all : (before rest : List Selected) (so_far : Noted) → Holds before rest so_far → (with_fields rest so_far).keys ≡ key_numbers (before ++ rest)
hold_all before [] so_far holds = holds.keys ∙ ap (map (key_number (before ++ []))) (sym (append-nil before))
hold_all before (field ∷ rest) so_far holds =
    hold_all (before ++ field ∷ []) rest (with_field field so_far) (holds_on before field rest so_far holds) ∙ ap key_numbers (append_assoc before (field ∷ []) rest)

pub all_noted : (fields : List Selected) → (with_fields fields (noted [] [])).keys ≡ key_numbers fields
all_noted fields = hold_all [] fields (noted [] []) (record { as_many = refl; keys = refl; firsts = λ key. refl })
