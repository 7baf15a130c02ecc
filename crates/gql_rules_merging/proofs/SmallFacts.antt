-- Small facts that the answers share.
use Rattle.std.proofs.Common.{◌≡◌, ℕ, zero, suc, ◌<◌, ◌≤◌, Bool, true, false, cond, Option, Some, None, List, [], ◌∷◌, drop, length, map, refl, sym, ap, ◌∙◌, arith}
use Rattle.std.specs.List.{slice_get}
use Rattle.std.specs.Option.{option_map, unwrap_or}
use Rattle.std.proofs.lemmas.Option.{slice_get-map, slice_get_within}
use Rattle.gql_rules_merging.specs.Numbering.{Selected}
use Rattle.gql_rules_merging.specs.ResponseKeys.{key_of, has_key, place_of, key_number, key_numbers}

pub dropped_all : {A : Type 0} (xs : List A) (i : ℕ) → length xs ≤ i → drop i xs ≡ []
dropped_all [] zero past = refl
dropped_all [] (suc i) past = refl
dropped_all (x ∷ xs) zero past = absurd (omega (arith, past))
dropped_all (x ∷ xs) (suc i) past = dropped_all xs i (omega (arith, past))

-- ---- the numbers of keys are those of fields

first_within : (test : Selected → Bool) (xs : List Selected) (n : ℕ) → place_of test xs ≡ Some n → n < length xs
first_within test [] n is = absurd cc
first_within test (x ∷ xs) n is = by_test (λ m later. first_within test xs m later) (test x) is
  where
    by_rest : ((m : ℕ) → place_of test xs ≡ Some m → m < length xs) → (o : Option ℕ) → place_of test xs ≡ o → option_map suc o ≡ Some n → n < suc (length xs)
    by_rest further None at is = absurd cc
    by_rest further (Some m) at is = (let e : suc m ≡ n = (let h : Some (suc m) ≡ Some n = is in cc) in omega (arith, e, further m at))

    by_test : ((m : ℕ) → place_of test xs ≡ Some m → m < length xs) → (t : Bool) → cond t (Some 0) (option_map suc (place_of test xs)) ≡ Some n → n < suc (length xs)
    by_test further true is = (let e : 0 ≡ n = (let h : Some 0 ≡ Some n = is in cc) in omega (arith, e))
    by_test further false is = by_rest further (place_of test xs) refl is

number_within : (fields : List Selected) (x : Selected) → 0 < length fields → key_number fields x < length fields
number_within fields x some = by_position (place_of (has_key (key_of x)) fields) refl
  where
    by_position : (o : Option ℕ) → place_of (has_key (key_of x)) fields ≡ o → unwrap_or o 0 < length fields
    by_position None at = some
    by_position (Some n) at = first_within (has_key (key_of x)) fields n at

pub length_map : {A B : Type 0} (f : A → B) (xs : List A) → length (map f xs) ≡ length xs
length_map f [] = refl
length_map f (x ∷ xs) = ap suc (length_map f xs)

pub keys_within : (fields : List Selected) (keys : List ℕ) → keys ≡ key_numbers fields → (a k : ℕ) → slice_get keys a ≡ Some k → k < length keys
keys_within fields keys are a k is = by_field (slice_get fields a) refl
  where
    at_key : slice_get (key_numbers fields) a ≡ Some k
    at_key = ap (λ l. slice_get l a) (sym are) ∙ is

    by_field : (o : Option Selected) → slice_get fields a ≡ o → k < length keys
    by_field None at = absurd (let h : Some k ≡ None = sym at_key ∙ slice_get-map (key_number fields) fields a ∙ ap (option_map (key_number fields)) at in cc)
    by_field (Some x) at =
        let same : k ≡ key_number fields x = (let h : Some k ≡ Some (key_number fields x) = sym at_key ∙ slice_get-map (key_number fields) fields a ∙ ap (option_map (key_number fields)) at in cc) in
        let some : a < length fields = slice_get_within fields a x at in
        omega (arith, same, number_within fields x (omega (arith, some)), ap length are, length_map (key_number fields) fields)
