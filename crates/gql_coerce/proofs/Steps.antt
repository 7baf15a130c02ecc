-- Lists of outcomes and maps that are filled, as far as a loop has come.
use Rattle.std.proofs.Common.{◌≡◌, ℕ, ◌+◌, ◌<◌, zero, suc, List, [], ◌∷◌, ◌++◌, length, get_or, slice_get, take, drop, position, true, false, cond, subst, Option, Some, None, Result, Ok, Err, refl, sym, ap, ◌∙◌, arith, add-one}
use Rattle.std.specs.Str.{bytes_eq}
use Rattle.std.specs.List.{IsDistinct}
use Rattle.std.specs.Map.{keys_of, values_of}
use Rattle.jb_map.proofs.Entries.{pair_at, new_at_place}
use Rattle.gql_ast.specs.declared.field_definition.InputValueDefinition.{InputValueDefinition}
use Rattle.gql_coerce.specs.InputTypes.{is_field}
use Rattle.gql_coerce.specs.InputValue.{first_unknown, places}
use Rattle.jb_text.specs.declared.refused.Refused.{Refused}
use Rattle.jb_text.specs.declared.refused.Refused.TheVariants.{Fault, Memory}
use Rattle.jb_tree.specs.declared.value.Value.{Value as JsonValue, Null}
use Rattle.gql_coerce.specs.declared.fault.CoercionFault.{CoercionFault}
use Rattle.gql_coerce.specs.Outcome.{Outcome, Answers, and_then}
use Rattle.gql_coerce.specs.Filled.{Members, with_value, filled}

drop_suc : {A : Type 0} (xs : List A) (i : ℕ) (x : A) → i < length xs → x ≡ get_or xs i x → drop i xs ≡ x ∷ drop (suc i) xs
drop_suc [] i x within is = absurd (omega arith)
drop_suc (a ∷ xs) zero x within is = ap (λ p. p ∷ xs) (sym is)
drop_suc (a ∷ xs) (suc i) x within is = drop_suc xs i x (omega arith) is

-- what is left from an index on begins with the item there
pub drop_at : {A : Type 0} (xs : List A) (i : ℕ) (x : A) → i < length xs → x ≡ get_or xs i x → drop i xs ≡ x ∷ drop (i + 1) xs
drop_at xs i x within is = drop_suc xs i x within is ∙ ap (λ n. x ∷ drop n xs) (sym (add-one i))

-- a whole that stops where a part of it does
pub stops : {A B : Type 0} (part : Outcome A) (whole : Outcome B) (refused : Refused CoercionFault)
    → ((fault : CoercionFault) → part ≡ Err fault → whole ≡ Err fault) → Answers part (Err refused) → Answers whole (Err refused)
stops part whole (Fault fault) follows answers = follows fault answers
stops part whole Memory follows answers = tt

module _ {D : Type 0} (value : D → Outcome (Option JsonValue)) (name : D → List ℕ) where
  pub filled-next : (members : Members) (ds : List D) (i : ℕ) (d : D) (found : Option JsonValue) → i < length ds → d ≡ get_or ds i d → value d ≡ Ok found
      → filled value name members (drop i ds) ≡ filled value name (with_value members (name d) found) (drop (i + 1) ds)
  filled-next members ds i d found within is made =
      ap (filled value name members) (drop_at ds i d within is)
      ∙ ap (λ first. and_then first (λ v. filled value name (with_value members (name d) v) (drop (i + 1) ds))) made

  pub filled-stop : (members : Members) (ds : List D) (i : ℕ) (d : D) (fault : CoercionFault) → i < length ds → d ≡ get_or ds i d → value d ≡ Err fault
      → filled value name members (drop i ds) ≡ Err fault
  filled-stop members ds i d fault within is made =
      ap (filled value name members) (drop_at ds i d within is)
      ∙ ap (λ first. and_then first (λ v. filled value name (with_value members (name d) v) (drop (i + 1) ds))) made

-- ---- Keys

pub drop_got : {A : Type 0} (xs : List A) (i : ℕ) (x : A) → slice_get xs i ≡ Some x → drop i xs ≡ x ∷ drop (i + 1) xs
drop_got [] i x got = cc
drop_got (a ∷ xs) zero x got = let same : a ≡ x = cc in ap (λ p. p ∷ xs) same
drop_got (a ∷ xs) (suc i) x got = drop_got xs i x got ∙ ap (λ n. x ∷ drop n xs) (add-one i) ∙ sym (ap (λ n. x ∷ drop n (a ∷ xs)) (add-one (suc i)))

pub unknown-here : (fields : List InputValueDefinition) (keys : List (List ℕ)) (i : ℕ) (key : List ℕ) → slice_get keys i ≡ Some key → is_field fields key ≡ false
    → first_unknown fields (drop i keys) ≡ Some key
unknown-here fields keys i key got other =
    ap (first_unknown fields) (drop_got keys i key got) ∙ ap (λ b. cond b (first_unknown fields (drop (i + 1) keys)) (Some key)) other

pub unknown-later : (fields : List InputValueDefinition) (keys : List (List ℕ)) (i : ℕ) (key : List ℕ) → slice_get keys i ≡ Some key → is_field fields key ≡ true
    → first_unknown fields (drop i keys) ≡ first_unknown fields (drop (i + 1) keys)
unknown-later fields keys i key got same =
    ap (first_unknown fields) (drop_got keys i key got) ∙ ap (λ b. cond b (first_unknown fields (drop (i + 1) keys)) (Some key)) same

keys-places : (keys : List (List ℕ)) → keys_of (places keys) ≡ keys
keys-places [] = refl
keys-places (key ∷ keys) = ap (λ rest. key ∷ rest) (keys-places keys)

place_more : (keys : List (List ℕ)) (i : ℕ) (key : List ℕ) → slice_get keys i ≡ Some key → places (take i keys) ++ (key, Null) ∷ [] ≡ places (take (suc i) keys)
place_more [] i key got = cc
place_more (k ∷ keys) zero key got = let same : k ≡ key = cc in ap (λ p. (p, Null) ∷ []) (sym same)
place_more (k ∷ keys) (suc i) key got = ap (λ rest. (k, Null) ∷ rest) (place_more keys i key got)

-- one more key has its place
pub places-next : (keys : List (List ℕ)) (i : ℕ) (key : List ℕ) → slice_get keys i ≡ Some key → places (take i keys) ++ (key, Null) ∷ [] ≡ places (take (i + 1) keys)
places-next keys i key got = place_more keys i key got ∙ ap (λ n. places (take n keys)) (sym (add-one i))

keys_taken : {V : Type 0} (es : List (List ℕ × V)) (i : ℕ) → keys_of (take i es) ≡ take i (keys_of es)
keys_taken es zero = refl
keys_taken [] (suc i) = refl
keys_taken (e ∷ es) (suc i) = ap (λ rest. e.0 ∷ rest) (keys_taken es i)

-- a key that is none of those before it
pub places-new : {V : Type 0} (es : List (List ℕ × V)) (i : ℕ) (key : List ℕ) (value : V) → i < length es → slice_get (keys_of es) i ≡ Some key → slice_get (values_of es) i ≡ Some value
    → IsDistinct bytes_eq (keys_of es) → position (bytes_eq key) (keys_of (places (take i (keys_of es)))) ≡ None
places-new es i key value within got there distinct =
    ap (position (bytes_eq key)) (keys-places (take i (keys_of es)) ∙ sym (keys_taken es i))
    ∙ new_at_place es i (key, value) within (pair_at es i key value got there) distinct

pub answered : {A : Type 0} (wanted other : Outcome A) (result : Result A (Refused CoercionFault)) → wanted ≡ other → Answers other result → Answers wanted result
answered {A} wanted other result same answers = subst (λ (outcome : Outcome A). Answers outcome result) (sym same) answers

-- beside each key stands a value
pub value-there : {V : Type 0} (es : List (List ℕ × V)) (i : ℕ) (key : List ℕ) → slice_get (keys_of es) i ≡ Some key → (value : V) × (slice_get (values_of es) i ≡ Some value)
value-there [] i key got = cc
value-there (e ∷ es) zero key got = (e.1, refl)
value-there (e ∷ es) (suc i) key got = value-there es i key got
