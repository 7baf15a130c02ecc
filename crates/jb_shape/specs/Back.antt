-- What stands for a thing is read as it.
use Rattle.std.proofs.Common.{◌≡◌, ap, ◌∙◌, Option, Some, ◌≤◌, ℕ, ℤ, pos, negsuc, Bool, List, []}
use Rattle.std.proofs.Common.{◌∷◌, Ok, Err, Result, refl, arith, rules}
use Rattle.jb_tree.specs.declared.value.Value.TheVariants as value_variant
use Rattle.std.proofs.lemmas.Bool.Decides.{nat_tests}
use Rattle.jb_tree.specs.declared.value.Value.{Value, the_lemmas}
use Rattle.jb_tree.specs.Value.{array_items, object_members, string_text, truth_value}
use Rattle.jb_shape.specs.declared.shape_error.ShapeError.{ShapeError}
use Rattle.jb_shape.specs.Outcome.{and_then, each, both}
use Rattle.jb_shape.specs.Scalars.{of_kind, number_of, unsigned_within, signed_within, unsigned_value, signed_value, read_unsigned, read_signed}
use Rattle.jb_shape.specs.Scalars.{truth_value_of, read_truth, text_value, read_text}
use Rattle.jb_shape.specs.Lists.{two_of, list_value, read_list, pair_value, read_pair}
use Rattle.jb_shape.specs.Faithful.{IsSigned, AllOf}

number-Number : (z : ℤ) → number_of (value_variant.Number z) ≡ Ok z
number-Number z = search (rules, the_lemmas)

truth-Bool : (b : Bool) → truth_value (value_variant.Bool b) ≡ Some b
truth-Bool b = search (rules, the_lemmas)

text-String : (text : List ℕ) → string_text (value_variant.String text) ≡ Some text
text-String text = search (rules, the_lemmas)

items-Array : (values : List Value) → array_items (value_variant.Array values) ≡ Some values
items-Array values = search (rules, the_lemmas)

pub members-Object : (members : List (List ℕ × Value)) → object_members (value_variant.Object members) ≡ Some members
members-Object members = search (rules, the_lemmas)

pub fits_unsigned : (most n : ℕ) → n ≤ most → unsigned_within most (pos n) ≡ Ok n
fits_unsigned most n h = grind (arith, nat_tests)

pub fits_signed : (most : ℕ) (z : ℤ) → IsSigned most z → signed_within most z ≡ Ok z
fits_signed most (pos n) h = grind (arith, nat_tests)
fits_signed most (negsuc n) h = grind (arith, nat_tests)

pub unsigned_back : (most n : ℕ) → n ≤ most → and_then (unsigned_value n) (read_unsigned most) ≡ Ok n
unsigned_back most n h = ap (λ r. and_then r (unsigned_within most)) (number-Number (pos n)) ∙ fits_unsigned most n h

pub signed_back : (most : ℕ) (z : ℤ) → IsSigned most z → and_then (signed_value z) (read_signed most) ≡ Ok z
signed_back most z h = ap (λ r. and_then r (signed_within most)) (number-Number z) ∙ fits_signed most z h

pub truth_back : (b : Bool) → and_then (truth_value_of b) read_truth ≡ Ok b
truth_back b = ap of_kind (truth-Bool b)

pub text_back : (text : List ℕ) → and_then (text_value text) read_text ≡ Ok text
text_back text = ap of_kind (text-String text)

module _ {A B : Type 0} (reading : B → Result A ShapeError) where
  back_step : (first : Result B ShapeError) (rest : Result (List B) ShapeError) (x : A) (xs : List A)
      → and_then first reading ≡ Ok x → and_then rest (each reading) ≡ Ok xs
      → and_then (and_then first (λ b. and_then rest (λ bs. Ok (b ∷ bs)))) (each reading) ≡ Ok (x ∷ xs)
  back_step (Err e) rest x xs h k = cc
  back_step (Ok b) (Err e) x xs h k = cc
  back_step (Ok b) (Ok bs) x xs h k = rw (h, k)

  -- each of a list
  pub each_back : (make : A → Result B ShapeError) (P : A → Type 0) → ((x : A) → P x → and_then (make x) reading ≡ Ok x)
      → (xs : List A) → AllOf P xs → and_then (each make xs) (each reading) ≡ Ok xs
  each_back make P back [] all = refl
  each_back make P back (x ∷ xs) all = back_step (make x) (each make xs) x xs (back x all.0) (each_back make P back xs all.1)

array_back : {A : Type 0} (reading : Value → Result A ShapeError) (values : Result (List Value) ShapeError) (xs : List A)
    → and_then values (each reading) ≡ Ok xs → and_then (and_then values (λ all. Ok (value_variant.Array all))) (read_list reading) ≡ Ok xs
array_back reading (Ok values) xs h = ap (λ (found : Option (List Value)). and_then (of_kind found) (each reading)) (items-Array values) ∙ h
array_back reading (Err e) xs h = cc

pub list_back : {A : Type 0} (shape : A → Result Value ShapeError) (reading : Value → Result A ShapeError) (P : A → Type 0)
    → ((x : A) → P x → and_then (shape x) reading ≡ Ok x) → (xs : List A) → AllOf P xs
    → and_then (list_value shape xs) (read_list reading) ≡ Ok xs
list_back shape reading P back xs all = array_back reading (each shape xs) xs (each_back reading shape P back xs all)

pub both_ok : {A B : Type 0} (v : Result A ShapeError) (w : Result B ShapeError) (a : A) (b : B) → v ≡ Ok a → w ≡ Ok b → both v w ≡ Ok (a, b)
both_ok v w a b h k = rw (h, k)

two_back : {A B : Type 0} (first : Value → Result A ShapeError) (second : Value → Result B ShapeError) (v w : Result Value ShapeError) (a : A) (b : B)
    → and_then v first ≡ Ok a → and_then w second ≡ Ok b
    → and_then (and_then (both v w) (λ values. Ok (value_variant.Array (values.0 ∷ values.1 ∷ [])))) (read_pair first second) ≡ Ok (a, b)
two_back first second (Err e) w a b h k = cc
two_back first second (Ok v) (Err e) a b h k = cc
two_back first second (Ok v) (Ok w) a b h k =
    ap (λ (found : Option (List Value)). and_then (and_then (of_kind found) two_of)
    (λ items. both (first items.0) (second items.1))) (items-Array (v ∷ w ∷ []))
    ∙ both_ok (first v) (second w) a b h k

pub pair_back : {A B : Type 0} (shape : A → Result Value ShapeError) (first : Value → Result A ShapeError) (P : A → Type 0)
    → ((x : A) → P x → and_then (shape x) first ≡ Ok x)
    → (form : B → Result Value ShapeError) (second : Value → Result B ShapeError) (Q : B → Type 0)
    → ((y : B) → Q y → and_then (form y) second ≡ Ok y)
    → (pair : A × B) → P pair.0 × Q pair.1 → and_then (pair_value shape form pair) (read_pair first second) ≡ Ok pair
pair_back shape first P one form second Q two pair h = two_back first second (shape pair.0) (form pair.1) pair.0 pair.1 (one pair.0 h.0) (two pair.1 h.1)
