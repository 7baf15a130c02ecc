-- Each of a list, as far as a loop has come.
use Rattle.std.proofs.Common.{◌≡◌, ℕ, ◌+◌, ◌<◌, zero, suc, List, [], ◌∷◌, ◌++◌, length, get_or, take, drop, Ok, Err, Result, refl, sym, ap, ◌∙◌, arith}
use Rattle.std.proofs.lemmas.List.{take_more}
use Rattle.jb_text.specs.declared.refused.Refused.{Refused}
use Rattle.jb_text.specs.declared.refused.Refused.TheVariants.{Fault, Memory}
use Rattle.jb_shape.specs.declared.shape_error.ShapeError.{ShapeError}
use Rattle.jb_shape.specs.Outcome.{Answers, and_then, each}

module _ {B : Type 0} where
  -- one step of a list, where a step further on the rest has one more
  push_step : (first : Result B ShapeError) (rest more : Result (List B) ShapeError) (ys : List B) (y : B)
      → and_then first (λ b. and_then rest (λ bs. Ok (b ∷ bs))) ≡ Ok ys → ((bs : List B) → rest ≡ Ok bs → more ≡ Ok (bs ++ y ∷ []))
      → and_then first (λ b. and_then more (λ bs. Ok (b ∷ bs))) ≡ Ok (ys ++ y ∷ [])
  push_step (Err e) rest more ys y h next = cc
  push_step (Ok b) (Err e) more ys y h next = cc
  push_step (Ok b) (Ok bs) more ys y h next = let e : ys ≡ b ∷ bs = cc in rw (next bs refl, e)

  -- and where it fails
  stop_step : (first : Result B ShapeError) (rest more : Result (List B) ShapeError) (ys : List B) (cause : ShapeError)
      → and_then first (λ b. and_then rest (λ bs. Ok (b ∷ bs))) ≡ Ok ys → ((bs : List B) → rest ≡ Ok bs → more ≡ Err cause)
      → and_then first (λ b. and_then more (λ bs. Ok (b ∷ bs))) ≡ Err cause
  stop_step (Err e) rest more ys cause h next = cc
  stop_step (Ok b) (Err e) more ys cause h next = cc
  stop_step (Ok b) (Ok bs) more ys cause h next = rw (next bs refl)

module _ {A B : Type 0} (make : A → Result B ShapeError) where
  -- one more that fits
  pub each_push : (xs : List A) (x : A) (ys : List B) (y : B) → each make xs ≡ Ok ys → make x ≡ Ok y → each make (xs ++ x ∷ []) ≡ Ok (ys ++ y ∷ [])
  each_push [] x ys y h m = let e : ys ≡ [] = cc in rw (m, e)
  each_push (a ∷ xs) x ys y h m = push_step (make a) (each make xs) (each make (xs ++ x ∷ [])) ys y h (λ bs g. each_push xs x bs y g m)

  -- the first that does not
  pub each_at_err : (xs : List A) (x : A) (more : List A) (ys : List B) (e : ShapeError) → each make xs ≡ Ok ys → make x ≡ Err e → each make (xs ++ x ∷ more) ≡ Err e
  each_at_err [] x more ys e h m = rw m
  each_at_err (a ∷ xs) x more ys e h m = stop_step (make a) (each make xs) (each make (xs ++ x ∷ more)) ys e h (λ bs g. each_at_err xs x more bs e g m)

  split_at : (xs : List A) (i : ℕ) (x : A) → i < length xs → x ≡ get_or xs i x → xs ≡ take i xs ++ x ∷ drop (suc i) xs
  split_at [] i x within h = absurd (omega arith)
  split_at (a ∷ xs) zero x within h = ap (λ p. p ∷ xs) (sym h)
  split_at (a ∷ xs) (suc i) x within h = ap (λ l. a ∷ l) (split_at xs i x (omega arith) h)

  pub each_more : (xs : List A) (i : ℕ) (x : A) (ys : List B) (y : B) → i < length xs → x ≡ get_or xs i x → each make (take i xs) ≡ Ok ys → make x ≡ Ok y → each make (take (i + 1) xs) ≡ Ok (ys ++ y ∷ [])
  each_more xs i x ys y within is h m =
      ap (each make) (take_more xs i x within ∙ ap (λ p. take i xs ++ p ∷ []) (sym is)) ∙ each_push (take i xs) x ys y h m

  pub each_stops : (xs : List A) (i : ℕ) (x : A) (ys : List B) (e : ShapeError) → i < length xs → x ≡ get_or xs i x → each make (take i xs) ≡ Ok ys → make x ≡ Err e → each make xs ≡ Err e
  each_stops xs i x ys e within is h m =
      ap (each make) (split_at xs i x within is) ∙ each_at_err (take i xs) x (drop (suc i) xs) ys e h m

  -- where one does not fit, nor does the list
  pub stops_answer : (xs all : List A) (i : ℕ) (x : A) (ys : List B) (refused : Refused ShapeError) → xs ≡ all
      → i < length xs → x ≡ get_or xs i x → each make (take i xs) ≡ Ok ys → Answers (make x) (Err refused) → Answers (each make all) (Err refused)
  stops_answer xs all i x ys (Fault e) same within is h m = ap (each make) (sym same) ∙ each_stops xs i x ys e within is h m
  stops_answer xs all i x ys Memory same within is h m = tt

-- and so nothing is made of it
pub stops_further : {B C : Type 0} (first : Result B ShapeError) (next : B → Result C ShapeError) (refused : Refused ShapeError) → Answers first (Err refused) → Answers (and_then first next) (Err refused)
stops_further (Ok b) next (Fault e) m = cc
stops_further (Err d) next (Fault e) m = let same : d ≡ e = cc in rw same
stops_further first next Memory m = tt
