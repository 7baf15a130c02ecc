-- What a reading or a making of values answers: a thing, or why there is none.
use Rattle.std.specs.Prelude.{◌≡◌, List, [], ◌∷◌, Result, Ok, Err}
use Rattle.jb_text.specs.declared.refused.Refused.{Refused}
use Rattle.jb_text.specs.declared.refused.Refused.TheVariants.{Fault, Memory}
use Rattle.jb_shape.specs.declared.shape_error.ShapeError.{ShapeError}

-- the thing or the cause that is wanted; out of memory is free
abbrev pub Answers : {A : Type 0} → Result A ShapeError → Result A (Refused ShapeError) → Type 0
Answers wanted (Ok found) = wanted ≡ Ok found
Answers wanted (Err (Fault cause)) = wanted ≡ Err cause
Answers wanted (Err Memory) = Unit {0}

-- what the second step makes of the thing that the first gave
abbrev pub and_then : {A B : Type 0} → Result A ShapeError → (A → Result B ShapeError) → Result B ShapeError
and_then (Ok found) next = next found
and_then (Err cause) next = Err cause

-- each of a list, or the first cause
abbrev pub each : {A B : Type 0} → (A → Result B ShapeError) → List A → Result (List B) ShapeError
each make [] = Ok []
each make (x ∷ xs) = and_then (make x) (λ y. and_then (each make xs) (λ ys. Ok (y ∷ ys)))

-- both of a pair, or the first cause
abbrev pub both : {A B : Type 0} → Result A ShapeError → Result B ShapeError → Result (A × B) ShapeError
both first second = and_then first (λ a. and_then second (λ b. Ok (a, b)))
