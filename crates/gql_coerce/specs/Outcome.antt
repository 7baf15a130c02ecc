-- What a step of coercion answers: a thing, or the first fault.
use Rattle.std.specs.Prelude.{◌≡◌, List, [], ◌∷◌, Result, Ok, Err}
use Rattle.jb_text.specs.declared.refused.Refused.{Refused}
use Rattle.jb_text.specs.declared.refused.Refused.TheVariants.{Fault, Memory}
use Rattle.gql_coerce.specs.declared.fault.CoercionFault.{CoercionFault}

abbrev pub Outcome : Type 0 → Type 0
Outcome A = Result A CoercionFault

-- the thing or the fault that is wanted; out of memory is free
abbrev pub Answers : {A E : Type 0} → Result A E → Result A (Refused E) → Type 0
Answers wanted (Ok found) = wanted ≡ Ok found
Answers wanted (Err (Fault fault)) = wanted ≡ Err fault
Answers wanted (Err Memory) = Unit {0}

-- what the second step makes of the thing that the first gave
abbrev pub and_then : {A B : Type 0} → Outcome A → (A → Outcome B) → Outcome B
and_then (Ok found) next = next found
and_then (Err fault) next = Err fault

abbrev pub mapped : {A B : Type 0} → (A → B) → Outcome A → Outcome B
mapped f (Ok found) = Ok (f found)
mapped f (Err fault) = Err fault

-- the same, with the fault as a caller is told it
abbrev pub told_as : {A E : Type 0} → (CoercionFault → E) → Outcome A → Result A E
told_as tell (Ok found) = Ok found
told_as tell (Err fault) = Err (tell fault)

-- all of a list, or the first fault
abbrev pub all_of : {A : Type 0} → List (Outcome A) → Outcome (List A)
all_of [] = Ok []
all_of (x ∷ xs) = and_then x (λ y. mapped (λ ys. y ∷ ys) (all_of xs))
