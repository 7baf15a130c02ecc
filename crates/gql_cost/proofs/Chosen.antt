-- The operation that is chosen is one of the document's.
use Rattle.std.proofs.Common.{arith, ◌≡◌, ℕ, zero, suc, Bool, true, false, cond, List, [], ◌∷◌, Option, Some, None, refl, subst}
use Rattle.std.specs.List.{AllByRecursion, Contains, find}
use Rattle.std.proofs.lemmas.List.Elements.{Contains-append_right}
use Rattle.gql_document_types.specs.ChosenOperation.{chosen, has_name}
use Rattle.gql_document_types.specs.declared.operation.Operation.{Operation}

at-front : {A : Type 0} (x : A) (xs : List A) → Contains (x ∷ xs) x
at-front x xs = (0, omega arith, refl)

found-among : {A : Type 0} (test : A → Bool) (xs : List A) (x : A) → find test xs ≡ Some x → Contains xs x
found-among test [] x is = absurd (let e : None ≡ Some x = is in cc)
found-among test (y ∷ ys) x is = by (test y) is (found-among test ys x)
  where
    by : (b : Bool) → cond b (Some y) (find test ys) ≡ Some x → (find test ys ≡ Some x → Contains ys x) → Contains (y ∷ ys) x
    by true e rest = subst (Contains (y ∷ ys)) (let g : Some y ≡ Some x = e in let same : y ≡ x = cc in same) (at-front y ys)
    by false e rest = Contains-append_right (y ∷ []) ys x (rest e)

pub chosen-among : (name : Option (List ℕ)) (operations : List Operation) (it : Operation) → chosen name operations ≡ Some it → Contains operations it
chosen-among (Some name) operations it is = found-among (has_name name) operations it is
chosen-among None [] it is = absurd (let e : None ≡ Some it = is in cc)
chosen-among None (only ∷ []) it is =
    subst (Contains (only ∷ [])) (let e : Some only ≡ Some it = is in let same : only ≡ it = cc in same) (at-front only [])
chosen-among None (first ∷ second ∷ others) it is = absurd (let e : None ≡ Some it = is in cc)

pub holds-among : {A : Type 0} (P : A → Type 0) (xs : List A) (x : A) → AllByRecursion P xs → Contains xs x → P x
holds-among P [] x each (k, within, is) = absurd (omega (arith, within))
holds-among P (y ∷ ys) x each (zero, within, is) = subst P is each.0
holds-among P (y ∷ ys) x each (suc k, within, is) = holds-among P ys x each.1 (k, omega (arith, within), is)
