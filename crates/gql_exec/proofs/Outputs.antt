-- What a place, or an object, has made in an output, case by case.
use Rattle.std.proofs.Common.{◌≡◌, ℕ, if◌then◌else◌, List, [], ◌∷◌, Option, Some, None, Result, Ok, Err, is_ok, IfOk, OnOk, subst}
use Rattle.jb_tree.specs.declared.value.Value.{Value}
use Rattle.gql_resolvers.specs.Execute.{Member}
use Rattle.gql_exec.specs.bridge.Output.{AreWritten, Finds, IsWritten}
use Rattle.gql_exec.specs.declared.completed.Completed.{Completed}
use Rattle.gql_exec.specs.declared.completed.Completed.TheVariants as completed

module _ {S V : Type 0} (is_made : S → S → V → Value → Type 0) (before after : S) (done : Completed V) (found : Option (List Value)) (are : IsWritten is_made before after done found) where
  pub value-written : (made : V) → done ≡ completed.Value made → (value : Value) × is_made before after made value × (found ≡ Some (value ∷ []))
  value-written made is = subst (λ d. IsWritten is_made before after d found) is are

  pub left-written : done ≡ completed.LeftOut → (after ≡ before) × (found ≡ Some [])
  left-written is = subst (λ d. IsWritten is_made before after d found) is are

  pub null-written : done ≡ completed.NullPasses → (after ≡ before) × (found ≡ None)
  null-written is = subst (λ d. IsWritten is_made before after d found) is are

module _ {S V : Type 0} (are_members : S → S → V → List Member → Type 0) (before after : S) (object : Option V) (found : Option (List Member)) (are : AreWritten are_members before after object found) where
  pub members-written : (members : V) → object ≡ Some members → (all : List Member) × are_members before after members all × (found ≡ Some all)
  members-written members is = subst (λ o. AreWritten are_members before after o found) is are

  pub none-written : object ≡ None → (after ≡ before) × (found ≡ None)
  none-written is = subst (λ o. AreWritten are_members before after o found) is are

-- what holds of each value, where there is one
pub ok-then : {A E : Type 0} (result : Result A E) (P Q : Type 0) → (P → Q) → OnOk result P → IfOk result (λ _. Q)
ok-then (Ok x) P Q more given = more given
ok-then (Err e) P Q more given = tt

-- what is written, unless out of memory
pub ok-text : {A E : Type 0} (result : Result A E) (new some none : List ℕ) → new ≡ (if is_ok result then some else none) → OnOk result (new ≡ some)
ok-text (Ok x) new some none is = is
ok-text (Err e) new some none is = tt

-- what is found of it holds further
pub finds-as : {A : Type 0} (Are P Q : Option (List A) → Type 0) → ((found : Option (List A)) → P found → Q found) → Finds Are P → Finds Are Q
finds-as Are P Q further it = record { found = it.found; are = it.are; hold = further it.found it.hold }
