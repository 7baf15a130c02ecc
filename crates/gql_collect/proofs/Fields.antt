-- What is said of all parts but for their nodes: of one that is there, and of one more.
use Rattle.std.proofs.Common.{◌≡◌, ℕ, zero, suc, List, [], ◌∷◌, ◌++◌, Some, None, slice_get, subst}
use Rattle.std.specs.List.{AllByRecursion}
use Rattle.gql_collect.specs.Plan.{field_in, fields_in}
use Rattle.gql_collect.specs.declared.plan.Part.{Part}
use Rattle.gql_collect.specs.declared.planned_field.PlannedField.{PlannedField}

module _ (P : PlannedField → Type 0) where
  pub field-at : (parts : List Part) (i : ℕ) (part : Part) → AllByRecursion P (fields_in parts) → slice_get parts i ≡ Some part → P (field_in part)
  field-at [] i part all is = absurd (let e : None ≡ Some part = is in cc)
  field-at (p ∷ ps) zero part all is = subst (λ (q : Part). P (field_in q)) (let e : Some p ≡ Some part = is in let same : p ≡ part = cc in same) all.0
  field-at (p ∷ ps) (suc i) part all is = field-at ps i part all.1 is

  pub fields-more : (parts : List Part) (part : Part) → AllByRecursion P (fields_in parts) → P (field_in part) → AllByRecursion P (fields_in (parts ++ part ∷ []))
  fields-more [] part all new = (new, tt)
  fields-more (p ∷ ps) part all new = (all.0, fields-more ps part all.1 new)
