-- An outcome is a thing or a fault.
use Rattle.std.proofs.Common.{◌≡◌, Ok, Err, inl, inr, refl, sym}
use Rattle.gql_coerce.specs.declared.fault.CoercionFault.{CoercionFault}
use Rattle.gql_coerce.specs.Outcome.{Outcome}
use Rattle.gql_coerce.specs.Inputs.{HasOne}

pub one_of_both : {A : Type 0} (outcome : Outcome A) → HasOne (λ (found : A). outcome ≡ Ok found) (λ (fault : CoercionFault). outcome ≡ Err fault)
one_of_both {A} (Ok found) = inl (found, refl, (λ other is. let same : found ≡ other = cc in sym same), (λ fault is. cc))
one_of_both {A} (Err fault) = inr (fault, refl, (λ other is. let same : fault ≡ other = cc in sym same), (λ found is. cc))
