-- What is found, as a checker keeps it.
use Rattle.std.specs.Prelude.{ℕ, ◌+◌, true, false, Bool, List, Option, None, Some, replicate, slice_set}
use Rattle.gql_resolvers.specs.Trail.{Segment}
use Rattle.gql_checker_laws.specs.Claims.{marked}

-- a mark for each listed error, which says whether it was seen to be true, and the first bad path
pub record Findings : Type 0 where
  pub told : List Bool
  pub bad : Option (List Segment)

-- of so many errors
abbrev pub none_yet : ℕ → Findings
none_yet errors = record { told = replicate errors false; bad = None }

-- the error of this number is true
abbrev pub with_told : ℕ → Findings → Findings
with_told number findings = record findings { told = slice_set findings.told number true }

-- the errors of these numbers are true
abbrev pub with_all_told : List ℕ → Findings → Findings
with_all_told numbers findings = record findings { told = marked numbers findings.told }

-- a number, so many further on
abbrev pub further : ℕ → Option ℕ → Option ℕ
further n None = None
further n (Some k) = Some (n + k)
