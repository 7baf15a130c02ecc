-- Claims that are shared out by their next step, as code that holds them keeps them.
use Rattle.std.specs.Prelude.{ℕ, zero, suc, Bool, true, false, if◌then◌else◌, List, [], ◌∷◌, ◌++◌, map, slice_get, slice_set}
use Rattle.std.specs.Option.{option_map_or}
use Rattle.std.specs.Str.{bytes_eq}
use Rattle.gql_ast_base.specs.Names.{Named}
use Rattle.gql_checker_laws.specs.Claims.{Claim}

-- a claim goes last into the share of a number
abbrev pub added : {H : Type 0} → List (List H) → ℕ → H → List (List H)
added {H} shares number claim = option_map_or (λ (share : List H). slice_set shares number (share ++ claim ∷ [])) (slice_get shares number) shares

-- two numbers are one
abbrev pub same_number : ℕ → ℕ → Bool
same_number zero zero = true
same_number zero (suc n) = false
same_number (suc m) zero = false
same_number (suc m) (suc n) = same_number m n

-- what is held for a claim
module _ {H : Type 0} (claim_of : H → Claim) where
  abbrev pub claims_of : List H → List Claim
  claims_of claims = map claim_of claims

  -- the share of a number, or nothing
  abbrev pub share_at : List (List H) → ℕ → List Claim
  share_at shares number = option_map_or claims_of (slice_get shares number) []

  -- a claim, where this is its key
  abbrev pub if_called : List ℕ → H → List ℕ → List Claim
  if_called name claim key = if bytes_eq key name then claim_of claim ∷ [] else []

  -- a claim, where this is its index
  abbrev pub if_index : ℕ → H → ℕ → List Claim
  if_index at claim index = if same_number index at then claim_of claim ∷ [] else []

  -- the share of the first of these names that is the key
  abbrev pub named_share : {N : Type 0} → (N → Named) → List N → List (List H) → List ℕ → List Claim
  named_share own [] shares key = []
  named_share own (n ∷ ns) [] key = []
  named_share own (n ∷ ns) (share ∷ shares) key = if bytes_eq key (own n).text then claims_of share else named_share own ns shares key
