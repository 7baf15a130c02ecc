-- Claims one by one.
use Rattle.std.proofs.Common.{◌≡◌, ℕ, ◌+◌, ◌<◌, ◌≤◌, Bool, true, false, List, [], ◌∷◌, ◌++◌, length, get_or, drop, refl, sym, ap, ◌∙◌, append_assoc}
use Rattle.std.specs.Prelude.{◌||◌, if◌then◌else◌}
use Rattle.std.proofs.Math.ListN.{drop_of_length-le}
use Rattle.std.proofs.lemmas.List.{map-append, append-nil}
use Rattle.gql_exec.proofs.Measures.{drop-item}
use Rattle.gql_response.specs.declared.graphql_error.GraphQLError.{GraphQLError}
use Rattle.gql_resolvers.specs.Resolved.{Fault}
use Rattle.gql_resolvers.specs.Trail.{Segment}
use Rattle.gql_source.specs.File.{Files}
use Rattle.gql_checker_laws.specs.Claims.{Claim, claims_from, share, share_one}
use Rattle.gql_checker_laws.specs.Findings.{with_all_told, with_told}
use Rattle.gql_checker_laws.specs.Shares.{claims_of}
use Rattle.gql_checker_laws.specs.Told.{any_told, is_told, told_numbers}
use Rattle.gql_checker_laws.specs.Findings.{Findings}

module _ {H : Type 0} (claim_of : H → Claim) where
  -- one error more is claimed
  pub claims-step : (cs : List H) (c : H) (errors : List GraphQLError) (i : ℕ) (e : GraphQLError) → i < length errors → e ≡ get_or errors i e
      → claim_of c ≡ record { number = i; error = e; rest = e.path }
      → claims_of claim_of (cs ++ c ∷ []) ++ claims_from (i + 1) (drop (i + 1) errors) ≡ claims_of claim_of cs ++ claims_from i (drop i errors)
  claims-step cs c errors i e within is claim =
      ap (λ l. l ++ claims_from (i + 1) (drop (i + 1) errors)) (map-append claim_of cs (c ∷ []))
      ∙ append_assoc (claims_of claim_of cs) (claim_of c ∷ []) (claims_from (i + 1) (drop (i + 1) errors))
      ∙ ap (λ (d : Claim). claims_of claim_of cs ++ d ∷ claims_from (i + 1) (drop (i + 1) errors)) claim
      ∙ ap (λ es. claims_of claim_of cs ++ claims_from i es) (sym (drop-item errors i e within is))

  pub claims-end : (cs : List H) (errors : List GraphQLError) (i : ℕ) → length errors ≤ i → claims_of claim_of cs ≡ claims_of claim_of cs ++ claims_from i (drop i errors)
  claims-end cs errors i past = sym (append-nil (claims_of claim_of cs)) ∙ ap (λ es. claims_of claim_of cs ++ claims_from i es) (sym (drop_of_length-le errors past))

  -- the claims from an index on begin with that at the index
  pub claims-item : (cs : List H) (i : ℕ) (c : H) → i < length cs → c ≡ get_or cs i c → claims_of claim_of (drop i cs) ≡ claim_of c ∷ claims_of claim_of (drop (i + 1) cs)
  claims-item cs i c within is = ap (claims_of claim_of) (drop-item cs i c within is)

  -- one claim more is shared
  pub share-more : (s : Segment) (cs : List H) (i : ℕ) (c : H) (old new some : List Claim) → i < length cs → c ≡ get_or cs i c
      → some ≡ share_one s (claim_of c) (claim_of c).rest → new ≡ old ++ some
      → new ++ share s (claims_of claim_of (drop (i + 1) cs)) ≡ old ++ share s (claims_of claim_of (drop i cs))
  share-more s cs i c old new some within is one added =
      ap (λ l. l ++ share s (claims_of claim_of (drop (i + 1) cs))) added
      ∙ append_assoc old some (share s (claims_of claim_of (drop (i + 1) cs)))
      ∙ ap (λ l. old ++ (l ++ share s (claims_of claim_of (drop (i + 1) cs)))) one
      ∙ ap (λ l. old ++ share s l) (sym (claims-item cs i c within is))

  -- none is left
  pub share-end : (s : Segment) (cs : List H) (i : ℕ) (old : List Claim) → length cs ≤ i → old ≡ old ++ share s (claims_of claim_of (drop i cs))
  share-end s cs i old past = sym (append-nil old) ∙ ap (λ l. old ++ share s (claims_of claim_of l)) (sym (drop_of_length-le cs past))

  or-then : (a b c : Bool) → ((a || b) || c) ≡ (a || (b || c))
  or-then true b c = refl
  or-then false b c = refl

  -- one claim more is compared with a fault
  pub any-more : (sources : Files) (fault : Fault) (cs : List H) (i : ℕ) (c : H) (any more told : Bool) → i < length cs → c ≡ get_or cs i c
      → told ≡ is_told sources fault (claim_of c) → more ≡ (any || told)
      → (more || any_told sources fault (claims_of claim_of (drop (i + 1) cs))) ≡ (any || any_told sources fault (claims_of claim_of (drop i cs)))
  any-more sources fault cs i c any more told within is same added =
      ap (λ b. b || any_told sources fault (claims_of claim_of (drop (i + 1) cs))) (added ∙ ap (λ b. any || b) same)
      ∙ or-then any (is_told sources fault (claim_of c)) (any_told sources fault (claims_of claim_of (drop (i + 1) cs)))
      ∙ ap (λ l. any || any_told sources fault l) (sym (claims-item cs i c within is))

  or-last : (a : Bool) → a ≡ (a || false)
  or-last true = refl
  or-last false = refl

  pub any-end : (sources : Files) (fault : Fault) (cs : List H) (i : ℕ) (any : Bool) → length cs ≤ i → any ≡ (any || any_told sources fault (claims_of claim_of (drop i cs)))
  any-end sources fault cs i any past = or-last any ∙ ap (λ l. any || any_told sources fault (claims_of claim_of l)) (sym (drop_of_length-le cs past))

  told-by : (told : Bool) (number : ℕ) (ns : List ℕ) (it more : Findings) → more ≡ (if told then with_told number it else it)
      → with_all_told ns more ≡ with_all_told ((if told then number ∷ [] else []) ++ ns) it
  told-by true number ns it more is = ap (with_all_told ns) is
  told-by false number ns it more is = ap (with_all_told ns) is

  pub told-more : (sources : Files) (fault : Fault) (cs : List H) (i : ℕ) (c : H) (it more : Findings) (told : Bool) → i < length cs → c ≡ get_or cs i c
      → told ≡ is_told sources fault (claim_of c) → more ≡ (if told then with_told (claim_of c).number it else it)
      → with_all_told (told_numbers sources fault (claims_of claim_of (drop (i + 1) cs))) more ≡ with_all_told (told_numbers sources fault (claims_of claim_of (drop i cs))) it
  told-more sources fault cs i c it more told within is same added =
      told-by told (claim_of c).number (told_numbers sources fault (claims_of claim_of (drop (i + 1) cs))) it more added
      ∙ ap (λ b. with_all_told ((if b then (claim_of c).number ∷ [] else []) ++ told_numbers sources fault (claims_of claim_of (drop (i + 1) cs))) it) same
      ∙ ap (λ l. with_all_told (told_numbers sources fault l) it) (sym (claims-item cs i c within is))

  pub told-end : (sources : Files) (fault : Fault) (cs : List H) (i : ℕ) (it : Findings) → length cs ≤ i
      → it ≡ with_all_told (told_numbers sources fault (claims_of claim_of (drop i cs))) it
  told-end sources fault cs i it past = ap (λ l. with_all_told (told_numbers sources fault (claims_of claim_of l)) it) (sym (drop_of_length-le cs past))
