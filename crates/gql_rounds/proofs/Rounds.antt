-- What is found level by level is what is asked for.
use Rattle.std.proofs.Common.{arith, ◌≡◌, ℕ, zero, suc, ◌+◌, ◌-◌, ◌<◌, ◌≤◌, ◌⊎◌, List, [], true, refl, sym, ap, subst, inl, inr}
use Rattle.std.proofs.lemmas.Bool.{cases_lt}
use Rattle.std.specs.List.{AllByRecursion, IsDistinct}
use Rattle.std.specs.Map.{keys_of}
use Rattle.std.specs.Str.{bytes_eq}
use Rattle.gql_document_types.specs.declared.selection.Selection.{Selection}
use Rattle.gql_exec.specs.Request.{Request}
use Rattle.gql_exec.specs.RequestWorld.{plain_world}
use Rattle.gql_schema_types.specs.declared.types.ObjectType.{ObjectType}
use Rattle.gql_rounds.specs.Asked.{AreAsked, IsOneOf, IsWanted, wanted_on}
use Rattle.gql_rounds.specs.bridge.Asked.{AreFound}
use Rattle.gql_rounds.specs.Known.{Known}
use Rattle.gql_rounds.specs.Levels.{below_stands, level}
use Rattle.gql_rounds.specs.Table.{has_key}
use Rattle.gql_rounds.specs.Wanted.{KnownStand, key_of, root_stand, wanted}
use Rattle.gql_rounds.specs.bridge.Wanted.{KnownWorld, wanted_above}
use Rattle.gql_rounds.specs.declared.ask.Ask.{Ask}
use Rattle.gql_rounds.proofs.Noted.{Entries, all-append, all-back, all-entries, all-front, all-own, all-there, all-weaker}

module _ (r : Request Known) (root : ObjectType) (selections : List Selection) where
  abbrev here : KnownStand
  here = root_stand root selections

  abbrev w : KnownWorld
  w = plain_world r

  -- a level below an empty one is empty
  ended : (n k : ℕ) → level w here n ≡ [] → level w here (k + n) ≡ []
  ended n zero none = let same : n ≡ zero + n = omega arith in subst (λ m. level w here m ≡ []) same none
  ended n (suc k) none =
      let same : suc (k + n) ≡ suc k + n = omega arith in
      subst (λ m. level w here m ≡ []) same (ap (below_stands w) (ended n k none))

  pub no-more : (n m : ℕ) → n ≤ m → level w here n ≡ [] → wanted_on r root selections m ≡ []
  no-more n m later none =
      let same : m - n + n ≡ m = omega (arith, later) in
      ap (wanted r) (subst (λ k. level w here k ≡ []) same (ended n (m - n) none))

  -- what holds of all above a level holds of each level above it
  on-above : (P : Ask → Type 0) (n m : ℕ) → m < n → AllByRecursion P (wanted_above r here n) → AllByRecursion P (wanted_on r root selections m)
  on-above P zero m less all = absurd (omega (arith, less))
  on-above P (suc n) m less all = by (cases_lt m n) (λ before. on-above P n m before (all-front P (wanted_above r here n) (wanted_on r root selections n) all))
    where
      by : (m < n) ⊎ (n ≤ m) → (m < n → AllByRecursion P (wanted_on r root selections m)) → AllByRecursion P (wanted_on r root selections m)
      by (inl before) above = above before
      by (inr later) above =
          let same : n ≡ m = omega (arith, less, later) in
          subst (λ k. AllByRecursion P (wanted_on r root selections k)) same (all-back P (wanted_above r here n) (wanted_on r root selections n) all)

  -- and all above are of some level
  above-on : (P : Ask → Type 0) → ((n : ℕ) → AllByRecursion P (wanted_on r root selections n)) → (n : ℕ) → AllByRecursion P (wanted_above r here n)
  above-on P all zero = tt
  above-on P all (suc n) = all-append P (wanted_above r here n) (wanted_on r root selections n) (above-on P all n) (all n)

  pub found-asked : (asks : Entries) → IsDistinct bytes_eq (keys_of asks) → AreFound r root selections asks → AreAsked r root selections asks
  found-asked asks apart found = record { whole = whole; wanted = all_wanted; distinct = apart }
    where
      whole : (depth : ℕ) → AllByRecursion (λ (ask : Ask). has_key (key_of ask) asks ≡ true) (wanted_on r root selections depth)
      whole depth = by (cases_lt depth found.depth)
        where
          by : (depth < found.depth) ⊎ (found.depth ≤ depth) → AllByRecursion (λ (ask : Ask). has_key (key_of ask) asks ≡ true) (wanted_on r root selections depth)
          by (inl less) =
              on-above (λ (ask : Ask). has_key (key_of ask) asks ≡ true) found.depth depth less
              (subst (λ (es : Entries). AllByRecursion (λ (ask : Ask). has_key (key_of ask) es ≡ true) (wanted_above r here found.depth)) (sym found.are)
              (all-there [] (wanted_above r here found.depth)))
          by (inr later) =
              subst (AllByRecursion (λ (ask : Ask). has_key (key_of ask) asks ≡ true)) (sym (no-more found.depth depth later found.ends)) tt

      own : (n : ℕ) → AllByRecursion (λ (ask : Ask). IsWanted r root selections (key_of ask, ask)) (wanted_on r root selections n)
      own n =
          all-weaker (λ (ask : Ask). IsOneOf ask (wanted_on r root selections n)) (λ (ask : Ask). IsWanted r root selections (key_of ask, ask))
          (λ ask one. record { key = refl; depth = n; among = one }) (wanted_on r root selections n) (all-own (wanted_on r root selections n))

      all_wanted : AllByRecursion (IsWanted r root selections) asks
      all_wanted =
          subst (AllByRecursion (IsWanted r root selections)) (sym found.are)
          (all-entries (IsWanted r root selections) [] (wanted_above r here found.depth) tt
          (above-on (λ (ask : Ask). IsWanted r root selections (key_of ask, ask)) own found.depth))
