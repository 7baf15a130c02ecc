-- Claims that are put into the share of their next step.
use Rattle.std.proofs.Common.{rules, arith, ◌≡◌, ℕ, zero, suc, ◌<◌, Bool, true, false, List, [], ◌∷◌, ◌++◌, length, Option, Some, None, slice_get, set, nat_eq, replicate, refl, sym, ap, ◌∙◌}
use Rattle.std.specs.Prelude.{if◌then◌else◌, cond}
use Rattle.std.specs.List.{find, position}
use Rattle.std.specs.Option.{option_map_or}
use Rattle.std.specs.Str.{bytes_eq}
use Rattle.std.proofs.lemmas.List.{map-append, append-nil}
use Rattle.std.proofs.lemmas.List.Quantifiers.{position-Some}
use Rattle.std.proofs.lemmas.Slice.Eq.{bytes_eq-Decides}
use Rattle.std.proofs.Common.{get_or}
use Rattle.gql_ast_base.specs.Names.{Named}
use Rattle.gql_schema_types.specs.Entries.{is_called, texts}
use Rattle.gql_schema_types.proofs.Lookups.{missing, place-texts}
use Rattle.gql_checker_laws.specs.Claims.{Claim}
use Rattle.gql_checker_laws.specs.Shares.{added, claims_of, if_called, if_index, named_share, same_number, share_at}

module _ {H : Type 0} where
  pub added-later : (l : List H) (ls : List (List H)) (i : ℕ) (c : H) → added (l ∷ ls) (suc i) c ≡ l ∷ added ls i c
  added-later l ls i c = by (slice_get ls i) refl
    where
      by : (o : Option (List H)) → slice_get ls i ≡ o
          → option_map_or (λ (it : List H). set (l ∷ ls) (suc i) (it ++ c ∷ [])) o (l ∷ ls) ≡ l ∷ option_map_or (λ (it : List H). set ls i (it ++ c ∷ [])) o ls
      by None is = refl
      by (Some it) is = refl

  pub added-length : (ls : List (List H)) (i : ℕ) (c : H) → length (added ls i c) ≡ length ls
  added-length [] i c = refl
  added-length (l ∷ ls) zero c = refl
  added-length (l ∷ ls) (suc i) c = ap length (added-later l ls i c) ∙ ap suc (added-length ls i c)

module _ {H N : Type 0} (claim_of : H → Claim) (step_name : N → Named) where
  -- ---- by key

  not-both : (key name other : List ℕ) → bytes_eq name other ≡ false → bytes_eq key other ≡ true → bytes_eq key name ≡ false
  not-both key name other apart here = by (bytes_eq key name) refl
    where
      by : (b : Bool) → bytes_eq key name ≡ b → b ≡ false
      by false is = refl
      by true is =
          let k : key ≡ name = (bytes_eq-Decides key name).0 is in
          let o : key ≡ other = (bytes_eq-Decides key other).0 here in
          let both : bytes_eq name other ≡ true = (bytes_eq-Decides name other).1 (sym k ∙ o) in
          absurd (let e : false ≡ true = sym apart ∙ both in cc)

  -- the share here where it is that key's, and else a later one, with a claim of another key behind it
  later-share : (key name other : List ℕ) (c : H) (here rest more : List Claim) → bytes_eq name other ≡ false → more ≡ rest ++ if_called claim_of name c key
      → (if bytes_eq key other then here else more) ≡ (if bytes_eq key other then here else rest) ++ if_called claim_of name c key
  later-share key name other c here rest more apart is = by (bytes_eq key other) refl
    where
      by : (b : Bool) → bytes_eq key other ≡ b → (if b then here else more) ≡ (if b then here else rest) ++ if_called claim_of name c key
      by false e = is
      by true e = sym (append-nil here) ∙ ap (λ z. here ++ (if z then claim_of c ∷ [] else [])) (sym (not-both key name other apart e))

  here-share : (key name other : List ℕ) (c : H) (l : List H) (rest : List Claim) → name ≡ other
      → (if bytes_eq key other then claims_of claim_of (l ++ c ∷ []) else rest) ≡ (if bytes_eq key other then claims_of claim_of l else rest) ++ if_called claim_of name c key
  here-share key name other c l rest same =
      by (bytes_eq key other) ∙ ap (λ n. (if bytes_eq key other then claims_of claim_of l else rest) ++ (if bytes_eq key n then claim_of c ∷ [] else [])) (sym same)
    where
      by : (b : Bool) → (if b then claims_of claim_of (l ++ c ∷ []) else rest) ≡ (if b then claims_of claim_of l else rest) ++ (if b then claim_of c ∷ [] else [])
      by true = map-append claim_of l (c ∷ [])
      by false = sym (append-nil rest)

  named-at : (name : List ℕ) (c : H) (ns : List N) (ls : List (List H)) (i : ℕ) → length ns ≡ length ls → i < length (texts step_name ns)
      → bytes_eq name (get_or (texts step_name ns) i []) ≡ true → ((n : ℕ) → n < i → bytes_eq name (get_or (texts step_name ns) n []) ≡ false)
      → (key : List ℕ) → named_share claim_of step_name ns (added ls i c) key ≡ named_share claim_of step_name ns ls key ++ if_called claim_of name c key
  named-at name c [] ls i even within here earlier key = absurd (omega (arith, within))
  named-at name c (n ∷ ns) [] i even within here earlier key = absurd (omega (arith, even))
  named-at name c (n ∷ ns) (l ∷ ls) zero even within here earlier key =
      here-share key name (step_name n).text c l (named_share claim_of step_name ns ls key) ((bytes_eq-Decides name (step_name n).text).0 here)
  named-at name c (n ∷ ns) (l ∷ ls) (suc i) even within here earlier key =
      ap (λ shares. named_share claim_of step_name (n ∷ ns) shares key) (added-later l ls i c)
      ∙ later-share key name (step_name n).text c (claims_of claim_of l) (named_share claim_of step_name ns ls key) (named_share claim_of step_name ns (added ls i c) key) (earlier zero (omega arith))
      (named-at name c ns ls i (omega (arith, even)) (omega (arith, within)) here (λ k less. earlier (suc k) (omega (arith, less))) key)

  -- a name that is there
  pub named-added : (name : List ℕ) (c : H) (ns : List N) (ls : List (List H)) (i : ℕ) → length ns ≡ length ls
      → position (is_called step_name name) ns ≡ Some i → (key : List ℕ) → named_share claim_of step_name ns (added ls i c) key ≡ named_share claim_of step_name ns ls key ++ if_called claim_of name c key
  named-added name c ns ls i even at key =
      let place : position (bytes_eq name) (texts step_name ns) ≡ Some i = place-texts step_name name ns ∙ at in
      let here = position-Some (bytes_eq name) (texts step_name ns) i [] place in
      named-at name c ns ls i even here.0 here.1 here.2 key

  none_here : (b : Bool) (n : N) (o : Option N) → cond b (Some n) o ≡ None → (b ≡ false) × (o ≡ None)
  none_here true n o e = absurd (cc)
  none_here false n o e = (refl, e)

  named-last : (s : N) (c : H) (ns : List N) (ls : List (List H)) → length ns ≡ length ls
      → find (is_called step_name (step_name s).text) ns ≡ None → (key : List ℕ)
      → named_share claim_of step_name (ns ++ s ∷ []) (ls ++ (c ∷ []) ∷ []) key ≡ named_share claim_of step_name ns ls key ++ if_called claim_of (step_name s).text c key
  named-last s c [] [] even none key = refl
  named-last s c [] (l ∷ ls) even none key = absurd (omega (arith, even))
  named-last s c (n ∷ ns) [] even none key = absurd (omega (arith, even))
  named-last s c (n ∷ ns) (l ∷ ls) even none key =
      let parts = none_here (bytes_eq (step_name s).text (step_name n).text) n (find (is_called step_name (step_name s).text) ns) none in
      later-share key (step_name s).text (step_name n).text c (claims_of claim_of l) (named_share claim_of step_name ns ls key) (named_share claim_of step_name (ns ++ s ∷ []) (ls ++ (c ∷ []) ∷ []) key) parts.0
      (named-last s c ns ls (omega (arith, even)) parts.1 key)

  -- a name that is not there
  pub named-begun : (s : N) (c : H) (ns : List N) (ls : List (List H)) → length ns ≡ length ls
      → position (is_called step_name (step_name s).text) ns ≡ None → (key : List ℕ)
      → named_share claim_of step_name (ns ++ s ∷ []) (ls ++ (c ∷ []) ∷ []) key ≡ named_share claim_of step_name ns ls key ++ if_called claim_of (step_name s).text c key
  named-begun s c ns ls even none key = named-last s c ns ls even (missing (is_called step_name (step_name s).text) ns none) key

  -- the number of a name that is there has a share
  pub named-share : (name : List ℕ) (ns : List N) (ls : List (List H)) (i : ℕ) → length ns ≡ length ls
      → position (is_called step_name name) ns ≡ Some i → named_share claim_of step_name ns ls name ≡ share_at claim_of ls i
  named-share name ns ls i even at =
      let place : position (bytes_eq name) (texts step_name ns) ≡ Some i = place-texts step_name name ns ∙ at in
      let here = position-Some (bytes_eq name) (texts step_name ns) i [] place in
      by ns ls i even here.0 here.1 here.2
    where
      by : (ns : List N) (ls : List (List H)) (i : ℕ) → length ns ≡ length ls → i < length (texts step_name ns)
          → bytes_eq name (get_or (texts step_name ns) i []) ≡ true → ((n : ℕ) → n < i → bytes_eq name (get_or (texts step_name ns) n []) ≡ false)
          → named_share claim_of step_name ns ls name ≡ share_at claim_of ls i
      by [] ls i even within here earlier = absurd (omega (arith, within))
      by (n ∷ ns) [] i even within here earlier = absurd (omega (arith, even))
      by (n ∷ ns) (l ∷ ls) zero even within here earlier = ap (λ b. if b then claims_of claim_of l else named_share claim_of step_name ns ls name) here
      by (n ∷ ns) (l ∷ ls) (suc i) even within here earlier =
          ap (λ b. if b then claims_of claim_of l else named_share claim_of step_name ns ls name) (earlier zero (omega arith))
          ∙ by ns ls i (omega (arith, even)) (omega (arith, within)) here (λ k less. earlier (suc k) (omega (arith, less)))

  pub named-none : (name : List ℕ) (ns : List N) (ls : List (List H)) → position (is_called step_name name) ns ≡ None → named_share claim_of step_name ns ls name ≡ []
  named-none name ns ls none = by ns ls (missing (is_called step_name name) ns none)
    where
      by : (ns : List N) (ls : List (List H)) → find (is_called step_name name) ns ≡ None → named_share claim_of step_name ns ls name ≡ []
      by [] ls none = refl
      by (n ∷ ns) [] none = refl
      by (n ∷ ns) (l ∷ ls) none =
          let parts = none_here (bytes_eq name (step_name n).text) n (find (is_called step_name name) ns) none in
          ap (λ b. if b then claims_of claim_of l else named_share claim_of step_name ns ls name) parts.0 ∙ by ns ls parts.1

module _ {H : Type 0} (claim_of : H → Claim) where
  -- ---- by index

  pub share-added : (ls : List (List H)) (at : ℕ) (c : H) (index : ℕ) → index < length ls → share_at claim_of (added ls at c) index ≡ share_at claim_of ls index ++ if_index claim_of at c index
  share-added [] at c index within = absurd (omega (arith, within))
  share-added (l ∷ ls) zero c zero within = map-append claim_of l (c ∷ [])
  share-added (l ∷ ls) zero c (suc index) within = sym (append-nil (share_at claim_of ls index))
  share-added (l ∷ ls) (suc at) c zero within = ap (λ shares. share_at claim_of shares zero) (added-later l ls at c) ∙ sym (append-nil (claims_of claim_of l))
  share-added (l ∷ ls) (suc at) c (suc index) within =
      ap (λ shares. share_at claim_of shares (suc index)) (added-later l ls at c) ∙ share-added ls at c index (omega (arith, within))

  pub share-empty : (count index : ℕ) → share_at claim_of (replicate count []) index ≡ []
  share-empty zero index = refl
  share-empty (suc count) zero = refl
  share-empty (suc count) (suc index) = share-empty count index

-- numbers that are one are equal
pub same-is : (m n : ℕ) → same_number m n ≡ nat_eq m n
same-is zero zero = refl
same-is zero (suc n) = search rules
same-is (suc m) zero = search rules
same-is (suc m) (suc n) = same-is m n ∙ search rules
