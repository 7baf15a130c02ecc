-- The walk decides which listed errors are true, and whether they explain the data.
use Rattle.std.proofs.Common.{◌≡◌, ℕ, zero, suc, ◌+◌, ◌<◌, List, [], ◌∷◌, length, replicate, get_or, nat_eq, Option, Some, None, Bool, true, false, if◌then◌else◌, refl, sym, subst, ap, ◌∙◌, inl, inr, ◌⊎◌, arith}
use Rattle.std.specs.Prelude.{slice_set, Contains}
use Rattle.std.specs.Bool.{Decides}
use Rattle.std.specs.List.{AllByRecursion}
use Rattle.std.proofs.lemmas.Grind.{get_or-set_at}
use Rattle.std.proofs.lemmas.List.{get_or-set_other, get_or-replicate, length-replicate, length-set}
use Rattle.std.proofs.lemmas.List.Elements.{Contains-append_right}
use Rattle.gql_response.specs.declared.execution_response.ExecutionResponse.{ExecutionResponse}
use Rattle.gql_response.specs.declared.graphql_error.GraphQLError.{GraphQLError}
use Rattle.gql_resolvers.specs.Resolved.{Outcome}
use Rattle.gql_resolvers.specs.World.{World, IsLawful}
use Rattle.gql_resolvers.specs.Depth.{Suffices}
use Rattle.gql_resolvers.specs.Trail.{Segment, shown}
use Rattle.gql_resolvers.specs.Spot.{Spot}
use Rattle.gql_resolvers.specs.Execute.{Member}
use Rattle.gql_resolvers.specs.Reached.{IsAmong, fields_of, Reaches, at_root}
use Rattle.gql_resolvers.specs.Explained.{IsExplainedBy, Holds}
use Rattle.gql_checker_laws.specs.Bad.{FirstOfAll, null_unheld, other_keys, in_root}
use Rattle.gql_checker_laws.specs.Claims.{Claim, claims_from, Found, marked, one_later, first_missing}
use Rattle.gql_checker_laws.specs.Tells.{IsListed, Tells, AreExplained}
use Rattle.gql_checker_laws.specs.Verdict.{AreMarks, IsFirstFalse, IsBadAt}
use Rattle.gql_checker_laws.specs.Walk.{same_keys, of_keys, set_found, whole_found, first_bad}
use Rattle.gql_checker_laws.proofs.Facts.{Inner, TellsAt, at_true}
use Rattle.gql_checker_laws.proofs.Judge.{RunFacts, fields_keyed}
use Rattle.gql_checker_laws.proofs.Keyed.{names_keyed, keyed_names}
use Rattle.gql_checker_laws.proofs.Worst.{set_facts}
use Rattle.gql_checker_laws.proofs.Paths.{way_to, way_long, root_step}
use Rattle.gql_checker_laws.proofs.WalkedPlaces.{holds_of, fault_way}
use Rattle.gql_checker_laws.proofs.Portions.{In}

-- the error of a number
abbrev pub error_at : ℕ → List GraphQLError → Option GraphQLError
error_at n [] = None
error_at zero (e ∷ es) = Some e
error_at (suc n) (e ∷ es) = error_at n es

contains_cases : {A : Type 0} (x : A) (xs : List A) (y : A) → Contains (x ∷ xs) y → (x ≡ y) ⊎ Contains xs y
contains_cases x xs y (zero, within, e) = inl e
contains_cases x xs y (suc k, within, e) = inr (k, omega (arith, within), e)

claim_from : (n : ℕ) (es : List GraphQLError) (c : Claim) → In c (claims_from n es) → Contains es c.error × (c.rest ≡ c.error.path)
claim_from n [] c h = absurd h
claim_from n (e ∷ es) c (inl h) =
    ((0, omega arith, ap (λ (x : Claim). x.error) (sym h)), ap (λ (x : Claim). x.rest) h ∙ sym (ap (λ (x : Claim). x.error.path) h))
claim_from n (e ∷ es) c (inr h) = let r = claim_from (n + 1) es c h in (Contains-append_right (e ∷ []) es c.error r.0, r.1)

claim_of : (n : ℕ) (es : List GraphQLError) (e : GraphQLError) → Contains es e → (c : Claim) × In c (claims_from n es) × (c.error ≡ e) × (c.rest ≡ e.path)
claim_of n [] e h = absurd (let wrong : h.0 < 0 = h.1 in omega (arith, wrong))
claim_of n (x ∷ es) e h = by_case (contains_cases x es e h) (λ k. claim_of (n + 1) es e k) where
  by_case : (x ≡ e) ⊎ Contains es e → (Contains es e → (c : Claim) × In c (claims_from (n + 1) es) × (c.error ≡ e) × (c.rest ≡ e.path))
      → (c : Claim) × In c (claims_from n (x ∷ es)) × (c.error ≡ e) × (c.rest ≡ e.path)
  by_case (inl k) later = (record { number = n; error = x; rest = x.path }, inl refl, k, ap (λ (y : GraphQLError). y.path) k)
  by_case (inr k) later = let r = later k in (r.0, inr r.1, r.2, r.3)

numbered_from : (n : ℕ) (es : List GraphQLError) (c : Claim) → In c (claims_from n es) → (k : ℕ) × (c.number ≡ n + k) × (error_at k es ≡ Some c.error)
numbered_from n [] c h = absurd h
numbered_from n (e ∷ es) c (inl h) =
    (0, let m : c.number ≡ n = ap (λ (x : Claim). x.number) h in omega (arith, m), ap (λ (x : Claim). Some x.error) (sym h))
numbered_from n (e ∷ es) c (inr h) =
    let r = numbered_from (n + 1) es c h in
    (suc r.0, let m : c.number ≡ n + 1 + r.0 = r.1 in omega (arith, m), r.2)

claim_at : (n : ℕ) (es : List GraphQLError) (k : ℕ) (e : GraphQLError) → error_at k es ≡ Some e
    → (c : Claim) × In c (claims_from n es) × (c.error ≡ e) × (c.number ≡ n + k) × (c.rest ≡ e.path)
claim_at n [] k e h = absurd (cc)
claim_at n (x ∷ es) zero e h =
    let same : x ≡ e = cc in
    (record { number = n; error = x; rest = x.path }, inl refl, same, omega arith, ap (λ (y : GraphQLError). y.path) same)
claim_at n (x ∷ es) (suc k) e h =
    let r = claim_at (n + 1) es k e h in
    (r.0, inr r.1, r.2, let m : r.0.number ≡ n + 1 + k = r.3 in omega (arith, m), r.4)

-- ---- marks

nat_decides : (m n : ℕ) → Decides (nat_eq m n) (m ≡ n)
nat_decides m n = grind arith

set_get : (i : ℕ) (ms : List Bool) (j : ℕ) → j < length ms → (get_or (slice_set ms i true) j false ≡ true) → (j ≡ i) ⊎ (get_or ms j false ≡ true)
set_get i ms j within e = by_case (nat_eq j i) refl where
  by_case : (b : Bool) → nat_eq j i ≡ b → (j ≡ i) ⊎ (get_or ms j false ≡ true)
  by_case true f = inl ((nat_decides j i).0 f)
  by_case false f = inr (sym (get_or-set_other ms i j true false (λ same. let wrong : true ≡ false = sym ((nat_decides j i).1 same) ∙ f in cc)) ∙ e)

get_set : (i : ℕ) (ms : List Bool) (j : ℕ) → j < length ms → (j ≡ i) ⊎ (get_or ms j false ≡ true) → get_or (slice_set ms i true) j false ≡ true
get_set i ms j within h = by_case (nat_eq j i) refl h where
  by_case : (b : Bool) → nat_eq j i ≡ b → (j ≡ i) ⊎ (get_or ms j false ≡ true) → get_or (slice_set ms i true) j false ≡ true
  by_case true f k = let same = (nat_decides j i).0 f in get_or-set_at ms i j true false same (omega (arith, within, same))
  by_case false f (inl k) = absurd (let wrong : true ≡ false = sym ((nat_decides j i).1 k) ∙ f in cc)
  by_case false f (inr k) = get_or-set_other ms i j true false (λ same. let wrong : true ≡ false = sym ((nat_decides j i).1 same) ∙ f in cc) ∙ k

set_long : (i : ℕ) (ms : List Bool) → length (slice_set ms i true) ≡ length ms
set_long i ms = length-set ms i true

pub marked_long : (ns : List ℕ) (ms : List Bool) → length (marked ns ms) ≡ length ms
marked_long [] ms = refl
marked_long (n ∷ ns) ms = marked_long ns (slice_set ms n true) ∙ set_long n ms

marked_get : (ns : List ℕ) (ms : List Bool) (j : ℕ) → j < length ms → get_or (marked ns ms) j false ≡ true → In j ns ⊎ (get_or ms j false ≡ true)
marked_get [] ms j within e = inr e
marked_get (n ∷ ns) ms j within e =
    let long = set_long n ms in
    by_case (marked_get ns (slice_set ms n true) j (omega (arith, within, long)) e) where
      by_set : (j ≡ n) ⊎ (get_or ms j false ≡ true) → In j (n ∷ ns) ⊎ (get_or ms j false ≡ true)
      by_set (inl k) = inl (inl k)
      by_set (inr k) = inr k

      by_case : In j ns ⊎ (get_or (slice_set ms n true) j false ≡ true) → In j (n ∷ ns) ⊎ (get_or ms j false ≡ true)
      by_case (inl k) = inl (inr k)
      by_case (inr k) = by_set (set_get n ms j within k)

get_marked : (ns : List ℕ) (ms : List Bool) (j : ℕ) → j < length ms → In j ns ⊎ (get_or ms j false ≡ true) → get_or (marked ns ms) j false ≡ true
get_marked [] ms j within (inl h) = absurd h
get_marked [] ms j within (inr h) = h
get_marked (n ∷ ns) ms j within h =
    let long = set_long n ms in
    get_marked ns (slice_set ms n true) j (omega (arith, within, long)) (by_case h) where
      by_case : In j (n ∷ ns) ⊎ (get_or ms j false ≡ true) → In j ns ⊎ (get_or (slice_set ms n true) j false ≡ true)
      by_case (inl (inl k)) = inr (get_set n ms j within (inl k))
      by_case (inl (inr k)) = inl k
      by_case (inr k) = inr (get_set n ms j within (inr k))

marks_by : (P : GraphQLError → Type 0) (es : List GraphQLError) (bs : List Bool) → length bs ≡ length es
    → ((i : ℕ) (e : GraphQLError) → error_at i es ≡ Some e → Decides (get_or bs i false) (P e)) → AreMarks P es bs
marks_by P [] [] long each = tt
marks_by P [] (b ∷ bs) long each = absurd (omega (arith, long))
marks_by P (e ∷ es) [] long each = absurd (omega (arith, long))
marks_by P (e ∷ es) (b ∷ bs) long each = (each 0 e refl, marks_by P es bs (omega (arith, long)) (λ i x h. each (suc i) x h))

-- all are true where no mark is missing, and else the first that misses is the first false one
pub all_marked : (P : GraphQLError → Type 0) (es : List GraphQLError) (bs : List Bool) → AreMarks P es bs → first_missing bs ≡ None → AllByRecursion P es
all_marked P [] [] are none = tt
all_marked P [] (b ∷ bs) are none = absurd are
all_marked P (e ∷ es) [] are none = absurd are
all_marked P (e ∷ es) (true ∷ bs) are none = (are.0.0 refl, all_marked P es bs are.1 (no_later (first_missing bs) none)) where
  no_later : (o : Option ℕ) → one_later o ≡ None → o ≡ None
  no_later None h = refl
  no_later (Some n) h = absurd (cc)
all_marked P (e ∷ es) (false ∷ bs) are none = absurd (cc)

pub marked_all : (P : GraphQLError → Type 0) (es : List GraphQLError) (bs : List Bool) → AreMarks P es bs → AllByRecursion P es → first_missing bs ≡ None
marked_all P [] [] are told = refl
marked_all P [] (b ∷ bs) are told = absurd are
marked_all P (e ∷ es) [] are told = absurd are
marked_all P (e ∷ es) (true ∷ bs) are told = ap one_later (marked_all P es bs are.1 told.1)
marked_all P (e ∷ es) (false ∷ bs) are told = absurd (let wrong : false ≡ true = are.0.1 told.0 in cc)

module _ {X T G S : Type 0} (w : World X T G S) (root : T) (initial : X) (all : S) where
  pub first_unmarked : (es : List GraphQLError) (bs : List Bool) (i : ℕ) → AreMarks (Tells w root initial all) es bs → first_missing bs ≡ Some i → IsFirstFalse w root initial all es i
  first_unmarked [] [] i are e = absurd (cc)
  first_unmarked [] (b ∷ bs) i are e = absurd are
  first_unmarked (x ∷ es) [] i are e = absurd are
  first_unmarked (x ∷ es) (false ∷ bs) i are e =
      let same : 0 ≡ i = cc in
      subst (λ j. IsFirstFalse w root initial all (x ∷ es) j) same (λ t. let wrong : false ≡ true = are.0.1 t in cc)
  first_unmarked (x ∷ es) (true ∷ bs) i are e = by_later (first_missing bs) refl e (λ n h. first_unmarked es bs n are.1 h) where
    by_later : (o : Option ℕ) → first_missing bs ≡ o → one_later o ≡ Some i → ((n : ℕ) → first_missing bs ≡ Some n → IsFirstFalse w root initial all es n)
        → IsFirstFalse w root initial all (x ∷ es) i
    by_later None h k later = absurd (cc)
    by_later (Some n) h k later =
        let same : suc n ≡ i = cc in
        subst (λ j. IsFirstFalse w root initial all (x ∷ es) j) same (are.0.0 refl, later n h)

module _ {X T G S : Type 0} (w : World X T G S) (root : T) (initial : X) (all : S) (lawful : IsLawful w)
    (d : ℕ) (enough : (U : T) → Suffices w d U all) (errors : List GraphQLError) where
  abbrev K : GraphQLError → Type 0
  K = Contains errors

  abbrev cs : List Claim
  cs = claims_from 0 errors

  run : RunFacts w root initial all lawful K (set_found w d) all
  run = set_facts w root initial all lawful K d all enough

  aligned : (c : Claim) → In c cs → (shown c.error.path ≡ shown c.rest) × K c.error
  aligned c h = let f = claim_from 0 errors c h in (sym (ap shown f.1), f.0)

  covers : (e : GraphQLError) → K e → (s : Segment) (q : List Segment) → shown e.path ≡ s ∷ q → (c : Claim) × In c cs × (c.error ≡ e) × (shown c.rest ≡ s ∷ q)
  covers e l s q path = let c = claim_of 0 errors e l in (c.0, c.1, c.2, ap shown c.3 ∙ path)

  reach : (q : Spot G) (a : Outcome X) → IsAmong q a (fields_of w root initial [] (w.groups root all)) → Reaches w root initial all q a
  reach q a h = at_root h

  -- a true error has a path
  path_begins : (e : GraphQLError) → Tells w root initial all e → (s : Segment) × (q : List Segment) × (shown e.path ≡ s ∷ q)
  path_begins e t = by_path (shown e.path) refl where
    by_path : (p : List Segment) → shown e.path ≡ p → (s : Segment) × (q : List Segment) × (shown e.path ≡ s ∷ q)
    by_path (s ∷ q) h = (s, q, h)
    by_path [] h =
        let at = at_true w root initial all K e t in
        let long = way_long t.1.1.spot in
        let way : length (way_to t.1.1.spot) ≡ length (shown e.path) = ap length (fault_way w root initial all lawful K e at.0 at.1) in
        let none : length (shown e.path) ≡ 0 = ap length h in
        absurd (omega (arith, long, way, none))

  module _ (given : Option (List Member)) where
    abbrev pub found : Found
    found = whole_found w d root initial all given errors

    set : Inner w root initial all K None cs found
    set = run.facts root initial [] (of_keys w (w.groups root all) given) cs reach (λ q b k t r path. root_step w root initial all lawful k t r path) aligned

    told_is : (i : ℕ) (e : GraphQLError) → error_at i errors ≡ Some e → In i found.told → Tells w root initial all e
    told_is i e at h =
        let f = set.told_sound i h in
        let k = numbered_from 0 errors f.claim f.there in
        let number : k.0 ≡ i = let m : f.claim.number ≡ 0 + k.0 = k.1 in let p : f.claim.number ≡ i = f.number in omega (arith, m, p) in
        let same : Some f.claim.error ≡ Some e = sym (subst (λ j. error_at j errors ≡ Some f.claim.error) number k.2) ∙ at in
        let one : f.claim.error ≡ e = cc in
        subst (Tells w root initial all) one f.holds

    is_told : (i : ℕ) (e : GraphQLError) → error_at i errors ≡ Some e → Tells w root initial all e → In i found.told
    is_told i e at t =
        let c = claim_at 0 errors i e at in
        let p = path_begins e t in
        let number : c.0.number ≡ i = let m : c.0.number ≡ 0 + i = c.3 in omega (arith, m) in
        subst (λ j. In j found.told) number
        (set.told_whole c.0 c.1 p.0 p.1 (ap shown c.4 ∙ p.2) (subst (Tells w root initial all) (sym c.2) t))

    fresh_long : (n : ℕ) → length (replicate n false) ≡ n
    fresh_long n = length-replicate n false

    fresh_false : (n i : ℕ) → i < n → get_or (replicate n false) i false ≡ true → ⊥
    fresh_false n i inside e = let wrong : false ≡ true = sym (get_or-replicate n i false false inside) ∙ e in cc

    within : (es : List GraphQLError) (i : ℕ) (e : GraphQLError) → error_at i es ≡ Some e → i < length es
    within [] i e h = absurd (cc)
    within (x ∷ es) zero e h = omega arith
    within (x ∷ es) (suc i) e h = let k = within es i e h in omega (arith, k)

    -- the marks of the errors that are true
    pub marks_are : (n : ℕ) → n ≡ length errors → AreMarks (Tells w root initial all) errors (marked found.told (replicate n false))
    marks_are n long = marks_by (Tells w root initial all) errors (marked found.told (replicate n false)) (marked_long found.told (replicate n false) ∙ fresh_long n ∙ long) each where
      each : (i : ℕ) (e : GraphQLError) → error_at i errors ≡ Some e → Decides (get_or (marked found.told (replicate n false)) i false) (Tells w root initial all e)
      each i e at = (λ b. from_mark (marked_get found.told (replicate n false) i inside b), λ t. get_marked found.told (replicate n false) i inside (inl (is_told i e at t))) where
        inside : i < length (replicate n false)
        inside = let k = within errors i e at in let l = fresh_long n in omega (arith, k, l, long)

        from_mark : In i found.told ⊎ (get_or (replicate n false) i false ≡ true) → Tells w root initial all e
        from_mark (inl k) = told_is i e at k
        from_mark (inr k) = absurd (fresh_false n i (let l = fresh_long n in omega (arith, inside, l)) k)

  keyed : (gs : List G) (members : List Member) → same_keys w gs members ≡ true → of_keys w gs (Some members) ≡ Some members
  keyed gs members e = rw e refl

  -- where the data is null
  abbrev whole_bad : Bool → Option (List Segment)
  whole_bad passes = if passes then None else Some []

  -- what has no bad path is explained
  pub explained : (given : Option (List Member)) → first_bad w root all given (found given) ≡ None → IsExplainedBy w root initial all (IsListed errors) given
  explained None e = by_passes (found None).passes refl e where
    by_passes : (b : Bool) → (found None).passes ≡ b → whole_bad b ≡ None → Holds w root initial all (IsListed errors) None
    by_passes true k h = holds_of w root initial all lawful K None ((set None).passes_sound k)
    by_passes false k h = absurd (cc)
  explained (Some members) e = by_same (same_keys w (w.groups root all) members) refl e where
    by_same : (b : Bool) → same_keys w (w.groups root all) members ≡ b → (if b then (found (Some members)).bad else Some []) ≡ None
        → IsExplainedBy w root initial all (IsListed errors) (Some members)
    by_same false k h = absurd (cc)
    by_same true k h = run.good root initial [] members cs reach aligned k
        (subst (λ ms. (set_found w d root initial [] all ms cs).bad ≡ None) (keyed (w.groups root all) members k) h)

  -- and what is explained has none
  pub is_explained : (given : Option (List Member)) → IsExplainedBy w root initial all (IsListed errors) given → first_bad w root all given (found given) ≡ None
  is_explained None h =
      let tells : Tells w root initial all h.1.0 = (h.0, (None, h.2), h.1.2) in
      let p = path_begins h.1.0 tells in
      let c = covers h.1.0 h.1.1 p.0 p.1 p.2 in
      let at : TellsAt w root initial all K c.0.error None = subst (λ (x : GraphQLError). TellsAt w root initial all K x None) (sym c.2) (h.0, h.2, h.1.2) in
      rw ((set None).passes_whole c.0 c.1 p.0 p.1 c.3 at) refl
  is_explained (Some members) h =
      let same = fields_keyed w root initial all lawful K (set_found w d) h in
      rw same (run.fine root initial [] members cs reach aligned covers h)

  -- a path that is told is the first bad one
  pub first_bad_is : (given : Option (List Member)) (p : List Segment) → first_bad w root all given (found given) ≡ Some p → FirstOfAll w root initial all (IsListed errors) given p
  first_bad_is None p e = by_passes (found None).passes refl e where
    by_passes : (b : Bool) → (found None).passes ≡ b → whole_bad b ≡ Some p → FirstOfAll w root initial all (IsListed errors) None p
    by_passes true k h = absurd (cc)
    by_passes false k h =
        let same : [] ≡ p = cc in
        subst (λ q. FirstOfAll w root initial all (IsListed errors) None q) same
        (null_unheld (λ held. let wrong : None ≡ Some [] = sym (is_explained None held) ∙ rw k refl in cc))
  first_bad_is (Some members) p e = by_same (same_keys w (w.groups root all) members) refl e where
    by_same : (b : Bool) → same_keys w (w.groups root all) members ≡ b
        → (if b then (found (Some members)).bad else Some []) ≡ Some p → FirstOfAll w root initial all (IsListed errors) (Some members) p
    by_same false k h =
        let same : [] ≡ p = cc in
        subst (λ q. FirstOfAll w root initial all (IsListed errors) (Some members) q) same
        (other_keys members (λ n. let wrong : true ≡ false = sym (keyed_names w (w.groups root all) members n) ∙ k in cc))
    by_same true k h =
        in_root members (names_keyed w (w.groups root all) members k)
        (run.worst root initial [] members cs p reach aligned covers k
        (subst (λ ms. (set_found w d root initial [] all ms cs).bad ≡ Some p) (keyed (w.groups root all) members k) h))

  -- ---- the verdict

  module _ (given : Option (List Member)) (marks : List Bool) (are : AreMarks (Tells w root initial all) errors marks) where
    abbrev response : ExecutionResponse
    response = record { errors = errors; root = given }

    pub bad_verdict : first_missing marks ≡ None → (p : List Segment) → first_bad w root all given (found given) ≡ Some p → IsBadAt w root initial all response p
    bad_verdict none p e = record { faults = all_marked (Tells w root initial all) errors marks are none; bad = first_bad_is given p e }

    pub explained_verdict : first_missing marks ≡ None → first_bad w root all given (found given) ≡ None → AreExplained w root initial all response
    explained_verdict none e = record { faults = all_marked (Tells w root initial all) errors marks are none; explained = explained given e }

    pub verdict_explained : AreExplained w root initial all response → (first_missing marks ≡ None) × (first_bad w root all given (found given) ≡ None)
    verdict_explained are_explained = (marked_all (Tells w root initial all) errors marks are are_explained.faults, is_explained given are_explained.explained)
