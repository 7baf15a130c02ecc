-- The verdict by what was found is the verdict.
use Rattle.std.proofs.Common.{◌≡◌, ℕ, zero, suc, List, [], ◌∷◌, length, Bool, true, false, Option, Some, None, is_some, replicate, refl, sym, ap, ◌∙◌, subst}
use Rattle.std.specs.Prelude.{if◌then◌else◌}
use Rattle.gql_document_types.specs.Ranks.{AreRanked}
use Rattle.gql_document_types.specs.declared.selection.Selection.{Selection}
use Rattle.gql_exec.proofs.Lawful.{lawful}
use Rattle.gql_exec.proofs.Nests.{suffices}
use Rattle.gql_exec.specs.Group.{Group}
use Rattle.gql_exec.specs.Nesting.{nesting}
use Rattle.gql_exec.specs.Request.{Request}
use Rattle.gql_exec.specs.RequestWorld.{plain_world}
use Rattle.gql_resolvers.specs.Depth.{Suffices}
use Rattle.gql_resolvers.specs.Execute.{Member}
use Rattle.gql_resolvers.specs.Trail.{Segment}
use Rattle.gql_resolvers.specs.World.{World}
use Rattle.gql_response.specs.declared.execution_response.ExecutionResponse.{ExecutionResponse}
use Rattle.gql_response.specs.declared.graphql_error.GraphQLError.{GraphQLError}
use Rattle.gql_schema_types.specs.declared.types.ObjectType.{ObjectType}
use Rattle.gql_checker_laws.proofs.Decides.{marks_are, first_unmarked, bad_verdict, explained_verdict, verdict_explained}
use Rattle.gql_checker_laws.specs.Claims.{Found, first_missing, marked, one_later}
use Rattle.gql_checker_laws.specs.Tells.{AreExplained}
use Rattle.gql_checker_laws.specs.Verdict.{AreMarks, IsFirstFalse}
use Rattle.gql_checker_laws.specs.Tells.{Tells}
use Rattle.gql_checker_laws.specs.Walk.{first_bad, is_none, kept_if, of_keys, same_keys, whole_found}
use Rattle.gql_checker_laws.specs.Findings.{none_yet}
use Rattle.gql_checker_laws.specs.Found.{IsFound}
use Rattle.gql_checker_laws.specs.Judgement.{IsJudged, IsJudgementOn, Judgement, is_explained, false_error, by_bad, by_data, found_in, has_keys, judgement_by}
use Rattle.gql_checker_laws.specs.Findings.{Findings}

-- the mark that misses first is that of the first false error
false-missing : {X T G S : Type 0} (w : World X T G S) (root : T) (initial : X) (all : S) (es : List GraphQLError) (bs : List Bool) (i : ℕ)
    → AreMarks (Tells w root initial all) es bs → IsFirstFalse w root initial all es i → first_missing bs ≡ Some i
false-missing w root initial all [] bs i are e = absurd e
false-missing w root initial all (x ∷ es) [] i are e = absurd are
false-missing w root initial all (x ∷ es) (true ∷ bs) zero are e = absurd (e (are.0.0 refl))
false-missing w root initial all (x ∷ es) (false ∷ bs) zero are e = refl
false-missing w root initial all (x ∷ es) (true ∷ bs) (suc i) are e = ap one_later (false-missing w root initial all es bs i are.1 e.1)
false-missing w root initial all (x ∷ es) (false ∷ bs) (suc i) are e = absurd (let wrong : false ≡ true = are.0.1 e.0 in cc)

module _ {X : Type 0} (r : Request X) (rank : ℕ → ℕ) (ranked : AreRanked r.fragments rank) (U : ObjectType) (x : X) (selections : List Selection)
    (response : ExecutionResponse) where
  abbrev w : World X ObjectType Group (List (List Selection))
  w = plain_world r

  abbrev all : List (List Selection)
  all = selections ∷ []

  abbrev pub depth : ℕ
  depth = nesting r.fragments all

  pub each : (W : ObjectType) → Suffices w depth W all
  each W = suffices r rank ranked W all

  abbrev pub found : Found
  found = whole_found w depth U x all response.root response.errors

  abbrev marks : List Bool
  marks = marked found.told (replicate (length response.errors) false)

  are : AreMarks (Tells w U x all) response.errors marks
  are = marks_are w U x all (lawful r) depth each response.errors response.root (length response.errors) refl

  data-none : (p : Bool) (bad : Option (List Segment)) → by_data true false p bad ≡ by_bad (if p then None else Some [])
  data-none true bad = refl
  data-none false bad = refl

  data-some : (b : Bool) (ms : List Member) (p : Bool) (bad : Option (List Segment)) → by_data false (is_some (kept_if b ms)) p bad ≡ by_bad (if b then bad else Some [])
  data-some true ms p bad = refl
  data-some false ms p bad = refl

  data-same : (o : Option (List Member)) (f : Found) → by_data (is_none o) (is_some (of_keys w (w.groups U all) o)) f.passes f.bad ≡ by_bad (first_bad w U all o f)
  data-same None f = data-none f.passes f.bad
  data-same (Some ms) f = data-some (same_keys w (w.groups U all) ms) ms f.passes f.bad

  abbrev it : Judgement
  it = judgement_by (is_none response.root) (is_some (of_keys w (w.groups U all) response.root)) found.passes (first_missing marks) found.bad

  by-marks : (first : Option ℕ) → first_missing marks ≡ first
      → judgement_by (is_none response.root) (is_some (of_keys w (w.groups U all) response.root)) found.passes first found.bad ≡ it
  by-marks first is = ap (λ o. judgement_by (is_none response.root) (is_some (of_keys w (w.groups U all) response.root)) found.passes o found.bad) (sym is)

  judged-none : (first : first_missing marks ≡ None) (bad : Option (List Segment)) → first_bad w U all response.root found ≡ bad → IsJudgementOn r U x selections response (by_bad bad)
  judged-none first None is =
      let e = explained_verdict w U x all (lawful r) depth each response.errors response.root marks are first is in
      record { faults = e.faults; explained = e.explained }
  judged-none first (Some path) is =
      let e = bad_verdict w U x all (lawful r) depth each response.errors response.root marks are first path is in
      record { faults = e.faults; bad = e.bad }

  judged-is : (first : Option ℕ) → first_missing marks ≡ first → IsJudgementOn r U x selections response it
  judged-is (Some index) is =
      subst (IsJudgementOn r U x selections response) (by-marks (Some index) is) (first_unmarked w U x all response.errors marks index are is)
  judged-is None is =
      subst (IsJudgementOn r U x selections response) (by-marks None is)
      (subst (IsJudgementOn r U x selections response) (sym (data-same response.root found)) (judged-none is (first_bad w U all response.root found) refl))

  judged-explained : AreExplained w U x all response → it ≡ is_explained
  judged-explained e =
      let none = verdict_explained w U x all (lawful r) depth each response.errors response.root marks are (record { faults = e.faults; explained = e.explained }) in
      sym (by-marks None none.0) ∙ data-same response.root found ∙ ap by_bad none.1

  judged-false : (index : ℕ) → IsFirstFalse w U x all response.errors index → it ≡ false_error index
  judged-false index e = sym (by-marks (Some index) (false-missing w U x all response.errors marks index are e))

  pub judged : (passes : Bool) (findings : Findings) → IsFound (found_in r U x selections response) (none_yet (length response.errors)) findings passes
      → IsJudged r U x selections response
      (judgement_by (is_none response.root) (has_keys r U x selections response) passes (first_missing findings.told) findings.bad)
  judged passes findings finds =
      let given = has_keys r U x selections response in
      let same : it ≡ judgement_by (is_none response.root) given passes (first_missing findings.told) findings.bad =
      ap (λ p. judgement_by (is_none response.root) given p (first_missing marks) found.bad) (sym finds.passes)
      ∙ ap (λ ms. judgement_by (is_none response.root) given passes (first_missing ms) found.bad) (sym finds.told)
      ∙ ap (λ b. judgement_by (is_none response.root) given passes (first_missing findings.told) b) (sym finds.bad) in
      subst (IsJudged r U x selections response) same
      (record { is = judged-is (first_missing marks) refl; explained = judged-explained; first_false = judged-false })
