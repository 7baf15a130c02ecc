-- What is said of a response that was read: sections 6.4.4 and 7.1 of GraphQL October 2021.
use Rattle.std.specs.Prelude.{◌≡◌, ℕ, Bool, ◌&&◌, if◌then◌else◌, is_some, List, [], ◌∷◌, Option, Some, None}
use Rattle.gql_document_types.specs.declared.selection.Selection.{Selection}
use Rattle.gql_exec.specs.Nesting.{nesting}
use Rattle.gql_exec.specs.Request.{Request}
use Rattle.gql_exec.specs.RequestWorld.{plain_world}
use Rattle.gql_resolvers.specs.Trail.{Segment}
use Rattle.gql_response.specs.declared.execution_response.ExecutionResponse.{ExecutionResponse}
use Rattle.gql_schema_types.specs.declared.types.ObjectType.{ObjectType}
use Rattle.gql_checker_laws.specs.Claims.{Found}
use Rattle.gql_checker_laws.specs.Tells.{AreExplained}
use Rattle.gql_checker_laws.specs.Verdict.{IsBadAt, IsFirstFalse}
use Rattle.gql_checker_laws.specs.Walk.{of_keys, whole_found}

-- that it is explained, or the index of the first false error, or the path of the first bad value
pub data Judgement : Type 0 where
  is_explained : Judgement
  false_error : ℕ → Judgement
  bad_value : List Segment → Judgement

module _ {X : Type 0} (r : Request X) (root : ObjectType) (initial : X) (selections : List Selection) (response : ExecutionResponse) where
  -- the errors are true field errors, and the data are as they were resolved or null where a listed error brings a null; or the error
  -- at this index is none, and all before it are; or all are, and the first value that is neither as resolved nor such a null is here
  abbrev pub IsJudgementOn : Judgement → Type 0
  IsJudgementOn is_explained = AreExplained (plain_world r) root initial (selections ∷ []) response
  IsJudgementOn (false_error index) = IsFirstFalse (plain_world r) root initial (selections ∷ []) response.errors index
  IsJudgementOn (bad_value path) = IsBadAt (plain_world r) root initial (selections ∷ []) response path

  -- it holds, and no other does where the response is explained or has a false error
  pub record IsJudged (it : Judgement) : Type 0 where
    pub is : IsJudgementOn it
    pub explained : AreExplained (plain_world r) root initial (selections ∷ []) response → it ≡ is_explained
    pub first_false : (index : ℕ) → IsFirstFalse (plain_world r) root initial (selections ∷ []) response.errors index → it ≡ false_error index

  -- what a walk as deep as the selections finds of all the response
  abbrev pub found_in : Found
  found_in =
      whole_found (plain_world r) (nesting r.fragments (selections ∷ [])) root initial (selections ∷ []) response.root response.errors

  -- the data have the keys of the root's fields, in order
  abbrev pub has_keys : Bool
  has_keys = is_some (of_keys (plain_world r) ((plain_world r).groups root (selections ∷ [])) response.root)

abbrev pub by_bad : Option (List Segment) → Judgement
by_bad None = is_explained
by_bad (Some path) = bad_value path

abbrev pub by_data : (is_null given passes : Bool) → Option (List Segment) → Judgement
by_data is_null given passes bad = if is_null && passes then is_explained else (if given then by_bad bad else bad_value [])

-- null data, members with the keys of the groups, and whether a null comes to them; the first error that is not told, and the first
-- bad value
abbrev pub judgement_by : (is_null given passes : Bool) → Option ℕ → Option (List Segment) → Judgement
judgement_by is_null given passes (Some index) bad = false_error index
judgement_by is_null given passes None bad = by_data is_null given passes bad
