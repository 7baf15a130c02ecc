-- When and how too great a depth is told.
use Rattle.std.specs.Prelude.{◌≡◌, ◌≤◌, List, false, Some, codes}
use Rattle.gql_response.specs.declared.request_error.RequestError.{RequestError}
use Rattle.gql_document_types.specs.declared.fragment.Fragment.{Fragment}
use Rattle.gql_document_types.specs.declared.selection.Selection.{Selection}
use Rattle.gql_collect.specs.DepthPlace.{depth_place}
use Rattle.gql_collect.specs.Expanded.{expanded_depth}
use Rattle.gql_collect.specs.Nested.{Place}
use Rattle.gql_collect.specs.View.{fragments_nested, nested}
use Rattle.jb_text.specs.declared.refused.Refused.{Refused}
use Rattle.jb_text.specs.declared.refused.Refused.TheVariants.{Fault, Memory}

-- some chain has three counted fields, and this is the first place where that shows
pub record IsFoundDeep (fragments : List Fragment) (selections : List Selection) (place : Place) : Type 0 where
  pub deep : 3 ≤ expanded_depth (fragments_nested fragments) (nested fragments selections)
  pub first : depth_place (fragments_nested fragments) (nested fragments selections) ≡ Some place

abbrev pub too_deep : Place → RequestError
too_deep place = record { message = codes "Maximum introspection depth exceeded"; location = place; is_suspected_validation_bug = false }

-- what is refused for it tells the place, or that memory ran out
abbrev pub IsTooDeep : List Fragment → List Selection → Refused RequestError → Type 0
IsTooDeep fragments selections (Fault error) = (place : Place) × IsFoundDeep fragments selections place × (error ≡ too_deep place)
IsTooDeep fragments selections Memory = Unit {0}
