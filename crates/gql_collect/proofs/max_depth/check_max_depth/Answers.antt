use Rattle.std.proofs.Common.{◌<◌, ℕ, List, false, MatchOption, sym, ap, subst}
use Rattle.gql_response.specs.declared.request_error.RequestError.{RequestError}
use Rattle.gql_document_types.specs.Spreads.{AreAcyclic}
use Rattle.gql_document_types.specs.declared.document.ExecutableDocument.{ExecutableDocument}
use Rattle.gql_collect.specs.Expanded.{expanded_depth}
use Rattle.gql_collect.specs.Nested.{Place}
use Rattle.gql_collect.specs.Refusal.{IsFoundDeep}
use Rattle.gql_collect.specs.View.{fragments_nested, nested}
use Rattle.gql_collect.proofs.max_depth.check_max_depth.Goals as goal

abbrev telling : Place → List ℕ → RequestError
telling place message = record { message = message; location = place; is_suspected_validation_bug = false }

pub found_deep-requires : goal.found_deep-requires
found_deep-requires g c = record {
  acyclic = subst (λ (d : ExecutableDocument). AreAcyclic d.fragments) (sym c.as_ref.ensures) c.requires.acyclic;
}

pub returns-in_ok-from_str-in-Some-clause-refused : goal.returns-in_ok-from_str-in-Some-clause-refused
returns-in_ok-from_str-in-Some-clause-refused g c =
    let selections = c.args.operation.now.selection_set.selections in
    let place = c.in-Some.location in
    let found : IsFoundDeep c.as_ref.result.now.fragments selections place =
    subst (λ o. MatchOption o (expanded_depth (fragments_nested c.as_ref.result.now.fragments) (nested c.as_ref.result.now.fragments selections) < 3)
    (IsFoundDeep c.as_ref.result.now.fragments selections)) c.in-Some.is c.in_ok-found_deep.ensures.found in (
      place,
      subst (λ (d : ExecutableDocument). IsFoundDeep d.fragments selections place) c.as_ref.ensures found,
      ap (telling place) c.in_ok-from_str-in-Some.ensures,
    )
