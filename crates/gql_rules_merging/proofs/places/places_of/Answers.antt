use Rattle.std.proofs.Common.{◌≡◌, ◌+◌, ◌∷◌, [], ℕ, length, sym, ap, ◌∙◌, subst, arith, length-append}
use Rattle.gql_rules_merging.proofs.FamilySets.{fields_length}
use Rattle.gql_rules_merging.proofs.PlaceNumbers.{AreNumbered, next_numbered}
use Rattle.gql_rules_merging.specs.bridge.Gathering.{fields_of}
use Rattle.gql_rules_merging.specs.bridge.Places.{place_of, inserted, IsNumberOf}
use Rattle.gql_rules_merging.specs.declared.places.Place.{Place}
use Rattle.gql_rules_merging.proofs.places.places_of.Goals as goal

pub loop-number-preserved : goal.loop-number-preserved
loop-number-preserved c =
    let at : ℕ → Place = place_of c.args.types.now (fields_of c.args.fields.now) c.args.keys.now c.args.families.now c.args.mixed.now in
    let numbers = c.loop-number.numbers.items in
    let places = c.loop-number.places.keys in
    let found = c.in_ok-found.found in
    let here : c.place_of-place.result ≡ at (length numbers) = c.place_of-place.ensures ∙ ap at (sym c.loop-number.invariant.as_many) in
    let grown : c.number_of.new.places.keys ≡ inserted places (at (length numbers)) = c.in_ok-found.ensures.grown ∙ ap (inserted places) here in
    let is_number : IsNumberOf (inserted places (at (length numbers))) (at (length numbers)) found =
    subst (λ p. IsNumberOf (inserted places p) p found) here (subst (λ ps. IsNumberOf ps c.place_of-place.result found) c.in_ok-found.ensures.grown c.in_ok-found.ensures.found) in
    record {
      as_many = ap length c.in_ok-push.ensures.items ∙ length-append numbers (found ∷ []) ∙ ap (λ n. n + 1) c.loop-number.invariant.as_many;
      at = subst (λ ps. AreNumbered at ps c.push.new.self.items) (sym grown)
          (subst (AreNumbered at (inserted places (at (length numbers)))) (sym c.in_ok-push.ensures.items)
          (next_numbered at places numbers found c.loop-number.invariant.at is_number));
    }

pub returns : goal.returns
returns c = record {
  places = c.loop-number.places.keys;
  distinct = c.len-count.ensures.unique;
  as_many = c.loop-number.invariant.as_many ∙ omega (arith, fields_length c.args.fields.now);
  counted = c.len-count.ensures.len;
  at = c.loop-number.invariant.at;
}
