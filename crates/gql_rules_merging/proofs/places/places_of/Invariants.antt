use Rattle.std.proofs.Common.{◌≡◌, length}
use Rattle.gql_rules_merging.proofs.PlaceNumbers.{AreNumbered}
use Rattle.gql_rules_merging.specs.bridge.Gathering.{fields_of}
use Rattle.gql_rules_merging.specs.bridge.Places.{place_of}
use Rattle.gql_rules_merging.proofs.places.places_of.Given as goal

-- the fields before this one have their numbers
abbrev pub invariant-loop-number : goal.invariant-loop-number
invariant-loop-number l = record {
  as_many : length l.numbers.items ≡ l.number;
  at : AreNumbered (place_of l.types (fields_of l.fields) l.keys l.families l.mixed) l.places.keys l.numbers.items;
}
