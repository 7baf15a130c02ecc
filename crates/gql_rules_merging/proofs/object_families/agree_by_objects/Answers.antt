use Rattle.std.proofs.Common.{subst}
use Rattle.gql_rules_merging.proofs.ObjectFamilies.{none_break_by_objects, numbers_within}
use Rattle.gql_rules_merging.specs.bridge.Gathering.{fields_of, numbered_of}
use Rattle.gql_rules_merging.specs.bridge.Places.{AreOnObjects, ArePlaces}
use Rattle.gql_rules_merging.specs.ResponseKeys.{key_numbers}
use Rattle.gql_rules_merging.proofs.object_families.agree_by_objects.Goals as goal

pub agree_in_groups-requires : goal.agree_in_groups-requires
agree_in_groups-requires c =
    let places = c.in_ok-places.places in
    numbers_within c.args.types.now (fields_of c.as_slice-2.result.now) c.args.keys.now c.args.families.now c.args.mixed.now places.keys.items places.count c.in_ok-places.ensures

pub returns : goal.returns
returns c sound =
    let types = c.args.types.now in
    let document = numbered_of c.args.numbered.now in
    let held = c.args.numbered.now.fields in
    let families = c.args.families.now in
    let mixed = c.args.mixed.now in
    let places = c.in_ok-places.places in
    let on_objects : AreOnObjects types (fields_of held) families mixed =
    subst (λ l. AreOnObjects types (fields_of l) families mixed) c.as_slice.ensures (c.are_on_objects.ensures c.if-not-are_on_objects.false) in
    let placed : ArePlaces types (fields_of held) (key_numbers (fields_of held)) families mixed places.keys.items places.count =
    subst (λ keys. ArePlaces types (fields_of held) keys families mixed places.keys.items places.count) c.requires.keys
    (subst (λ l. ArePlaces types (fields_of l) c.args.keys.now families mixed places.keys.items places.count) c.as_slice-2.ensures c.in_ok-places.ensures) in
    let one = c.requires.families in
    let groups = c.in_ok-sound.ensures sound in
    none_break_by_objects types document families one.rows mixed places.keys.items places.count c.as_slice-4.result.now groups.rows one.shaped one.gathered one.closed on_objects placed
    groups.agreed groups.gathered groups.closed
