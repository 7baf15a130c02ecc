use Rattle.std.proofs.Common.{◌≡◌, ◌++◌, drop}
use Rattle.std.specs.List.{flat_map}
use Rattle.gql_rules_merging.specs.bridge.Gathering.{fields_of}
use Rattle.gql_rules_merging.specs.bridge.Telling.{told_of}
use Rattle.gql_rules_merging.proofs.field_selection_merging.list_broken.Given as goal

-- what is told and what is left make the whole
abbrev pub invariant-loop-pair : goal.invariant-loop-pair
invariant-loop-pair l =
    l.faults ++ flat_map (told_of l.comparison.types.now (fields_of l.comparison.fields.now) l.seen) (drop l.pair-index l.pairs)
    ≡ l.fn.faults ++ flat_map (told_of l.comparison.types.now (fields_of l.comparison.fields.now) l.seen) l.pairs
