use Rattle.std.proofs.Common.{ℕ, ◌<◌}
use Rattle.gql_rules_merging.proofs.ObjectFamilies.{StandsAt}
use Rattle.gql_rules_merging.specs.bridge.Gathering.{fields_of}
use Rattle.gql_rules_merging.proofs.object_families.are_on_objects.Given as goal

-- the fields before this one stand so
abbrev pub invariant-loop-number : goal.invariant-loop-number
invariant-loop-number l = (a : ℕ) → a < l.number → StandsAt l.types (fields_of l.fields) l.families l.mixed a
