use Rattle.std.proofs.Common.{◌≡◌, ℕ, ◌<◌, true}
use Rattle.gql_rules_merging.specs.bridge.Families.{is_shaped_at}
use Rattle.gql_rules_merging.specs.bridge.Gathering.{fields_of}
use Rattle.gql_rules_merging.proofs.object_families.all_shaped.Given as goal

-- the fields before this one have the shapes of their families
abbrev pub invariant-loop-number : goal.invariant-loop-number
invariant-loop-number l = (a : ℕ) → a < l.number → is_shaped_at l.types (fields_of l.fields) l.families a ≡ true
