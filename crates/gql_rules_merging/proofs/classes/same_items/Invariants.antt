use Rattle.std.proofs.Common.{◌≡◌, drop}
use Rattle.gql_rules_merging.specs.bridge.Classes.{same_items}
use Rattle.gql_rules_merging.proofs.classes.same_items.Given as goal

-- the items so far are the same
abbrev pub invariant-loop-item : goal.invariant-loop-item
invariant-loop-item l = record {
  at : l.index ≡ l.item-index;
  rest : same_items l.base l.classes (drop l.item-index l.items) (drop l.item-index l.others) ≡ same_items l.base l.classes l.items l.others;
}
