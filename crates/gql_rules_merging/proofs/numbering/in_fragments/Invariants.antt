use Rattle.std.proofs.Common.{◌≡◌, drop}
use Rattle.gql_rules_merging.specs.bridge.Gathering.{sets_of, no_sets, fragment_sets}
use Rattle.gql_rules_merging.specs.Numbering.{with_sets}
use Rattle.gql_rules_merging.proofs.numbering.in_fragments.Given as goal

-- what is added and what is left make the whole
abbrev pub invariant-loop-fragment : goal.invariant-loop-fragment
invariant-loop-fragment l =
    with_sets l.fragments (fragment_sets (drop l.fragment-index l.fragments)) (sets_of l.sets l.fields) ≡ with_sets l.fragments (fragment_sets l.fragments) (no_sets l.fn.fields)
