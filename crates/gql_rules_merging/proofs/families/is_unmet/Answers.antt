use Rattle.std.proofs.Common.{length, sym, ap, ◌∙◌}
use Rattle.std.proofs.lemmas.Bool.{eqb-true}
use Rattle.gql_rules_merging.proofs.Agreement.{none_met}
use Rattle.gql_rules_merging.specs.bridge.Gathering.{fields_of, numbered_of}
use Rattle.gql_rules_merging.proofs.families.is_unmet.Goals as goal

pub returns : goal.returns
returns c unmet =
    none_met c.args.types.now (numbered_of c.args.numbered.now) (fields_of c.as_slice.result.now) c.args.keys.now c.args.families.now c.args.rows.now c.in_ok-seen.seen c.as_slice-2.result.now
    (ap fields_of c.as_slice.ensures) c.as_slice-2.ensures.pairs (eqb-true (length c.as_slice-2.result.now) 0 (sym c.is_empty.ensures ∙ unmet)) c.in_ok-seen.ensures
