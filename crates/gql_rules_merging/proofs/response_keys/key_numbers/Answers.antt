use Rattle.std.proofs.Common.{sym, ap, ◌∙◌, arith}
use Rattle.gql_rules_merging.proofs.Keyed.{all_noted}
use Rattle.gql_rules_merging.proofs.SmallFacts.{dropped_all}
use Rattle.gql_rules_merging.specs.bridge.Gathering.{fields_of}
use Rattle.gql_rules_merging.specs.bridge.Keying.{Noted, noted, with_fields}
use Rattle.gql_rules_merging.proofs.response_keys.key_numbers.Goals as goal

pub returns : goal.returns
returns c =
    let so_far = noted c.loop-field.firsts c.loop-field.keys.items in
    ap (λ (n : Noted). n.keys) (ap (λ l. with_fields (fields_of l) so_far) (sym (dropped_all c.args.fields.now c.loop-field.field-index (omega arith))) ∙ c.loop-field.invariant)
    ∙ all_noted (fields_of c.args.fields.now)
