use Rattle.std.proofs.Common.{arith, ◌≡◌, ◌<◌, length, take, get_or, sym, ap, ◌∙◌}
use Rattle.gql_collect.specs.bridge.Grouping.{added}
use Rattle.gql_collect.specs.Groups.{groups_of}
use Rattle.gql_collect.specs.Walk.{fields_of}
use Rattle.gql_collect.proofs.GroupFacts.{groups-more, fields-more}
use Rattle.gql_collect.proofs.grouping.in_groups.Goals as goal

pub loop-field-preserved : goal.loop-field-preserved
loop-field-preserved c =
    let xs = c.args.fields.now in
    let i = c.loop-field.field-index in
    let x = c.field-item.result in
    let within : i < length xs = omega (arith, c.loop-field-test.true, ap length c.as_slice-field-items.ensures) in
    let is : x ≡ get_or xs i x = cc in
    record {
      groups = c.in_ok-put.ensures.groups ∙ ap (λ groups. added groups x.now) c.loop-field.invariant.groups ∙ groups-more (fields_of (take i xs)) x.now
          ∙ ap groups_of (sym (fields-more xs i x within is));
      keys = c.in_ok-put.ensures.keys;
    }
