use Rattle.std.proofs.Common.{rules, arith, ◌≡◌, ◌+◌, ◌*◌, ◌<◌, length, position, Some, sym, ap, ◌∙◌}
use Rattle.std.proofs.lemmas.Result.{on_ok_weaker}
use Rattle.gql_document_types.specs.RootFields.{fragment_name}
use Rattle.gql_schema_types.specs.Entries.{is_called}
use Rattle.gql_schema_types.proofs.Lookups.{place_within}
use Rattle.gql_document_types.specs.Count.{count}
use Rattle.gql_document_types.specs.bridge.Counted.{count_at, one_count, spread_count}
use Rattle.gql_document_types.specs.Expanded.{expanded}
use Rattle.gql_document_types.proofs.Counts.{count-defined, item-less}
use Rattle.gql_document_types.proofs.ExpandCalls.{added-defined, added-undefined}
use Rattle.gql_document_types.proofs.expansion.Expansion.+expanding.Goals as goal

pub all-add-requires : goal.all-add-requires
all-add-requires t c =
    let all = c.args.self.now.fragments.now in
    let whole = c.args.selections.now in
    let smaller : 6 * one_count all c.selection-item.result + 2 < 6 * count (expanded all whole) + 3 =
    omega (arith, item-less all whole c.as_slice-selection-items.result.now c.loop-selection.selection-index c.selection-item.result c.as_slice-selection-items.ensures c.loop-selection-test.true c.selection-item.is) in
    search rules

pub add_spread-in_place-requires : goal.add_spread-in_place-requires
add_spread-in_place-requires t c =
    let all = c.args.self.now.fragments.now in
    let spread = c.args.spread.now in
    let f = c.in-Some.number in
    let is : position (is_called fragment_name spread.fragment_name.text) all ≡ Some f = sym (ap (λ n. position (is_called fragment_name n) all) c.as_str.ensures.text) ∙ sym c.find.ensures ∙ c.in-Some.is in
    let within : f < length all = place_within (is_called fragment_name spread.fragment_name.text) all f is in
    let smaller : 6 * (1 + count_at all f) < 6 * spread_count all spread + 1 = omega (arith, count-defined all spread f is within) in
    search rules

pub add_spread-returns-in_ok-in_place-in-Some : goal.add_spread-returns-in_ok-in_place-in-Some
add_spread-returns-in_ok-in_place-in-Some t c =
    let all = c.args.self.now.fragments.now in
    let spread = c.args.spread.now in
    let f = c.in-Some.number in
    let is : position (is_called fragment_name spread.fragment_name.text) all ≡ Some f = sym (ap (λ n. position (is_called fragment_name n) all) c.as_str.ensures.text) ∙ sym c.find.ensures ∙ c.in-Some.is in
    let within : f < length all = place_within (is_called fragment_name spread.fragment_name.text) all f is in
    on_ok_weaker c.push.result (added-defined all spread f c.in_ok-in_place-in-Some.field-0 c.args.made.now c.push.new.self is within c.in_ok-in_place-in-Some.ensures) c.push.ensures.pushed

pub add_spread-returns-in-None : goal.add_spread-returns-in-None
add_spread-returns-in-None t c =
    let all = c.args.self.now.fragments.now in
    let spread = c.args.spread.now in
    added-undefined all spread c.args.made.now (sym (ap (λ n. position (is_called fragment_name n) all) c.as_str.ensures.text) ∙ sym c.find.ensures ∙ c.in-None.is)
