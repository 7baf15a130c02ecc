use Rattle.std.proofs.Common.{rules, arith, ◌≡◌, ◌<◌, ◌+◌, true, false, length, drop, Some, slice_get, ap, sym, ◌∙◌}
use Rattle.std.specs.Prelude.{◌&&◌}
use Rattle.std.specs.Map.{keys_of}
use Rattle.gql_collect.specs.Plan.{groups_in}
use Rattle.gql_checker_laws.specs.Reported.{have_keys}
use Rattle.gql_checker_laws.proofs.Keys.{keys-more, keys-sized}
use Rattle.gql_response_check.proofs.reported.are_keys.Goals as goal

pub returns-then-len-count : goal.returns-then-len-count
returns-then-len-count c = keys-sized c.args.parts.now c.args.members.now (λ same. omega (arith, c.if-len-count.true, c.len.ensures.value, c.len-count.ensures, same))

pub returns-then-not-is_key : goal.returns-then-not-is_key
returns-then-not-is_key c =
    let parts = c.args.parts.now in
    let ms = c.args.members.now in
    let i = c.loop-number.number in
    let off : c.is_key.result ≡ false = search rules in
    let there : slice_get (keys_of ms) i ≡ Some c.as_str.result.now = search rules in
    let sized : length ms ≡ length parts = omega (arith, c.if-len-count.false, c.len.ensures.value, c.len-count.ensures) in
    let within : i < length parts = omega (arith, c.loop-number-test.true, c.len-count.ensures) in
    sym (ap (λ t. t && have_keys (drop (i + 1) (groups_in parts)) (drop (i + 1) ms)) off)
    ∙ sym (keys-more parts ms i c.as_str.result.now c.is_key.result sized within there c.is_key.ensures) ∙ c.loop-number.invariant

pub loop-number-preserved : goal.loop-number-preserved
loop-number-preserved c =
    let parts = c.args.parts.now in
    let ms = c.args.members.now in
    let i = c.loop-number.number in
    let on : c.is_key.result ≡ true = search rules in
    let there : slice_get (keys_of ms) i ≡ Some c.as_str.result.now = search rules in
    let sized : length ms ≡ length parts = omega (arith, c.if-len-count.false, c.len.ensures.value, c.len-count.ensures) in
    let within : i < length parts = omega (arith, c.loop-number-test.true, c.len-count.ensures) in
    sym (ap (λ t. t && have_keys (drop (i + 1) (groups_in parts)) (drop (i + 1) ms)) on)
    ∙ sym (keys-more parts ms i c.as_str.result.now c.is_key.result sized within there c.is_key.ensures) ∙ c.loop-number.invariant
