use Rattle.std.proofs.Common.{rules, arith, ◌≡◌, ◌+◌, ◌*◌, ◌<◌, length, position, Some, sym, ap, ◌∙◌}
use Rattle.gql_document_types.specs.RootFields.{fragment_name}
use Rattle.gql_schema_types.specs.Entries.{is_called}
use Rattle.gql_schema_types.proofs.Lookups.{place_within}
use Rattle.gql_document_types.specs.bridge.Counted.{count_at, spread_count}
use Rattle.gql_document_types.proofs.CountCalls.{counted-as, none-counted}
use Rattle.gql_document_types.proofs.Counts.{count-defined, count-undefined}
use Rattle.gql_document_types.proofs.counting.Counter.+counting.Goals as goal

pub spread-fragment-requires : goal.spread-fragment-requires
spread-fragment-requires t c =
    let all = c.args.self.now.fragments.now in
    let spread = c.args.spread.now in
    let f = c.in-Some.number in
    let is : position (is_called fragment_name spread.fragment_name.text) all ≡ Some f = sym (ap (λ n. position (is_called fragment_name n) all) c.as_str.ensures.text) ∙ sym c.find.ensures ∙ c.in-Some.is in
    let within : f < length all = place_within (is_called fragment_name spread.fragment_name.text) all f is in
    let smaller : 4 * (1 + count_at all f) < 4 * spread_count all spread + 1 = omega (arith, count-defined all spread f is within) in
    search rules

pub spread-returns-in_err-inside-in-Some-clause-counted : goal.spread-returns-in_err-inside-in-Some-clause-counted
spread-returns-in_err-inside-in-Some-clause-counted t c =
    let all = c.args.self.now.fragments.now in
    let spread = c.args.spread.now in
    let f = c.in-Some.number in
    let is : position (is_called fragment_name spread.fragment_name.text) all ≡ Some f = sym (ap (λ n. position (is_called fragment_name n) all) c.as_str.ensures.text) ∙ sym c.find.ensures ∙ c.in-Some.is in
    let within : f < length all = place_within (is_called fragment_name spread.fragment_name.text) all f is in
    none-counted c.args.self.now.limit (spread_count all spread) c.from_residual.result c.from_residual.ensures
    (omega (arith, count-defined all spread f is within, c.in_err-inside-in-Some.ensures.counted))

pub spread-returns-in_ok-inside-in-Some-clause-counted : goal.spread-returns-in_ok-inside-in-Some-clause-counted
spread-returns-in_ok-inside-in-Some-clause-counted t c =
    let all = c.args.self.now.fragments.now in
    let spread = c.args.spread.now in
    let f = c.in-Some.number in
    let is : position (is_called fragment_name spread.fragment_name.text) all ≡ Some f = sym (ap (λ n. position (is_called fragment_name n) all) c.as_str.ensures.text) ∙ sym c.find.ensures ∙ c.in-Some.is in
    let within : f < length all = place_within (is_called fragment_name spread.fragment_name.text) all f is in
    counted-as c.args.self.now.limit (1 + c.in_ok-inside-in-Some.inside) (spread_count all spread) c.sum.result
    (omega (arith, count-defined all spread f is within, c.in_ok-inside-in-Some.ensures.counted.0)) c.sum.ensures

pub spread-returns-in-None-clause-counted : goal.spread-returns-in-None-clause-counted
spread-returns-in-None-clause-counted t c =
    let all = c.args.self.now.fragments.now in
    let spread = c.args.spread.now in
    let none : spread_count all spread ≡ 0 =
    count-undefined all spread (sym (ap (λ n. position (is_called fragment_name n) all) c.as_str.ensures.text) ∙ sym c.find.ensures ∙ c.in-None.is) in
    (sym none, omega (arith, none))
