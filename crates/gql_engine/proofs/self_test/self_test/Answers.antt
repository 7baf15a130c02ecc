use Rattle.std.proofs.Common.{ℕ, List, arith, subst}
use Rattle.jb_read.specs.Spelling.{JsonText}
use Rattle.gql_engine.specs.Request.{asked_in}
use Rattle.gql_engine.proofs.SelfTests.{measured}
use Rattle.gql_engine.proofs.self_test.self_test.Goals as goal

pub returns : goal.returns
returns g c =
    measured c.self_tests_ask_this.ensures c.self_tests_mean_this.ensures c.args.items _ _ (omega (arith, c.ranges.items)) (asked_in c.in-Ok-decode.request)
    (record {
      value = c.in-Ok.value;
      read = subst (λ (text : List ℕ). JsonText text c.in-Ok.value) c.in_ok-text.ensures c.in-Ok.ensures.spelled;
      asks = c.in-Ok-decode.ensures.is;
    })
    c.in-Ok-respond_to_request.written c.in-Ok-respond_to_request.ensures c.measured.result c.measured.ensures
