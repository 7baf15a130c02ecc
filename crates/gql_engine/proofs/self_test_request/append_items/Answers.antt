use Rattle.std.proofs.Common.{◌+◌, add-one, arith, string_bytes}
use Rattle.gql_engine.proofs.Items.{one_more}
use Rattle.gql_engine.proofs.self_test_request.append_items.Goals as goal

pub loop-number-preserved : goal.loop-number-preserved
loop-number-preserved c = (
  omega (arith, c.loop-number-test.true),
  one_more c.loop-number.number (c.loop-number.number + 1) (add-one c.loop-number.number) (string_bytes c.args.out.now) (string_bytes c.loop-number.out) (string_bytes c.append_comma.new.out) (string_bytes c.append_item.new.out)
      c.loop-number.invariant.1 c.in_ok-append_comma.ensures c.in_ok-append_item.ensures,
)
