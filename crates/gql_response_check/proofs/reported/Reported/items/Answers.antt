use Rattle.std.proofs.Common.{rules, arith, ◌≡◌, true, false, Some}
use Rattle.jb_tree.specs.Value.{array_items}
use Rattle.gql_response_check.specs.bridge.Views.{value_in}
use Rattle.gql_response_check.proofs.Leaves.{items-kept, length-other, length-same}
use Rattle.gql_response_check.proofs.reported.Reported.items.Goals as goal

pub returns-then-len-count : goal.returns-then-len-count
returns-then-len-count c =
    let u = c.in_ok-self.field-0.now in
    let items = c.in_ok-items.items.now in
    let is : value_in c.args.self.now ≡ Some u = search rules in
    let array : array_items u ≡ Some items = search rules in
    let sized = length-same c.args.count items (omega (arith, c.if-len-count.true, c.len.ensures)) in
    items-kept c.args.count (value_in c.args.self.now) u items true is array sized

pub returns-else-len-count : goal.returns-else-len-count
returns-else-len-count c =
    let u = c.in_ok-self.field-0.now in
    let items = c.in_ok-items.items.now in
    let is : value_in c.args.self.now ≡ Some u = search rules in
    let array : array_items u ≡ Some items = search rules in
    let sized = length-other c.args.count items (λ same. omega (arith, c.if-len-count.false, c.len.ensures, same)) in
    items-kept c.args.count (value_in c.args.self.now) u items false is array sized
