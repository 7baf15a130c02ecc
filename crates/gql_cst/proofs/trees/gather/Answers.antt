use Rattle.std.proofs.Common.{◌≡◌, take, drop, ◌∙◌, ap, arith}
use Rattle.gql_cst.proofs.Rowed.{gathered-items}
use Rattle.gql_cst.proofs.trees.gather.Goals as goal

pub returns : goal.returns
returns c = λ le.
    let old = c.args.trees.now.items in
    let is : c.min.result ≡ c.args.start = omega (arith, c.min.ensures, c.len.ensures, c.args.trees.now.ok.0, le) in
    gathered-items c.args.kind c.args.start old c.split_off.new.self.items c.push.new.self.items c.in_ok-children.children.items c.node.result
    c.in_ok-push.ensures.items (c.in_ok-children.ensures.items ∙ ap (λ n. take n old) is) (c.in_ok-children.ensures.tail ∙ ap (λ n. drop n old) is) c.node.ensures
