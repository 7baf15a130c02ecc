use Rattle.std.proofs.Common.{◌*◌, suc, sym, ap, ◌∙◌, subst}
use Rattle.gql_cost.specs.Size.{size}
use Rattle.gql_cost.specs.bridge.Walked.{IsCapped}
use Rattle.gql_cost.proofs.Caps.{capped-items}
use Rattle.gql_cost.proofs.Sized.{size-is}
use Rattle.gql_cost.proofs.walk.CostWalk.+size.Goals as goal

pub returns-in-List-clause-is : goal.returns-in-List-clause-is
returns-in-List-clause-is t c = λ sum below.
    let most = suc c.args.self.now.limit in
    let items = c.args.self.now.items in
    let one = c.size-one.ensures.is sum below in
    subst (λ n. IsCapped most n c.items_of.result)
    (ap (λ ty. suc (items * size items ty sum)) c.get.ensures ∙ sym (size-is items sum c.args.ty.now c.in-List.item c.in-List.is))
    (capped-items most items (size items c.get.result.now sum) c.size-one.result c.items_of.result one c.items_of.ensures)
