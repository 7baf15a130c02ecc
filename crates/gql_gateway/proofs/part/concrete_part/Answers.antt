use Rattle.std.proofs.Common.{rules, ◌≡◌, ℕ, true, false, List, [], refl, sym, ap, ◌∙◌}
use Rattle.gql_gateway.specs.Concrete.{concrete}
use Rattle.gql_gateway.proofs.Parting.{concrete-is}
use Rattle.gql_gateway.proofs.part.concrete_part.Goals as goal

pub returns-then-is_empty : goal.returns-then-is_empty
returns-then-is_empty c =
    let is = concrete-is c.in_ok-selections.selections c.args.operation.now.selection_set.selections c.in_ok-selections.ensures in
    sym is ∙ c.if-is_empty.ensures.0 refl

pub returns : goal.returns
returns c =
    let is = concrete-is c.in_ok-selections.selections c.args.operation.now.selection_set.selections c.in_ok-selections.ensures in
    (search rules, λ none. let e : false ≡ true = c.if-is_empty.ensures.1 (is ∙ none) in cc)
