use Rattle.std.proofs.Common.{sym, ◌∙◌}
use Rattle.gql_response.proofs.Equality.{response_decides}
use Rattle.gql_diag.proofs.response_laws.response_equality_is_sameness.Goals as goal

pub returns : goal.returns
returns c =
    let decided = response_decides c.args.response.now c.args.other.now in
    (λ t. decided.0 (sym c.eq.ensures ∙ t), λ s. c.eq.ensures ∙ decided.1 s)
