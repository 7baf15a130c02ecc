use Rattle.std.proofs.Common.{ap, sym, ◌∙◌}
use Rattle.std.specs.Option.{option_copied}
use Rattle.gql_checker_laws.specs.Reported.{is_leaf}
use Rattle.gql_checker_laws.proofs.Leaf.{leaf-is}
use Rattle.gql_response_check.proofs.reported.Reported.is_leaf.Goals as goal

pub returns-in-Some : goal.returns-in-Some
returns-in-Some c =
    leaf-is c.is_identical.result c.args.leaf.now c.in-Some.value.now c.is_identical.ensures ∙ sym (ap (λ o. is_leaf c.args.leaf.now (option_copied o)) c.in-Some.is)
