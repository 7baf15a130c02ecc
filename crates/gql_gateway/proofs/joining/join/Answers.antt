use Rattle.std.proofs.Common.{◌≡◌, Some, List, Option, Result, sym, ap₂, ◌∙◌, subst}
use Rattle.gql_ast_base.specs.Names.{Named}
use Rattle.gql_resolvers.specs.Execute.{Member}
use Rattle.gql_response.specs.declared.execution_response.ExecutionResponse.{ExecutionResponse}
use Rattle.gql_response.specs.declared.graphql_error.GraphQLError.{GraphQLError}
use Rattle.gql_gateway.specs.Joined.{Gives, joined_roots}
use Rattle.gql_gateway.proofs.joining.join.Goals as goal

pub returns-in_ok-there-in-Some-Some : goal.returns-in_ok-there-in-Some-Some
returns-in_ok-there-in-Some-Some c =
    let keys = c.args.keys in
    let members = c.in-Some-Some.members in
    let others = c.in-Some-Some.others in
    let errors = c.parts_of-here.result.errors in
    let other_errors = c.parts_of-there.result.errors in
    let root : c.args.here.root ≡ Some members = cc in
    let other_root : c.args.there.root ≡ Some others = cc in
    subst (λ (wanted : Result ExecutionResponse Named). Gives wanted c.with_data.result)
    (ap₂ (λ (a b : Option (List Member)). joined_roots keys errors other_errors a b) (sym root) (sym other_root)
    ∙ ap₂ (λ (es fs : List GraphQLError). joined_roots keys es fs c.args.here.root c.args.there.root) c.parts_of-here.ensures.errors c.parts_of-there.ensures.errors)
    (c.with_data.ensures members others errors other_errors c.in_ok-here-in-Some-Some.ensures c.in_ok-there-in-Some-Some.ensures)
