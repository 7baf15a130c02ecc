use Rattle.std.proofs.Common.{rules, ◌≡◌, Some}
use Rattle.gql_schema_types.specs.Schemas.{object_of}
use Rattle.gql_response_check.proofs.Verdicts.{verdict-over}
use Rattle.gql_response_check.proofs.check.Request.check_alone.Goals as goal

pub returns : goal.returns
returns g c =
    let self = c.args.self.now in
    let found : object_of self.schema.now self.operation.now.selection_set.ty.text ≡ Some c.in-Some.object_type.now = search rules in
    verdict-over self.schema.now self.document.now self.operation.now self.variables.now self.introspection g.O.ObjectValue.type_of g.O.ObjectValue.resolves
    (g.O.ObjectValue.seen c.args.root.now) c.args.response.now c.in-Some.object_type.now c.check_on.result found c.check_on.ensures
