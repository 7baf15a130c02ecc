use Rattle.std.proofs.Common.{rules, ◌≡◌, Some}
use Rattle.gql_schema_types.specs.Schemas.{object_of}
use Rattle.gql_resolvers.specs.Fit.{wrong, bug, object_misfit}
use Rattle.gql_resolvers.specs.Messages as message
use Rattle.gql_ast_base.specs.TypeParts.{named_type}
use Rattle.gql_resolvers.proofs.Refusing.{refused}
use Rattle.gql_resolvers.proofs.fitting.fitting_object.Goals as goal

pub returns-then-is_some : goal.returns-then-is_some
returns-then-is_some c =
    let ty = c.args.ty.now in
    let found = c.args.found.now in
    let is : object_misfit c.args.schema.now ty found ≡ Some (wrong (message.other_at_list ty)) = search rules in
    refused (object_of c.args.schema.now found) (object_misfit c.args.schema.now ty found) (wrong (message.other_at_list ty)) c.refuse.result is
    (c.refuse.ensures (message.other_at_list ty) c.other_at_list.ensures)

pub returns-in-None : goal.returns-in-None
returns-in-None c =
    let ty = c.args.ty.now in
    let found = c.args.found.now in
    let T = (named_type ty).text in
    let is : object_misfit c.args.schema.now ty found ≡ Some (bug (message.undefined_type T)) = search rules in
    refused (object_of c.args.schema.now found) (object_misfit c.args.schema.now ty found) (bug (message.undefined_type T)) c.suspect.result is
    (c.suspect.ensures (message.undefined_type T) (search rules))
