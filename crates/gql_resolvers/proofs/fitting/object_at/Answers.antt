use Rattle.std.proofs.Common.{rules, ◌≡◌, Some}
use Rattle.gql_schema_types.specs.Schemas.{object_of}
use Rattle.gql_resolvers.specs.Fit.{wrong, bug, object_at}
use Rattle.gql_resolvers.specs.Messages as message
use Rattle.gql_resolvers.proofs.Refusing.{refused}
use Rattle.gql_resolvers.proofs.fitting.object_at.Goals as goal

pub returns-in-Object-2 : goal.returns-in-Object-2
returns-in-Object-2 c at =
    let T = c.args.name.now in
    let found = c.args.found.now in
    let is : object_at c.args.schema.now (Some c.args.wanted.now) T found ≡ Some (wrong (message.other_object found T)) = search rules in
    refused (object_of c.args.schema.now found) (object_at c.args.schema.now (Some c.args.wanted.now) T found) (wrong (message.other_object found T)) c.refuse.result is
    (c.refuse.ensures (message.other_object found T) c.other_object.ensures)

pub returns-in-InputObject : goal.returns-in-InputObject
returns-in-InputObject c at =
    let T = c.args.name.now in
    let found = c.args.found.now in
    let is : object_at c.args.schema.now (Some c.args.wanted.now) T found ≡ Some (bug (message.input_object_type T)) = search rules in
    refused (object_of c.args.schema.now found) (object_at c.args.schema.now (Some c.args.wanted.now) T found) (bug (message.input_object_type T)) c.suspect.result is
    (c.suspect.ensures (message.input_object_type T) c.input_object_type.ensures)

pub returns-in_default : goal.returns-in_default
returns-in_default c at =
    let T = c.args.name.now in
    let found = c.args.found.now in
    let is : object_at c.args.schema.now (Some c.args.wanted.now) T found ≡ Some (wrong (message.object_at_leaf found T)) = search rules in
    refused (object_of c.args.schema.now found) (object_at c.args.schema.now (Some c.args.wanted.now) T found) (wrong (message.object_at_leaf found T)) c.refuse-in_default.result is
    (c.refuse-in_default.ensures (message.object_at_leaf found T) c.object_at_leaf.ensures)
