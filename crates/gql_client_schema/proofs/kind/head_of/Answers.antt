use Rattle.std.proofs.Common.{codes}
use Rattle.gql_client_schema.specs.Members.{required}
use Rattle.gql_client_schema.specs.References.{head_by, read_kind}
use Rattle.gql_client_schema.proofs.Readings.{goes}
use Rattle.gql_client_schema.proofs.kind.head_of.Goals as goal

pub returns-in-Ok : goal.returns-in-Ok
returns-in-Ok c =
    let ms = c.args.members.now in
    goes (λ kind. head_by kind ms) (required read_kind (codes "kind") ms) c.in-Ok.kind c.head_by.result c.in-Ok.ensures c.head_by.ensures
