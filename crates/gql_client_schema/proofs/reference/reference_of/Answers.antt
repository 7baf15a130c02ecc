use Rattle.std.proofs.Common.{Option, Some, None, Err, refl}
use Rattle.gql_ast_base.specs.declared.type_ref.TypeRef.{TypeRef}
use Rattle.gql_client_schema.specs.Members.{right}
use Rattle.gql_client_schema.specs.References.{linked}
use Rattle.gql_client_schema.proofs.Readings.{goes, stops, then_gives, whole_breaks}
use Rattle.gql_client_schema.proofs.reference.reference_of.Goals as goal

pub returns-in-Ok-Some : goal.returns-in-Ok-Some
returns-in-Ok-Some c =
    then_gives (λ (o : Option TypeRef). right o) (linked 8 c.args.members.now) (Some c.in-Ok-Some.ty) c.in-Ok-Some.ty
    (rw c.in-Ok-Some.field-0-is at c.in-Ok-Some.ensures) refl

pub returns-in-Ok-None : goal.returns-in-Ok-None
returns-in-Ok-None c =
    goes (λ (o : Option TypeRef). right o) (linked 8 c.args.members.now) None (Err c.misfit.result)
    (rw c.in-Ok-None.field-0-is at c.in-Ok-None.ensures) (whole_breaks TypeRef c.misfit.result c.misfit.ensures)

pub returns-in-Err : goal.returns-in-Err
returns-in-Err c = stops (λ (o : Option TypeRef). right o) (linked 8 c.args.members.now) c.in-Err.unread c.in-Err.ensures
