-- Directives of two schemas.
use Rattle.gql_ast.specs.declared.schema_definition.DirectiveLocation.TheVariants as at
use Rattle.gql_client_schema_laws.proofs.PartRules.{directives_alike}
use Rattle.gql_client_schema_laws.proofs.Uses.{unused}
use Rattle.gql_client_schema_laws.proofs.alike_laws.directives_stay_right.Goals as goal

pub returns : goal.returns
returns c =
    record {
      definitions = directives_alike;
      uses = λ schema again retold standard. unused again.types standard.string again.directive_definitions at.Schema again.schema_definition.directives retold.uses;
    }
