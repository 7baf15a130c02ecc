-- Cycles in two schemas.
use Rattle.gql_client_schema_laws.proofs.Cycles.{recursive_interfaces_alike, recursive_inputs_alike}
use Rattle.gql_client_schema_laws.proofs.DirectiveGraph.{recursive_directives_alike}
use Rattle.gql_client_schema_laws.proofs.alike_laws.nothing_comes_to_lead_back.Goals as goal

pub returns : goal.returns
returns c =
    record {
      interfaces = λ schema again told told_again retold. recursive_interfaces_alike schema.types again.types retold.types told told_again;
      input_objects = λ schema again told told_again retold. recursive_inputs_alike schema.types again.types retold.types told told_again;
      directives = λ schema again told retold standard. recursive_directives_alike schema again retold standard told;
    }
