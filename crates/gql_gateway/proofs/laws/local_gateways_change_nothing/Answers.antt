use Rattle.gql_gateway.proofs.Local.{LocalLaws, joined-same, none-lacks}
use Rattle.gql_gateway.proofs.laws.local_gateways_change_nothing.Goals as goal

pub returns-clause-whole : goal.returns-clause-whole
returns-clause-whole g c = λ never root wanted on bytes other joined answered has.
    let laws : LocalLaws =
    record {
      texts = record {
        acyclic = c.valid_documents_run.ensures.acyclic;
        unreserved = c.fields_have_output_types.ensures.unreserved;
        one_name = c.root_fields_have_one_name.ensures.written;
      };
      ranked = c.valid_documents_run.ensures.ranked;
      contents = c.acyclic_fragments_have_contents.ensures;
      spreadless = c.expansions_have_no_spread.ensures;
      schema = c.readiness_is_one.ensures.schema;
      document = c.readiness_is_one.ensures.document;
      operation = c.readiness_is_one.ensures.operation;
      variables = c.readiness_is_one.ensures.variables;
    } in
    joined-same laws g.O.ObjectValue.type_of g.O.ObjectValue.resolves root never wanted on bytes other joined answered has

pub returns-clause-missing : goal.returns-clause-missing
returns-clause-missing g c = λ never root wanted key lacks.
    let laws : LocalLaws =
    record {
      texts = record {
        acyclic = c.valid_documents_run.ensures.acyclic;
        unreserved = c.fields_have_output_types.ensures.unreserved;
        one_name = c.root_fields_have_one_name.ensures.written;
      };
      ranked = c.valid_documents_run.ensures.ranked;
      contents = c.acyclic_fragments_have_contents.ensures;
      spreadless = c.expansions_have_no_spread.ensures;
      schema = c.readiness_is_one.ensures.schema;
      document = c.readiness_is_one.ensures.document;
      operation = c.readiness_is_one.ensures.operation;
      variables = c.readiness_is_one.ensures.variables;
    } in
    none-lacks laws g.O.ObjectValue.type_of g.O.ObjectValue.resolves root never wanted key lacks
