-- Validity of two schemas.
use Rattle.gql_client_schema_laws.proofs.ValidAgain.{RetoldLaws, valid_again}
use Rattle.gql_client_schema_laws.proofs.laws.shown_schemas_stay_valid.Goals as goal

pub returns : goal.returns
returns c =
    let laws : RetoldLaws =
    record {
      reads = c.printed_values_are_read_back.ensures.reads;
      alone = c.printed_values_are_read_back.ensures.alone;
      types = c.types_stay_right.ensures;
      definitions = c.directives_stay_right.ensures.definitions;
      uses = c.directives_stay_right.ensures.uses;
      implemented = c.interfaces_stay_implemented.ensures;
      interfaces = c.nothing_comes_to_lead_back.ensures.interfaces;
      input_objects = c.nothing_comes_to_lead_back.ensures.input_objects;
      directives = c.nothing_comes_to_lead_back.ensures.directives;
    }
    in
    valid_again laws
