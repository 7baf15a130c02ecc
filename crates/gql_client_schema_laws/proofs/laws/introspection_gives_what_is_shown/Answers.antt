-- What is given by introspection.
use Rattle.gql_client_schema_laws.proofs.Given.{schema_given, type_given, possible_given, members_given, field_given, input_given, value_given, directive_given}
use Rattle.gql_client_schema_laws.proofs.laws.introspection_gives_what_is_shown.Goals as goal

pub returns : goal.returns
returns c =
    record {
      schema = schema_given;
      types = type_given;
      interfaces = possible_given;
      unions = members_given;
      fields = field_given;
      inputs = input_given;
      values = value_given;
      directives = directive_given;
    }
