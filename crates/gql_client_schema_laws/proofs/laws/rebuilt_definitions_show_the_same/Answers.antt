-- What is built of definitions that say what is shown.
use Rattle.gql_client_schema_laws.proofs.Rebuilt.{no_fault, shows_again}
use Rattle.gql_client_schema_laws.proofs.laws.rebuilt_definitions_show_the_same.Goals as goal

pub returns : goal.returns
returns c =
    record {
      faults = λ sources built_in first user shown names own right shows says. no_fault sources built_in first own names right shown shows user says;
      shows = λ sources files built_in first user shown names own right shows says. shows_again sources built_in first own names right shown shows user says files;
    }
