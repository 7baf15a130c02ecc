-- How deep a value is that a text stands for.
use Rattle.gql_print_laws.proofs.ReadDepths.{value_is_within}
use Rattle.gql_print_laws.proofs.schema_laws.read_values_nest_as_their_text.Goals as goal

pub returns : goal.returns
returns c = value_is_within
