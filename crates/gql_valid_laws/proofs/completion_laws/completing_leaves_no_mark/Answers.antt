use Rattle.gql_valid_laws.proofs.Spots.{no-mark}
use Rattle.gql_valid_laws.proofs.completion_laws.completing_leaves_no_mark.Goals as goal

pub returns : goal.returns
returns g c = λ text r means root initial selections. no-mark r (c.all_fields_name_output_types.ensures text r.schema means) root initial selections
