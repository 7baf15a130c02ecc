-- Fields.
use Rattle.std.proofs.Common.{refl}
use Rattle.gql_print_laws.specs.Forms.{field_form}
use Rattle.gql_print_laws.proofs.Blind.{field-blind}
use Rattle.gql_print_laws.proofs.Fields.{printed_field}
use Rattle.gql_print_laws.proofs.FormsReadBack.{read_back}
use Rattle.gql_print_laws.proofs.schema_laws.printed_fields_are_read_back.Goals as goal

pub returns : goal.returns
returns c =
    let law = c.texts_have_one_tree.ensures in
    λ file it h. read_back law.tree law.ends field_form refl refl file (λ text. field-blind text file) it (printed_field it h)
