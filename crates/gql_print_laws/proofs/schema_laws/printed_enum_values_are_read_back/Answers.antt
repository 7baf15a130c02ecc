-- Values of enum types.
use Rattle.std.proofs.Common.{refl}
use Rattle.gql_print_laws.specs.Forms.{enum_value_form}
use Rattle.gql_print_laws.proofs.Blind.{enum_value-blind}
use Rattle.gql_print_laws.proofs.EnumValues.{printed_enum_value}
use Rattle.gql_print_laws.proofs.FormsReadBack.{read_back}
use Rattle.gql_print_laws.proofs.schema_laws.printed_enum_values_are_read_back.Goals as goal

pub returns : goal.returns
returns c =
    let law = c.texts_have_one_tree.ensures in
    λ file it h. read_back law.tree law.ends enum_value_form refl refl file (λ text. enum_value-blind text file) it (printed_enum_value it h)
