-- Arguments, and fields of input objects.
use Rattle.std.proofs.Common.{refl}
use Rattle.gql_print_laws.specs.Forms.{input_form}
use Rattle.gql_print_laws.proofs.Blind.{input-blind}
use Rattle.gql_print_laws.proofs.Inputs.{printed_input}
use Rattle.gql_print_laws.proofs.FormsReadBack.{read_back}
use Rattle.gql_print_laws.proofs.schema_laws.printed_inputs_are_read_back.Goals as goal

pub returns : goal.returns
returns c =
    let law = c.texts_have_one_tree.ensures in
    λ file it h. read_back law.tree law.ends input_form refl refl file (λ text. input-blind text file) it (printed_input it h)
