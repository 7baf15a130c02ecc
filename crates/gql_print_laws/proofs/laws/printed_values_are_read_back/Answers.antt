-- What is written of a value is read back, and as nothing else.
use Rattle.std.proofs.Common.{◌∙◌, ap}
use Rattle.gql_ast.specs.ValueText.{value_text}
use Rattle.gql_print_laws.specs.Literal.{literal_of}
use Rattle.gql_print_laws.proofs.ReadBack.{texts_read_back}
use Rattle.gql_print_laws.proofs.laws.printed_values_are_read_back.Goals as goal

pub returns : goal.returns
returns c =
    record {
      reads = λ file value h. texts_read_back value.kind file h;
      alone = λ file value read h is.
          let r = texts_read_back value.kind file h in
          ap literal_of (c.texts_have_one_value.ensures (value_text value) file read r.read is r.is) ∙ r.same;
    }
