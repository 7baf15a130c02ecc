-- Definitions of directives.
use Rattle.gql_sdl.specs.Definitions.{directive_text}
use Rattle.gql_print_laws.specs.Told.{directive_told}
use Rattle.gql_print_laws.proofs.DirectiveDefinitions.{printed_directive}
use Rattle.gql_print_laws.proofs.FormsReadBack.{read_definition}
use Rattle.gql_print_laws.proofs.schema_laws.printed_directive_definitions_are_read_back.Goals as goal

pub returns : goal.returns
returns c =
    let law = c.texts_have_one_tree.ensures in
    λ file it h. read_definition law.tree law.ends directive_text directive_told file it (printed_directive it h)
