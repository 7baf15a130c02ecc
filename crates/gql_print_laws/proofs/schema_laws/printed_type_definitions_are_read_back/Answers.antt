-- Definitions of types.
use Rattle.gql_sdl.specs.Definitions.{type_definition_text}
use Rattle.gql_print_laws.specs.Told.{named_type_told}
use Rattle.gql_print_laws.proofs.TypeDefinitions.{printed_named_type}
use Rattle.gql_print_laws.proofs.FormsReadBack.{read_definition}
use Rattle.gql_print_laws.proofs.schema_laws.printed_type_definitions_are_read_back.Goals as goal

pub returns : goal.returns
returns c =
    let law = c.texts_have_one_tree.ensures in
    λ file it h. read_definition law.tree law.ends type_definition_text named_type_told file it (printed_named_type it h)
