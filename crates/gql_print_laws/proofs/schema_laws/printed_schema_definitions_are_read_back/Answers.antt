-- The definition of a schema.
use Rattle.gql_sdl.specs.Schemas.{roots_text}
use Rattle.gql_print_laws.specs.Told.{roots_told}
use Rattle.gql_print_laws.proofs.FormsReadBack.{read_definition}
use Rattle.gql_print_laws.proofs.SchemaDefinitions.{printed_schema_definition}
use Rattle.gql_print_laws.proofs.schema_laws.printed_schema_definitions_are_read_back.Goals as goal

pub returns : goal.returns
returns c =
    let law = c.texts_have_one_tree.ensures in
    λ file it h. read_definition law.tree law.ends roots_text roots_told file it (printed_schema_definition it h)
