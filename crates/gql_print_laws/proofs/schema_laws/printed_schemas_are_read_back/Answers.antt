-- Whole schemas.
use Rattle.std.proofs.Common.{map, ap, ◌∙◌}
use Rattle.gql_sdl.specs.Schemas.{schema_text}
use Rattle.gql_print_laws.specs.Meant.{says}
use Rattle.gql_print_laws.proofs.Schemas.{printed_schema}
use Rattle.gql_print_laws.proofs.schema_laws.printed_schemas_are_read_back.Goals as goal

pub returns : goal.returns
returns c =
    let law = c.texts_have_one_document.ensures in
    record {
      reads = λ file it h. printed_schema it h file;
      alone = λ file it meant h is.
          let s = printed_schema it h file in
          ap (λ ds. map says ds) (law.document (schema_text it) file meant s.definitions is s.document) ∙ s.same;
    }
