use Rattle.std.proofs.Common.{subst}
use Rattle.gql_source.specs.declared.file_id.FileId.{FileId}
use Rattle.gql_schema_types.specs.declared.schema.Schema.{Schema}
use Rattle.gql_parser.specs.Parsers.{given}
use Rattle.gql_parser.specs.FieldSetsRead.{IsFieldSetAnswer}
use Rattle.gql_parser.proofs.Answering.{field_set_answer}
use Rattle.gql_parser.proofs.parser.Parser.parse_field_set.Goals as goal

pub returns-clause-answer : goal.returns-clause-answer
returns-clause-answer c =
    let parser = c.read_selections.new.self in
    let file = given c.next_file-file_id.result c.args.path.now c.args.source_text.now in
    let read = c.in_ok-selections in
    subst (λ (f : FileId). IsFieldSetAnswer parser (given f c.args.path.now c.args.source_text.now) c.args.schema.now c.args.type_name.now c.build_field_set.result) c.next_file-file_id.ensures.given
    (subst (λ (s : Schema). IsFieldSetAnswer parser file s c.args.type_name.now c.build_field_set.result) c.as_ref.ensures
    (field_set_answer parser file c.as_ref.result.now c.args.type_name.now read.field-0.selections read.field-0.errors read.ensures.read c.build_field_set.result c.build_field_set.ensures))
