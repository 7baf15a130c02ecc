use Rattle.std.proofs.Common.{◌∙◌, ap}
use Rattle.gql_diag.specs.List.{Diagnostics}
use Rattle.gql_parser.proofs.Phases.{none_broken, some_broken, are_none, are_some}
use Rattle.gql_parser.proofs.document_reading.ruled_with.Goals as goal

pub returns-then-is_empty : goal.returns-then-is_empty
returns-then-is_empty c = (
  none_broken c.args.schema.now c.args.document c.new-errors.result.items c.validate_document_with.new.errors.items (ap (λ (d : Diagnostics). d.items) c.new-errors.ensures)
      c.in_ok-validate_document_with.ensures.faults (are_none c.is_empty.result c.validate_document_with.new.errors.items c.is_empty.ensures c.if-is_empty.true),
  c.assume_valid.ensures,
)

pub returns-else-is_empty : goal.returns-else-is_empty
returns-else-is_empty c =
    some_broken c.args.schema.now c.args.document c.new-errors.result.items c.validate_document_with.new.errors (ap (λ (d : Diagnostics). d.items) c.new-errors.ensures)
    c.in_ok-validate_document_with.ensures.faults (are_some c.is_empty.result c.validate_document_with.new.errors.items c.is_empty.ensures c.if-is_empty.false)
    (c.in_ok-validate_document_with.ensures.sources ∙ ap (λ (d : Diagnostics). d.sources) c.new-errors.ensures ∙ c.in_ok-copy.ensures)
