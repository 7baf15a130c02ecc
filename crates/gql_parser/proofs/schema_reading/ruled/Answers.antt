use Rattle.std.proofs.Common.{◌∙◌, ap}
use Rattle.gql_diag.specs.List.{Diagnostics}
use Rattle.gql_parser.proofs.SchemaPhases.{no_memory, none_broken, not_empty, some_broken}
use Rattle.gql_parser.proofs.schema_reading.ruled.Goals as goal

pub returns-in_err-copy : goal.returns-in_err-copy
returns-in_err-copy c = no_memory c.args.schema c.from_residual.result c.from_residual.ensures.1

pub returns-in_err-validate_schema : goal.returns-in_err-validate_schema
returns-in_err-validate_schema c =
    no_memory c.args.schema c.from_residual-in_err-validate_schema.result c.from_residual-in_err-validate_schema.ensures.1

pub returns-then-is_empty : goal.returns-then-is_empty
returns-then-is_empty c = (
  none_broken c.args.schema c.new-errors.result.items c.validate_schema.new.errors.items (ap (λ (d : Diagnostics). d.items) c.new-errors.ensures)
      c.in_ok-validate_schema.ensures.faults (c.is_empty.ensures.0 c.if-is_empty.true),
  c.assume_valid.ensures ∙ c.in_ok-validate_schema.ensures.schema,
)

pub returns-else-is_empty : goal.returns-else-is_empty
returns-else-is_empty c =
    let errors = c.validate_schema.new.errors in
    some_broken c.args.schema c.new-errors.result.items errors (ap (λ (d : Diagnostics). d.items) c.new-errors.ensures)
    c.in_ok-validate_schema.ensures.faults (not_empty c.is_empty.result errors.items c.is_empty.ensures.1 c.if-is_empty.false)
    (c.validate_schema.ensures.sources ∙ ap (λ (d : Diagnostics). d.sources) c.new-errors.ensures ∙ c.in_ok-copy.ensures)
