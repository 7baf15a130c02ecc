use Rattle.std.proofs.Common.{ap, ◌∙◌}
use Rattle.gql_schema_rules.proofs.Added.{taken_out}
use Rattle.gql_schema_rules.proofs.scalars.+add.Goals as goal
use Rattle.gql_schema_types.specs.Entries.{without}
use Rattle.gql_schema_types.specs.Types.{type_name}

pub add_first-returns-in-Err-clause-unchanged : goal.add_first-returns-in-Err-clause-unchanged
add_first-returns-in-Err-clause-unchanged t c =
    c.remove.ensures.entries ∙ ap (without type_name c.args.name.now) (c.in-Err.ensures.unchanged ∙ c.in_ok-add_scalar.ensures.added) ∙ taken_out c.args.name.now c.args.types.now c.requires.1.1.1.1
