use Rattle.std.proofs.Common.{not, take, ap, ◌∙◌}
use Rattle.gql_schema_types.specs.Entries.{is_called}
use Rattle.gql_schema_rules_parts.proofs.WantedArguments.{any_found}
use Rattle.gql_schema_rules_parts.specs.Arguments.{argument_name}
use Rattle.gql_schema_rules_parts.proofs.interface_fields.is_first.Goals as goal

pub returns : goal.returns
returns c =
    c.is_first.ensures c.args.argument.now c.requires.there
    ∙ ap not (any_found (is_called argument_name c.args.argument.now.name.text) (take c.args.at c.args.all.now))
