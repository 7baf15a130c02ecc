use Rattle.std.proofs.Common.{◌≡◌, ◌++◌, drop}
use Rattle.std.specs.List.{flat_map}
use Rattle.gql_ast.specs.declared.schema_definition.DirectiveLocation.TheVariants.{ArgumentDefinition}
use Rattle.gql_schema_rules_parts.specs.InputValues.{input_value_faults}
use Rattle.gql_schema_rules_parts.proofs.input_values.list_arguments.Given as goal

-- what is listed and what is left make the whole
abbrev pub invariant-loop-value : goal.invariant-loop-value
invariant-loop-value l =
    l.faults ++ flat_map (input_value_faults l.schema ArgumentDefinition) (drop l.value-index l.values) ≡ l.fn.faults ++ flat_map (input_value_faults l.schema ArgumentDefinition) l.values
