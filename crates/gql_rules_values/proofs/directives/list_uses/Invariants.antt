use Rattle.std.proofs.Common.{◌≡◌, ◌++◌, drop}
use Rattle.std.specs.List.{flat_map}
use Rattle.gql_rules_values.specs.Directives.{use_faults}
use Rattle.gql_rules_values.proofs.directives.list_uses.Given as goal

-- what is listed and what is left make the whole
abbrev pub invariant-loop-used : goal.invariant-loop-used
invariant-loop-used l = l.faults ++ flat_map (use_faults l.defined l.schema.types l.location l.schema.directive_definitions) (drop l.used-index l.directives) ≡ l.fn.faults ++ flat_map (use_faults l.defined l.schema.types l.location l.schema.directive_definitions) l.directives
