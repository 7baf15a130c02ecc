use Rattle.std.proofs.Common.{◌≡◌, ◌++◌, drop}
use Rattle.gql_rules.specs.UniqueArguments.{directives_arguments}
use Rattle.gql_rules.proofs.unique_arguments.UniqueArguments.list_directives.Given as goal

-- what is listed and what is left make the whole
abbrev pub invariant-loop-used : goal.invariant-loop-used
invariant-loop-used l = l.faults ++ directives_arguments (drop l.used-index l.directives) ≡ l.fn.faults ++ directives_arguments l.directives
