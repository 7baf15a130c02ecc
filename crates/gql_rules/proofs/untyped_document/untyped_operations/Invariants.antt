use Rattle.std.proofs.Common.{◌≡◌, ◌++◌, map}
use Rattle.gql_rules.specs.UntypedDocument.{untyped_operation}
use Rattle.gql_rules.proofs.untyped_document.untyped_operations.Given as goal

-- what is made and what is left make the whole
abbrev pub invariant-loop-operation : goal.invariant-loop-operation
invariant-loop-operation l = l.made ++ map untyped_operation l.operation-iterator ≡ map untyped_operation l.fn.operations
