use Rattle.std.proofs.Common.{◌≡◌, drop}
use Rattle.gql_schema_rules_parts.specs.DuplicateRootOperationType.{first_same}
use Rattle.gql_schema_rules_parts.proofs.duplicate_root_operation_type.first_same.Given as goal

-- it is the first of those that are left
abbrev pub invariant-loop-operation_type : goal.invariant-loop-operation_type
invariant-loop-operation_type l = first_same l.definition l.name (drop l.operation_type-index l.earlier) ≡ first_same l.definition l.name l.earlier
