use Rattle.std.proofs.Common.{◌≡◌, ◌++◌, []}
use Rattle.std.specs.List.{AllByRecursion}
use Rattle.gql_collect.specs.Plan.{fields_in, groups_in}
use Rattle.gql_collect.specs.bridge.Plan.{IsPlanned, ground_of, nodes_in}
use Rattle.gql_collect.proofs.planner.Planner.begun.Given as goal

-- the parts so far, and the groups that are left, make the whole
abbrev pub invariant-loop-group : goal.invariant-loop-group
invariant-loop-group l =
    record {
      same : groups_in l.parts ++ l.group-iterator ≡ l.fn.groups;
      planned : AllByRecursion (IsPlanned (ground_of l.self) l.object_type) (fields_in l.parts);
      fresh : AllByRecursion (λ part. nodes_in part ≡ []) l.parts;
    }
