use Rattle.std.proofs.Common.{◌≡◌, ◌++◌, drop}
use Rattle.gql_schema_rules.specs.CycleFaults.{faults_from}
use Rattle.gql_schema_rules.proofs.cycle_faults.list_judged.Given as goal

-- what is told and what is left make the whole
abbrev pub invariant-loop-thing : goal.invariant-loop-thing
invariant-loop-thing g l =
    let own = g.T.Named.own in
    record {
      node : l.node ≡ l.thing-index;
      faults : l.faults ++ faults_from own l.rule l.recursive l.long l.node (drop l.thing-index l.things) ≡ l.fn.faults ++ faults_from own l.rule l.recursive l.long 0 l.things;
    }
