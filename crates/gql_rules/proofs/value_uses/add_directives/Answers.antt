use Rattle.gql_rules.proofs.Steps.{flat-step}
use Rattle.gql_rules.proofs.value_uses.add_directives.Goals as goal
use Rattle.gql_rules.specs.Uses.{directive_uses, directives_uses}
use Rattle.gql_rules.specs.bridge.Views.{uses_of}
use Rattle.std.proofs.Common.{◌++◌}

pub loop-used-preserved : goal.loop-used-preserved
loop-used-preserved c =
    let schema = c.args.schema.now in
    let items = c.as_slice-used-items.result.now in
    flat-step (directive_uses schema) items c.loop-used.used-index c.used-item.result (uses_of c.loop-used.uses) (uses_of c.add_directive.new.uses)
    (uses_of c.args.uses.now ++ directives_uses schema items) c.loop-used-test.true c.used-item.is c.in_ok-add_directive.ensures c.loop-used.invariant
