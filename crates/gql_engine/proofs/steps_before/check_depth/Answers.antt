use Rattle.gql_engine.proofs.Responses.{looks_off, looks_on, shallow_off}
use Rattle.std.proofs.Common.{refl}
use Rattle.gql_engine.proofs.steps_before.check_depth.Goals as goal

pub returns-then-wanted-clause-looks : goal.returns-then-wanted-clause-looks
returns-then-wanted-clause-looks g c =
    looks_on c.args.wanted.now.introspection c.args.texts.now.document.now c.args.operation.now _ _ c.if-wanted.true c.check_depth_on.ensures.looks

pub returns-else-wanted-clause-shallow : goal.returns-else-wanted-clause-shallow
returns-else-wanted-clause-shallow g c = shallow_off c.args.wanted.now.introspection c.args.texts.now.document.now c.args.operation.now c.if-wanted.false

pub returns-else-wanted-clause-looks : goal.returns-else-wanted-clause-looks
returns-else-wanted-clause-looks g c = looks_off c.args.wanted.now.introspection c.args.texts.now.document.now c.args.operation.now _ _ refl
