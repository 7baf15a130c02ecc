use Rattle.std.proofs.Common.{sym, ◌∙◌, arith}
use Rattle.gql_rules_merging.proofs.FamilySets.{fields_length}
use Rattle.gql_rules_merging.proofs.ObjectFamilies.{shaped_next, shaped_all}
use Rattle.gql_rules_merging.specs.bridge.Gathering.{fields_of}
use Rattle.gql_rules_merging.proofs.object_families.all_shaped.Goals as goal

pub loop-number-preserved : goal.loop-number-preserved
loop-number-preserved c =
    shaped_next c.args.types.now (fields_of c.args.fields.now) c.args.families.now c.loop-number.number c.loop-number.invariant
    (sym c.is_shaped_at.ensures ∙ c.if-not-is_shaped_at.false)

pub returns : goal.returns
returns c all =
    shaped_all c.args.types.now (fields_of c.args.fields.now) c.args.families.now c.loop-number.number c.loop-number.invariant
    (omega (arith, fields_length c.args.fields.now))
