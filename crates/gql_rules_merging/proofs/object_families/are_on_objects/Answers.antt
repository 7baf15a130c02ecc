use Rattle.std.proofs.Common.{sym, ◌∙◌, arith}
use Rattle.gql_rules_merging.proofs.FamilySets.{fields_length}
use Rattle.gql_rules_merging.proofs.ObjectFamilies.{objects_next, objects_all}
use Rattle.gql_rules_merging.specs.bridge.Gathering.{fields_of}
use Rattle.gql_rules_merging.proofs.object_families.are_on_objects.Goals as goal

pub loop-number-preserved : goal.loop-number-preserved
loop-number-preserved c =
    objects_next c.args.types.now (fields_of c.args.fields.now) c.args.families.now c.args.mixed.now c.loop-number.number c.loop-number.invariant
    (sym c.is_mixed_or_on_object.ensures ∙ c.if-not-is_mixed_or_on_object.false)

pub returns : goal.returns
returns c all =
    objects_all c.args.types.now (fields_of c.args.fields.now) c.args.families.now c.args.mixed.now c.loop-number.number c.loop-number.invariant
    (omega (arith, fields_length c.args.fields.now))
