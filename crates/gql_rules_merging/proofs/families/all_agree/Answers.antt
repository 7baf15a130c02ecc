use Rattle.std.proofs.Common.{sym, ◌∙◌, arith}
use Rattle.gql_rules_merging.proofs.Agreement.{agreed_on, agreed_all}
use Rattle.gql_rules_merging.proofs.FamilySets.{fields_length}
use Rattle.gql_rules_merging.specs.bridge.Gathering.{fields_of}
use Rattle.gql_rules_merging.proofs.families.all_agree.Goals as goal

pub loop-number-preserved : goal.loop-number-preserved
loop-number-preserved c =
    agreed_on c.args.types.now (fields_of c.args.fields.now) c.args.families.now c.loop-number.number c.loop-number.invariant
    (sym c.is_agreed_at.ensures ∙ c.if-not-is_agreed_at.false)

pub returns : goal.returns
returns c all =
    agreed_all c.args.types.now (fields_of c.args.fields.now) c.args.families.now c.loop-number.number c.loop-number.invariant
    (omega (arith, fields_length c.args.fields.now))
