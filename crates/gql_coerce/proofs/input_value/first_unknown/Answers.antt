use Rattle.std.proofs.Common.{◌≡◌, true, false, sym, ap, ◌∙◌}
use Rattle.std.specs.Map.{keys_of}
use Rattle.gql_coerce.specs.InputTypes.{is_field}
use Rattle.gql_coerce.proofs.Steps.{unknown-here, unknown-later}
use Rattle.gql_coerce.proofs.input_value.first_unknown.Goals as goal

pub returns-then-not-is_field : goal.returns-then-not-is_field
returns-then-not-is_field c =
    let key = c.key_at-key.result.now in
    let other : is_field c.args.fields.now key ≡ false = sym (ap (is_field c.args.fields.now) c.as_str.ensures) ∙ sym c.is_field.ensures ∙ c.if-not-is_field.true in
    sym (unknown-here c.args.fields.now (keys_of c.args.members.now) c.loop-index.index key c.key_at-key.ensures other) ∙ c.loop-index.invariant

pub loop-index-preserved : goal.loop-index-preserved
loop-index-preserved c =
    let key = c.key_at-key.result.now in
    let same : is_field c.args.fields.now key ≡ true = sym (ap (is_field c.args.fields.now) c.as_str.ensures) ∙ sym c.is_field.ensures ∙ c.if-not-is_field.false in
    sym (unknown-later c.args.fields.now (keys_of c.args.members.now) c.loop-index.index key c.key_at-key.ensures same) ∙ c.loop-index.invariant
