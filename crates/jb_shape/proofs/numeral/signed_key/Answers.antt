use Rattle.std.proofs.Common.{◌≡◌, true}
use Rattle.std.specs.Str.Parse.{without_leading_sign}
use Rattle.jb_text.specs.Numeral.{is_numeral}
use Rattle.jb_shape.proofs.Numerals.{signed_large}
use Rattle.jb_shape.proofs.numeral.signed_key.Goals as goal

pub returns-in_default-3-clause-number : goal.returns-in_default-3-clause-number
returns-in_default-3-clause-number c =
    let numeral : is_numeral (without_leading_sign c.args.key.now) ≡ true = cc in
    signed_large c.args.most c.args.key.now c.requires numeral c.in_default.ensures.value.0
