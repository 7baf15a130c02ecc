use Rattle.std.proofs.Common.{◌≡◌, true, arith}
use Rattle.std.specs.Str.Parse.{without_leading_plus}
use Rattle.jb_text.specs.Numeral.{is_numeral}
use Rattle.jb_shape.proofs.Numerals.{unsigned_large}
use Rattle.jb_shape.proofs.numeral.unsigned_key.Goals as goal

pub returns-in_default-2-clause-number : goal.returns-in_default-2-clause-number
returns-in_default-2-clause-number c =
    let numeral : is_numeral (without_leading_plus c.args.key.now) ≡ true = cc in
    unsigned_large c.args.most c.args.key.now (omega arith) numeral c.in_default.ensures.value.0
