use Rattle.std.proofs.Common.{refl, sym, ◌∙◌, ap₂, arith}
use Rattle.std.specs.Str.{bytes_eq}
use Rattle.std.proofs.lemmas.List.{drop_all}
use Rattle.jb_map.proofs.SameTexts.{same_behind}
use Rattle.jb_map.proofs.same_text.are_same.Goals as goal

pub loop-at-init : goal.loop-at-init
loop-at-init c = refl

pub loop-at-preserved : goal.loop-at-preserved
loop-at-preserved c =
    c.loop-at.invariant ∙ same_behind c.args.left.now c.args.right.now c.loop-at.at c.loop-at-test.true (omega arith) c.if-left-at.false

pub returns : goal.returns
returns c =
    sym (c.loop-at.invariant ∙ ap₂ bytes_eq (drop_all c.loop-at.at c.args.left.now (omega arith)) (drop_all c.loop-at.at c.args.right.now (omega arith)))
