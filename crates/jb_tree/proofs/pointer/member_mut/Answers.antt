use Rattle.std.proofs.Common.{sym, ◌∙◌}
use Rattle.std.specs.Str.{bytes_eq}
use Rattle.indexmap.proofs.MapLemmas.{Found-position, Missing-position}
use Rattle.jb_tree.specs.Pointer.{decoded}
use Rattle.jb_tree.proofs.pointer.member_mut.Goals as goal

pub returns-in-Some : goal.returns-in-Some
returns-in-Some c =
    sym c.value_mut_at.ensures.value ∙ sym (Found-position (bytes_eq (decoded c.args.token.now)) c.args.members.now c.in-Some.place (sym c.in-Some.ensures)).value

pub returns-in-None : goal.returns-in-None
returns-in-None c = sym (Missing-position (bytes_eq (decoded c.args.token.now)) c.args.members.now (sym c.in-None.ensures)).value
