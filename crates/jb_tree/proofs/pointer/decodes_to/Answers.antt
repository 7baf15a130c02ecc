use Rattle.std.proofs.Common.{sym, ◌∙◌}
use Rattle.jb_tree.proofs.Tokens.{ends_together}
use Rattle.jb_tree.proofs.pointer.decodes_to.Goals as goal

pub returns : goal.returns
returns c = c.is_empty.ensures ∙ ends_together c.bytes.token.now c.bytes.key.now c.in_default.ensures ∙ sym c.bytes.invariant
