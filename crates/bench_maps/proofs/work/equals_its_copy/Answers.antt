use Rattle.std.proofs.Common.{◌∙◌, ap, sym}
use Rattle.jb_tree.specs.Same.{sorted}
use Rattle.jb_tree.proofs.Equality.{equality_decides}
use Rattle.bench_maps.proofs.work.equals_its_copy.Goals as goal

pub returns : goal.returns
returns c = c.eq.ensures ∙ (equality_decides c.args.value.now _).1 (ap sorted (sym c.in_ok-copy.ensures))
