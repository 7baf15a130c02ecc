use Rattle.std.proofs.Common.{sym, ◌∙◌}
use Rattle.std_collections.proofs.Zip.{length-zip_even}
use Rattle.jb_text.proofs.iter_mut.IterMutExactSizeIterator.len.Goals as goal

pub returns-clause-value : goal.returns-clause-value
returns-clause-value g c = c.len.ensures.value ∙ sym (length-zip_even _ _ c.args.self.now.even)
