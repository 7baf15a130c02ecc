use Rattle.std.proofs.Common.{length}
use Rattle.std.specs.Map.Iter.{deref, deref_pair, deref_pair_mut, TakesFirst, TakesLast, LendsFirst, LendsLast}
use Rattle.jb_text.specs.WalkMut.{pairs_left, values_left, values_step, values_step_back}
use Rattle.jb_text.proofs.Ends.{ends, first_counts, last_counts, values_first_counts, values_last_counts}
use Rattle.jb_text.proofs.laws.walks_end_for_good.Goals as goal

pub returns : goal.returns
returns g c = record {
  pairs = ends (λ l. length l) (TakesFirst deref_pair) (TakesLast deref_pair) (first_counts deref_pair) (last_counts deref_pair);
  pairs_mut = ends (λ w. length (pairs_left w)) (LendsFirst pairs_left) (LendsLast pairs_left) (λ s t. first_counts deref_pair_mut (pairs_left s) (pairs_left t)) (λ s t. last_counts deref_pair_mut (pairs_left s) (pairs_left t));
  keys = ends (λ l. length l) (TakesFirst deref) (TakesLast deref) (first_counts deref) (last_counts deref);
  values = ends (λ l. length l) (TakesFirst deref) (TakesLast deref) (first_counts deref) (last_counts deref);
  values_mut = ends (λ w. length (values_left w)) values_step values_step_back values_first_counts values_last_counts;
  owned = ends (λ l. length l) (TakesFirst (λ p. p)) (TakesLast (λ p. p)) (first_counts (λ p. p)) (last_counts (λ p. p));
}
