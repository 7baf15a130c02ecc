use Rattle.std.proofs.Common.{sym, ◌∙◌, zip}
use Rattle.std.specs.List.{refill, length_refill}
use Rattle.indexmap.proofs.ReorderLemmas.{parts}
use Rattle.jb_map.proofs.pairs.Pairs.iter_mut.Goals as goal

pub invariant_of-self-lent : goal.invariant_of-self-lent
invariant_of-self-lent g c w =
    let vs = c.self.inside.values in
    sym (length_refill vs.len vs.items w vs.ok.0) ∙ vs.ok.0 ∙ c.self.invariant

pub returns : goal.returns
returns g c =
    let o = parts _ _ _ c.self.view_is c.self.invariant in
    let count = c.self.inside.values.ok.0 ∙ o.values_length in
    ((sym c.new.ensures.name, λ w j. zip (o.keys j) (refill (count j) (o.values j) w)), record { writes_back = tt; left = c.new.ensures.left ∙ (λ j. zip (c.as_slice.ensures j) (c.as_mut_slice.ensures.value j)) ∙ c.self.view_is })
