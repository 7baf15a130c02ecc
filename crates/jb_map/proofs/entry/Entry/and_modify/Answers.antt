use Rattle.std.proofs.Common.{◌≡◌, slice_get, refl, sym, ap, subst, ◌∙◌}
use Rattle.std.specs.Map.Calls.{MayWrite, ModifiesValue}
use Rattle.std_collections.proofs.Entries.{keys_set_value_at}
use Rattle.std_collections.proofs.HashLookup.{set_value_at_twice, get_value_set}
use Rattle.jb_map.specs.Entry.{entry_key, entry_value, with_value}
use Rattle.jb_map.proofs.entry.Entry.and_modify.Goals as goal

at_both : {X : Type 0} (P : X → X → Type 0) (p q a b : X) → p ≡ a → q ≡ b → P a b → P p q
at_both P p q a b x y h = subst (λ r. P r q) (sym x) (subst (P a) (sym y) h)

pub returns-in-Occupied-clause-same_key : goal.returns-in-Occupied-clause-same_key
returns-in-Occupied-clause-same_key g c =
    let o = c.in-Occupied.entry in
    ap (λ ks. slice_get ks o.index) (keys_set_value_at o.map.now o.index c.change.new.arg2) ∙ sym (ap entry_key c.in-Occupied.is)

pub returns-in-Occupied-clause-same_writes : goal.returns-in-Occupied-clause-same_writes
returns-in-Occupied-clause-same_writes g c w =
    let o = c.in-Occupied.entry in
    set_value_at_twice o.map.now o.index c.change.new.arg2 w ∙ sym (ap (λ e. with_value e w) c.in-Occupied.is)

pub returns-in-Occupied-clause-changed : goal.returns-in-Occupied-clause-changed
returns-in-Occupied-clause-changed g c =
    let o = c.in-Occupied.entry in
    let u = c.change.new.arg2 in
    let old = ap entry_value c.in-Occupied.is ∙ c.get_mut.ensures.value in
    let did : MayWrite g.F.FnOnce c.args.change c.get_mut.result.now u
    = record { lent = c.get_mut.result; result = c.change.result; left = _; before = refl; met = c.change.ensures; after = refl } in
    at_both (ModifiesValue g.F.FnOnce c.args.change) _ _ _ _ old (get_value_set o.map.now o.index u o.within) did
