use Rattle.std.proofs.Common.{◌≡◌, ◌<◌, Some, IfSome, length, slice_get, swap_remove, sym, ap, subst, ◌∙◌}
use Rattle.std.proofs.lemmas.Option.{slice_get-get_or}
use Rattle.jb_map.proofs.KeyLists.{Tabled, removed_distinct}
use Rattle.jb_map.proofs.key_list.KeyList.swap_remove.Goals as goal

pub invariant_of-self : goal.invariant_of-self
invariant_of-self c =
    let ks = c.self.inside.texts.items in
    let i = c.args.index in
    let k = c.swap_remove.result in
    let within : i < length ks = subst (λ l. i < length l) (sym c.self.view_is) c.requires in
    let forgot = subst (λ l. IfSome c.forget_key.new.table (λ t. t.value ≡ swap_remove l i k)) c.as_slice.ensures.value (c.forget_key.ensures k) in
    subst (Tabled c.forget_key.new.table) (sym c.swap_remove.ensures.items) (removed_distinct ks i k within c.swap_remove.ensures.value c.self.invariant.0, forgot)

pub returns-clause-key : goal.returns-clause-key
returns-clause-key c =
    let ks = c.self.inside.texts.items in
    let i = c.args.index in
    let within : i < length ks = subst (λ l. i < length l) (sym c.self.view_is) c.requires in
    ap (λ l. slice_get l i) (sym c.self.view_is) ∙ slice_get-get_or ks i c.swap_remove.result within ∙ ap Some (sym c.swap_remove.ensures.value)
