use Rattle.std.proofs.Common.{◌<◌, length, zip, slice_get, swap_remove, sym, ap, ◌∙◌, arith}
use Rattle.indexmap.proofs.ReorderLemmas.{parts, slice_get-zip_some}
use Rattle.std_collections.proofs.Zip.{slice_get_at, zip-swap_remove}
use Rattle.jb_map.proofs.pairs.Pairs.remove_at.Goals as goal

pub swap_remove-requires : goal.swap_remove-requires
swap_remove-requires g c =
    let o = parts _ _ _ c.self.view_is c.self.invariant in
    omega (arith, o.keys_length, c.requires)

pub swap_remove-requires-2 : goal.swap_remove-requires-2
swap_remove-requires-2 g c =
    let o = parts _ _ _ c.self.view_is c.self.invariant in
    omega (arith, o.values_length, c.self.inside.values.ok.0, c.requires)

pub returns-clause-pair : goal.returns-clause-pair
returns-clause-pair g c =
    let o = parts _ _ _ c.self.view_is c.self.invariant in
    let ks = c.self.inside.keys in
    let vs = c.self.inside.values.items in
    let i = c.args.index in
    let within : i < length vs = omega (arith, o.values_length, c.requires) in
    ap (λ l. slice_get l i) (sym c.self.view_is)
    ∙ slice_get-zip_some ks vs i c.swap_remove.result c.swap_remove-2.result c.swap_remove.ensures.key (slice_get_at vs i c.swap_remove-2.result within c.swap_remove-2.ensures.value)

pub returns-clause-pairs : goal.returns-clause-pairs
returns-clause-pairs g c =
    let ks = c.self.inside.keys in
    let vs = c.self.inside.values.items in
    let i = c.args.index in
    (λ j. zip (c.swap_remove.ensures.keys j) (c.swap_remove-2.ensures.items j)) ∙ zip-swap_remove ks vs i _ _ c.self.invariant
    ∙ ap (λ l. swap_remove l i (c.swap_remove.result, c.swap_remove-2.result)) c.self.view_is
