use Rattle.std.proofs.Common.{◌∙◌, ap, sym, Some, slice_get, ◌<◌, length, arith}
use Rattle.indexmap.specs.IndexMap.{set_value_at}
use Rattle.indexmap.proofs.ReorderLemmas.{parts}
use Rattle.std_collections.proofs.Zip.{slice_get_at, zip-set_value}
use Rattle.jb_map.proofs.pairs.Pairs.replace_at.Goals as goal

pub index_mut-requires : goal.index_mut-requires
index_mut-requires g c =
    let o = parts _ _ _ c.self.view_is c.self.invariant in
    omega (arith, o.values_length, c.self.inside.values.ok.0, c.requires)

pub returns-clause-old : goal.returns-clause-old
returns-clause-old g c =
    let o = parts _ _ _ c.self.view_is c.self.invariant in
    let vs = c.self.inside.values.items in
    let i = c.args.index in
    let within : i < length vs = omega (arith, o.values_length, c.requires) in
    ap (λ l. slice_get l i) (sym o.values) ∙ slice_get_at vs i c.index_mut.result.now within c.index_mut.ensures.value ∙ ap Some (sym c.replace.ensures.value)

pub returns-clause-pairs : goal.returns-clause-pairs
returns-clause-pairs g c =
    let ks = c.self.inside.keys in
    let vs = c.self.inside.values.items in
    let i = c.args.index in
    zip-set_value ks vs i _ ∙ (λ j. set_value_at (c.self.view_is j) i (c.replace.ensures.after j))
