use Rattle.std.proofs.Common.{ap, ◌∙◌, zip, ◌++◌, ◌∷◌, [], position}
use Rattle.std.specs.Str.{bytes_eq}
use Rattle.indexmap.proofs.ReorderLemmas.{parts, zip_push}
use Rattle.jb_map.proofs.pairs.Pairs.append_new.Goals as goal

pub push-requires : goal.push-requires
push-requires g c =
    let o = parts _ _ _ c.self.view_is c.self.invariant in
    ap (position (bytes_eq c.args.key)) o.keys ∙ c.requires

pub returns-in-Ok-clause-pairs : goal.returns-in-Ok-clause-pairs
returns-in-Ok-clause-pairs g c =
    let ks = c.self.inside.keys in
    let vs = c.self.inside.values.items in
    let k = c.args.key in
    let v = c.args.value in
    let values = c.push_reserved.ensures.items ∙ ap (λ l. l ++ v ∷ []) c.reserve.ensures.items in
    (λ j. zip (c.in-Ok.ensures.pushed j) (values j)) ∙ zip_push ks vs k v c.self.invariant ∙ ap (λ l. l ++ (k, v) ∷ []) c.self.view_is
