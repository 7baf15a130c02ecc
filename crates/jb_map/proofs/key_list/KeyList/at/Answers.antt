use Rattle.std.proofs.Common.{◌<◌, length, slice_get, sym, ap, subst, ◌∙◌}
use Rattle.std_collections.proofs.Zip.{slice_get_at}
use Rattle.jb_map.proofs.key_list.KeyList.at.Goals as goal

pub returns : goal.returns
returns c =
    let ks = c.self.inside.texts.items in
    let i = c.args.index in
    let within : i < length ks = subst (λ l. i < length l) (sym c.self.view_is) c.requires in
    ap (λ l. slice_get l i) (sym c.self.view_is) ∙ slice_get_at ks i _ within c.index.ensures
