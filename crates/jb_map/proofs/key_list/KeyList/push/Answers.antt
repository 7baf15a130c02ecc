use Rattle.std.proofs.Common.{◌≡◌, subst, ap, ◌∙◌, sym, ◌++◌, ◌∷◌, [], IfSome, position, None}
use Rattle.std.specs.Str.{bytes_eq}
use Rattle.jb_map.proofs.KeyLists.{Tabled, pushed_distinct}
use Rattle.jb_map.proofs.key_list.KeyList.push.Goals as goal

pub invariant_of-self-in-Ok : goal.invariant_of-self-in-Ok
invariant_of-self-in-Ok c =
    let table = c.note_key.new.table in
    let texts = c.self.inside.texts.items in
    let k = c.args.key in
    let all = c.push_reserved.ensures.items ∙ ap (λ l. l ++ k ∷ []) c.reserve.ensures.items in
    let absent = subst (λ l. position (bytes_eq k) l ≡ None) (sym c.self.view_is) c.requires in
    let noted = subst (λ q. IfSome table (λ b. b.value ≡ c.as_slice.result.now ++ q ∷ [])) c.as_str.ensures c.in-Ok.ensures.noted in
    let noted_texts = subst (λ l. IfSome table (λ b. b.value ≡ l ++ k ∷ [])) (c.as_slice.ensures.value ∙ c.reserve.ensures.items) noted in
    subst (Tabled table) (sym all) (pushed_distinct texts k c.self.invariant.0 absent, noted_texts)
