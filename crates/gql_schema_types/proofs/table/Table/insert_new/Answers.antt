use Rattle.std.proofs.Common.{◌≡◌, None, IfSome, [], ◌∷◌, ◌++◌, position, sym, ap, ◌∙◌, subst}
use Rattle.std.specs.List.{IsDistinct}
use Rattle.std.specs.Str.{bytes_eq}
use Rattle.std.proofs.lemmas.List.{map-append}
use Rattle.gql_schema_types.specs.Entries.{is_called, entry, texts}
use Rattle.gql_schema_types.proofs.Lookups.{absent, place-texts}
use Rattle.gql_schema_types.proofs.Joins.{push-distinct}
use Rattle.gql_schema_types.proofs.table.Table.insert_new.Goals as goal

pub note_name-requires-clause-absent : goal.note_name-requires-clause-absent
note_name-requires-clause-absent g c =
    let own = g.T.Named.own in
    let xs = c.self.inside.entries.items in
    let name = (own c.args.item).text in
    let same = c.as_str.ensures.text ∙ ap (λ n. n.text) c.own_name.ensures in
    ap (λ k. position (bytes_eq k) (texts own c.as_slice.result.now)) same
    ∙ ap (λ l. position (bytes_eq name) (texts own l)) (c.as_slice.ensures.value ∙ c.reserve.ensures.items ∙ c.self.view_is)
    ∙ place-texts own name c.args.self.now ∙ absent (is_called own name) c.args.self.now c.requires

pub invariant_of-self-in-Ok : goal.invariant_of-self-in-Ok
invariant_of-self-in-Ok g c =
    let own = g.T.Named.own in
    let xs = c.self.inside.entries.items in
    let x = c.args.item in
    let same = c.as_str.ensures.text ∙ ap (λ n. n.text) c.own_name.ensures in
    let all = c.push_reserved.ensures.items ∙ ap (λ l. l ++ x ∷ []) c.reserve.ensures.items in
    let none = subst (λ l. entry own (own x).text l ≡ None) (sym c.self.view_is) c.requires in
    let slice = c.as_slice.ensures.value ∙ c.reserve.ensures.items in
    let noted = subst (λ k. IfSome c.note_name.new.index (λ i. i.value ≡ texts own c.as_slice.result.now ++ k ∷ [])) same c.in-Ok.ensures.noted in
    let noted_all = subst (λ l. IfSome c.note_name.new.index (λ i. i.value ≡ texts own l ++ (own x).text ∷ [])) slice noted in (
      subst (λ l. IsDistinct bytes_eq (texts own l)) (sym all) (push-distinct own xs x c.self.invariant.0 none),
      subst (λ ks. IfSome c.note_name.new.index (λ i. i.value ≡ ks)) (sym (map-append (λ x. (own x).text) xs (x ∷ [])) ∙ ap (texts own) (sym all)) noted_all,
    )
