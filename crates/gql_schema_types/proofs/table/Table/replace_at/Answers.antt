use Rattle.std.proofs.Common.{◌≡◌, ◌<◌, length, set, Some, IfSome, position, slice_get, refl, sym, ap, ◌∙◌, subst}
use Rattle.std.specs.List.{IsDistinct}
use Rattle.std.specs.Str.{bytes_eq}
use Rattle.std.proofs.lemmas.Option.{slice_get_read}
use Rattle.gql_schema_types.specs.Entries.{is_called, texts}
use Rattle.gql_schema_types.proofs.Lookups.{texts-set, place_within}
use Rattle.gql_schema_types.proofs.table.Table.replace_at.Goals as goal

pub invariant_of-self : goal.invariant_of-self
invariant_of-self g c =
    let own = g.T.Named.own in
    let xs = c.self.inside.entries.items in
    let x = c.args.item in
    let is = subst (λ l. position (is_called own (own x).text) l ≡ Some c.args.at) (sym c.self.view_is) c.requires in
    let same = ap (λ y. texts own (set xs c.args.at y)) c.replace.ensures.after ∙ texts-set own x xs c.args.at is in
    (subst (IsDistinct bytes_eq) (sym same) c.self.invariant.0, subst (λ ks. IfSome c.self.inside.index (λ i. i.value ≡ ks)) (sym same) c.self.invariant.1)

pub returns-clause-old : goal.returns-clause-old
returns-clause-old g c =
    let own = g.T.Named.own in
    let xs = c.self.inside.entries.items in
    let p = is_called own (own c.args.item).text in
    let within : c.args.at < length xs = subst (λ l. c.args.at < length l) (sym c.self.view_is) (place_within p c.args.self.now c.args.at c.requires) in
    ap (λ l. slice_get l c.args.at) (sym c.self.view_is) ∙ slice_get_read xs (length xs) c.args.at c.index_mut.result.now refl within c.index_mut.ensures.value ∙ ap Some (sym c.replace.ensures.value)
