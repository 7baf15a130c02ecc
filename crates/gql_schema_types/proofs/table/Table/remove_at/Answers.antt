use Rattle.std.proofs.Common.{◌≡◌, ◌<◌, length, IfSome, slice_get, refl, sym, ap, ◌∙◌, subst}
use Rattle.std.specs.List.{IsDistinct}
use Rattle.std.specs.Str.{bytes_eq}
use Rattle.std.proofs.lemmas.List.{length-map}
use Rattle.std.proofs.lemmas.Option.{slice_get_read}
use Rattle.gql_schema_types.specs.Entries.{texts}
use Rattle.gql_schema_types.proofs.Lookups.{texts-remove, removed_distinct, text_at}
use Rattle.gql_schema_types.proofs.table.Table.remove_at.Goals as goal

pub invariant_of-self : goal.invariant_of-self
invariant_of-self g c =
    let own = g.T.Named.own in
    let xs = c.self.inside.entries.items in
    let i = c.args.at in
    let within : i < length xs = subst (λ l. i < length l) (sym c.self.view_is) c.requires in
    let same = ap (texts own) c.remove.ensures.items ∙ texts-remove own xs i in
    let below : i < length (texts own xs) = subst (λ n. i < n) (sym (length-map xs (λ x. (own x).text))) within in (
      subst (IsDistinct bytes_eq) (sym same) (removed_distinct own (texts own xs) i (own c.remove.result).text below (text_at own xs i c.remove.result within c.remove.ensures.value) c.self.invariant.0),
      subst (λ ks. IfSome c.forget_name.new.index (λ n. n.value ≡ ks)) (sym same) (c.forget_name.ensures (texts own xs) c.self.invariant.1),
    )

pub returns-clause-old : goal.returns-clause-old
returns-clause-old g c =
    let xs = c.self.inside.entries.items in
    let i = c.args.at in
    let within : i < length xs = subst (λ l. i < length l) (sym c.self.view_is) c.requires in
    ap (λ l. slice_get l i) (sym c.self.view_is) ∙ slice_get_read xs (length xs) i c.remove.result refl within c.remove.ensures.value
