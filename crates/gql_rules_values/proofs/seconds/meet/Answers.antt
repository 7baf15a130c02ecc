use Rattle.std.proofs.Common.{◌≡◌, ℕ, Option, Some, None, false, is_some, position, refl, sym, ap, ◌∙◌}
use Rattle.std.specs.Map.{keys_of, lookup}
use Rattle.std.specs.Str.{bytes_eq}
use Rattle.indexmap.proofs.MapLemmas.{some_index}
use Rattle.gql_rules_values.proofs.seconds.meet.Goals as goal

none_of : (o : Option ℕ) → is_some o ≡ false → o ≡ None
none_of None none = refl
none_of (Some i) none = absurd cc

pub insert_new-requires : goal.insert_new-requires
insert_new-requires g c =
    let t = bytes_eq c.in_ok-key-in-None.key in
    let same = c.in_ok-key-in-None.ensures ∙ c.as_str-in-None.ensures.text ∙ ap (λ n. n.text) c.placed_name-in-None.ensures ∙ sym (ap (λ n. n.text) c.placed_name.ensures) ∙ sym c.as_str.ensures.text in
    none_of (position t (keys_of c.args.seen.now)) (some_index t c.args.seen.now ∙ ap (λ k. is_some (lookup (bytes_eq k) c.args.seen.now)) same ∙ ap is_some (sym c.in-None.ensures))
