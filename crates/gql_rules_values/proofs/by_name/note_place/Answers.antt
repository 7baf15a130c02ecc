use Rattle.std.proofs.Common.{◌≡◌, ℕ, Option, Some, None, false, is_some, position, refl, sym, ap, ◌∙◌}
use Rattle.std.specs.Map.{keys_of, lookup}
use Rattle.std.specs.Str.{bytes_eq}
use Rattle.indexmap.proofs.MapLemmas.{some_index}
use Rattle.gql_rules_values.proofs.by_name.note_place.Goals as goal

none_of : (o : Option ℕ) → is_some o ≡ false → o ≡ None
none_of None none = refl
none_of (Some i) none = absurd cc

pub insert_new-requires : goal.insert_new-requires
insert_new-requires g c =
    let t = bytes_eq c.in_ok-key-in-None.key in
    none_of (position t (keys_of c.args.places.now)) (some_index t c.args.places.now ∙ ap (λ k. is_some (lookup (bytes_eq k) c.args.places.now)) c.in_ok-key-in-None.ensures ∙ ap is_some (sym c.in-None.ensures))
