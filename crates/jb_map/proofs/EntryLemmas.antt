-- What an entry shows before and after a write.
use Rattle.std.proofs.Common.{◌≡◌, ℕ, zero, suc, ◌<◌, Bool, position, List, [], ◌∷◌, ◌++◌, Option, Some, None, length, slice_get, swap_remove, refl, sym, ap, ◌∙◌}
use native.Mathlib.Bridge.{le_prop}
use Rattle.std.specs.Option.{option_map_or}
use Rattle.std.specs.Str.{bytes_eq}
use Rattle.std.specs.Map.{keys_of, values_of}
use Rattle.std_collections.proofs.HashLookup.{get_value_push, set_value_at_push, IsFirst}
use Rattle.indexmap.specs.IndexMap.{set_value_at, swap_remove_entry}
use Rattle.indexmap.proofs.MapLemmas.{Found-position, swap_remove_entry-found}
use Rattle.jb_map.proofs.Positions.{none_within}
use Rattle.jb_map.proofs.TextOrder.{same_text}
use Rattle.jb_map.specs.declared.entry.OccupiedEntry.{OccupiedEntry}
use Rattle.jb_map.specs.Entry.{with_entry_value, without_entry, Occupied}

module _ {V : Type 0} where
  pub occupied_written : (o : OccupiedEntry V) (w : V) (p : o.index < length (set_value_at o.map.now o.index w))
      → record { map = record o.map { now = set_value_at o.map.now o.index w }; index = o.index; within = p } ≡ with_entry_value o w
  occupied_written o w p = ap (λ q. record (with_entry_value o w) { within = q }) (le_prop p (with_entry_value o w).within)

  -- a pair that went in last, written again
  pub last_written : (es new : List (List ℕ × V)) (i : ℕ) (k : List ℕ) (v : V) → new ≡ es ++ (k, v) ∷ [] → i ≡ length es
      → (w : V) → set_value_at new i w ≡ es ++ (k, w) ∷ []
  last_written es new i k v pushed end w = (λ j. set_value_at (pushed j) (end j) w) ∙ set_value_at_push es k v w

  pub last_value : (es new : List (List ℕ × V)) (i : ℕ) (k : List ℕ) (v : V) → new ≡ es ++ (k, v) ∷ [] → i ≡ length es → slice_get (values_of new) i ≡ Some v
  last_value es new i k v pushed end = (λ j. slice_get (values_of (pushed j)) (end j)) ∙ get_value_push es k v

  -- the map without the pair that stands at the entry's place
  pub without_there : (o : OccupiedEntry V) (e : List ℕ × V) → slice_get o.map.now o.index ≡ Some e → swap_remove o.map.now o.index e ≡ without_entry (Occupied o)
  without_there o e at = sym (ap (λ r. option_map_or (swap_remove o.map.now o.index) r o.map.now) at)

  -- the key that is found is the one that was asked for
  pub key_there : (k : List ℕ) (es : List (List ℕ × V)) (i : ℕ) → IsFirst (bytes_eq k) es i → slice_get (keys_of es) i ≡ Some k
  key_there k [] i h = absurd h
  key_there k (e ∷ es) zero h = ap Some (sym (same_text k e.0 h))
  key_there k (e ∷ es) (suc i) h = key_there k es i h.1

  -- removing the pair at the place where a key is found is removing that key
  pub removed_there : (t : List ℕ → Bool) (es : List (List ℕ × V)) (i : ℕ) → position t (keys_of es) ≡ Some i
      → option_map_or (swap_remove es i) (slice_get es i) es ≡ swap_remove_entry t es
  removed_there t es i found = by_pair (slice_get es i) refl
    where
      by_pair : (r : Option (List ℕ × V)) → slice_get es i ≡ r → option_map_or (swap_remove es i) r es ≡ swap_remove_entry t es
      by_pair None is = absurd (none_within es i (Found-position t es i found).within (sym is))
      by_pair (Some e) is = sym (swap_remove_entry-found t es i e found)
