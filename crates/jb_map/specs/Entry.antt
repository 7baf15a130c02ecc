-- What the entry of a key shows. The words serve its two halves too, as `entry_value (Occupied o)`.
pub use Rattle.jb_map.specs.declared.entry.Entry.TheVariants.{Vacant, Occupied}
use Rattle.std.specs.Prelude.{ℕ, List, [], ◌∷◌, ◌++◌, Option, Some, None, Result, slice_get, swap_remove}
use Rattle.std.specs.Borrow.{Fml, RattleType, MutBor, follows, follows_if, name_if_ok}
use Rattle.std.specs.Option.{option_map_or}
use Rattle.std.specs.Map.{keys_of, values_of}
use Rattle.indexmap.specs.IndexMap.{set_value_at}
use Rattle.jb_map.specs.declared.entry.Entry.{Entry}
use Rattle.jb_map.specs.declared.entry.OccupiedEntry.{OccupiedEntry}
use Rattle.std.specs.Prelude.{◌<◌, length}
use Rattle.std.proofs.Common.{sym, subst}
use Rattle.std_collections.proofs.Entries.{length-set_value_at}
use mir.Syntax.{named}
use Rattle.jb_map.specs.contracts.pairs.Pairs.{the_row}
use Rattle.jb_map.specs.contracts.entry.OccupiedEntry as occupied

module _ {V : Type 0} where
  -- the reference to the map
  abbrev pub entry_map_ref : Entry V → MutBor (List (List ℕ × V))
  entry_map_ref (Occupied o) = o.map
  entry_map_ref (Vacant e) = e.map

  -- the map, as the entry holds it
  abbrev pub entry_map : Entry V → List (List ℕ × V)
  entry_map e = (entry_map_ref e).now

  -- P where the key is there, and Q where it is not
  abbrev pub MatchEntry : Entry V → Type 0 → Type 0 → Type 0
  MatchEntry (Occupied o) P Q = P
  MatchEntry (Vacant e) P Q = Q

  -- the stored key, or the one that was asked for where none is stored
  abbrev pub entry_key : Entry V → Option (List ℕ)
  entry_key (Occupied o) = slice_get (keys_of o.map.now) o.index
  entry_key (Vacant e) = Some e.key

  -- the value that the key has
  abbrev pub entry_value : Entry V → Option V
  entry_value (Occupied o) = slice_get (values_of o.map.now) o.index
  entry_value (Vacant e) = None

  -- the map, once w is the key's value: a new key goes last
  abbrev pub with_value : Entry V → V → List (List ℕ × V)
  with_value (Occupied o) w = set_value_at o.map.now o.index w
  with_value (Vacant e) w = e.map.now ++ (e.key, w) ∷ []

  -- the map without the key's pair, the last pair in its place
  abbrev pub without_entry : Entry V → List (List ℕ × V)
  without_entry (Occupied o) = option_map_or (swap_remove o.map.now o.index) (slice_get o.map.now o.index) o.map.now
  without_entry (Vacant e) = e.map.now

  pub still_within : (o : OccupiedEntry V) (w : V) → o.index < length (with_value (Occupied o) w)
  still_within o w = subst (λ n. o.index < n) (sym (length-set_value_at o.map.now o.index w)) o.within

  -- o, once w is its value
  abbrev pub with_entry_value : OccupiedEntry V → V → OccupiedEntry V
  with_entry_value o w = record { map = record o.map { now = with_value (Occupied o) w }; index = o.index; within = still_within o w }

module _ (V : RattleType) where
  -- once the borrow r ends, the map has the last value written through r at e's key
  abbrev pub entry_lends : Entry V.Denot → MutBor V.Denot → Fml
  entry_lends e r = follows (the_row V) V (entry_map_ref e).ghost_name r.ghost_name (with_value e)

  -- the same if r is a reference, and else the map stays as it is
  abbrev pub entry_lends_ok : {E : Type 0} → Entry V.Denot → Result (MutBor V.Denot) E → Fml
  entry_lends_ok e r = follows_if (the_row V) V (entry_map_ref e).ghost_name (name_if_ok (λ x. x.ghost_name) r) (with_value e) (entry_map e)

  -- once the borrow r ends, the entry behind o has the last value written through r. Its lifetime is the second of the signature
  abbrev pub occupied_lends : MutBor (OccupiedEntry V.Denot) → MutBor V.Denot → Fml
  occupied_lends o r = follows (occupied.the_row (record { mir = named 1; lft = [] }) V) V o.ghost_name r.ghost_name (with_entry_value o.now)
