-- `Pairs` as a type that may hold the type that holds it, by its values.
use Rattle.std.specs.Prelude.{ℕ, Bool, true, false, cond, ◌&&◌, ◌++◌, map, length, zip}
use mathlib.Core.Path.{◌≡◌, refl, sym, ap, ◌∙◌}
use mathlib.Core.List.{List, [], ◌∷◌}
use native.Mathlib.Nat.{ℕ_set}
use native.Mathlib.Omega.{arith}
use mathlib.Core.Former.{Former, one_more, this, const, pair, list, via, children}
use denote.RattleType.{RattleType}
use denote.HoleLaws.{Alike}
use denote.HolePlaces.{Recodes, struct_places, laid}
use denote.Hole.Carrier.{listed}
use denote.Hole.Fix.{over}
use denote.Param.Weighed.{Weighed, most}
use denote.Model.Placed.{held, view_places_where}
use Rattle.std.specs.formers.vec.Vec as vec
use Rattle.std.specs.declared.alloc.Global.{Global}
use Rattle.std.specs.contracts.alloc.Global as heap
use Rattle.std.specs.contracts.impls.GlobalAllocator.TheImpl.{ghosts}
use Rattle.std.specs.declared.cmp.PartialEq as eq
use Rattle.std.specs.declared.hash.Hash as hash
use Rattle.std.specs.Cmp.Lexicographic.{pointwise}
use Rattle.std.specs.List.{flat_map}
use Rattle.std.specs.Hash.{HashWrites, usize}
use Rattle.std.specs.Str.{bytes_eq}
use Rattle.std.specs.Map.{values_of}
use lib.ListN.{length-map}
use Rattle.std_collections.specs.Layout.Former.{entry, on_value, entries_puts, values_listed, entries_recoded}
use Rattle.jb_map.specs.ByKey.{is_below, put_by_key, by_key, same_pair, same_pairs, pair_input, pairs_input}
use Rattle.jb_map.specs.declared.pairs.Pairs.TheInside.{Inside}
use Rattle.jb_map.specs.declared.pairs.Pairs.TheView.{view, invariant}
use Rattle.jb_map.specs.contracts.pairs.Pairs as C
use Rattle.jb_map.specs.contracts.pairs.Pairs.TheInside as I
use Rattle.jb_text.specs.contracts.byte_string.ByteString as key

abbrev Bytes : Type 0
Bytes = List ℕ

abbrev pub the_former : Former {0} → Former {0}
the_former g = list (entry g Bytes)

abbrev pub the_weighed : {g : Former {0}} → Weighed g → Weighed (the_former g)
the_weighed w = record { weight = λ X μ es. most (w.weight X μ) (values_of es); puts = λ X μ es. entries_puts w Bytes X μ es }

pub the_empty : List (Bytes × ⊥)
the_empty = []

abbrev pub the_items : (X : Type 0) → List (Bytes × X) → List X
the_items X d = values_of d

pub the_items_listed : (X : Type 0) (d : List (Bytes × X)) → listed _ (children (the_former this) X d) ≡ the_items X d
the_items_listed X d = values_listed Bytes X d

-- the keys are no part of what a map holds: they are texts alone
abbrev fields : Former {0}
fields = via (pair (const (List Bytes)) (vec.the_former this Global)) Inside (λ X a. (a.keys, a.values))
    (λ X v. record { keys = v.0; values = v.1 }) (λ X a. refl) (λ X v. refl)

zip-map : {X Y : Type 0} (h : X → Y) (ks : List Bytes) (vs : List X) → zip ks (map h vs) ≡ map (on_value h) (zip ks vs)
zip-map h [] vs = refl
zip-map h (k ∷ ks) [] = refl
zip-map h (k ∷ ks) (v ∷ vs) = ap (λ l. (k, h v) ∷ l) (zip-map h ks vs)

zip-held : (X : Type 0) (ks : List Bytes) (vs : List X) → length vs ≡ length ks → held (list (entry this Bytes)) X (zip ks vs) ≡ held (list this) X vs
zip-held X [] [] e = refl
zip-held X [] (v ∷ vs) e = absurd (omega arith)
zip-held X (k ∷ ks) [] e = absurd (omega arith)
zip-held X (k ∷ ks) (v ∷ vs) e = λ i. (one_more (zip-held X ks vs (omega arith) i).0, (v, (zip-held X ks vs (omega arith) i).1))

module _ (R S : RattleType) (h : R.Denot → S.Denot) where
  pub the_places : Alike R S h → Alike (C.the_row R) (C.the_row S) ((the_former this).map R.Denot S.Denot h)
  the_places a = view_places_where fields (the_former this) view (λ X Y k u. zip-map k u.keys u.values.items)
      (λ X u. length u.values.items ≡ length u.keys) (λ X Y k u e. sym (length-map u.values.items k) ∙ e) (λ X u e. zip-held X u.keys u.values.items e)
      R.Denot S.Denot h (C.the_row R).coded (C.the_row S).coded
      (invariant R.Denot) (invariant S.Denot) (λ u. ℕ_set _ _) (λ u. ℕ_set _ _)
      (λ u e. length-map u.values.items h ∙ e) (λ u e. sym (length-map u.values.items h) ∙ e) (λ u e. e)
      (over (I.the_row R)) (over (I.the_row S))
      (struct_places (I.the_type R) (I.the_type S) ((λ t. t), (vec.mapped h, tt)) _ (λ d. refl) refl
      ((refl, (λ n. refl, λ n. refl)), (laid _ _ _ (vec.the_places heap.the_row ghosts R S h a), tt)))

  pub the_codes_placed : Recodes R S h → Recodes (C.the_row R) (C.the_row S) ((the_former this).map R.Denot S.Denot h)
  the_codes_placed e d = entries_recoded key.the_row R S h e d

module _ {X Y : Type 0} (h : X → Y) where
  chosen : (b : Bool) (ls ms : List (Bytes × X)) → map (on_value h) (cond b ls ms) ≡ cond b (map (on_value h) ls) (map (on_value h) ms)
  chosen true ls ms = refl
  chosen false ls ms = refl

  -- order by key does not look at values
  put_by_key-map : (e : Bytes × X) (xs : List (Bytes × X)) → put_by_key (on_value h e) (map (on_value h) xs) ≡ map (on_value h) (put_by_key e xs)
  put_by_key-map e [] = refl
  put_by_key-map e (x ∷ xs) =
      ap (λ l. cond (is_below x.0 e.0) (on_value h x ∷ l) (on_value h e ∷ on_value h x ∷ map (on_value h) xs)) (put_by_key-map e xs)
      ∙ sym (chosen (is_below x.0 e.0) (x ∷ put_by_key e xs) (e ∷ x ∷ xs))

  pub by_key-map : (es : List (Bytes × X)) → by_key (map (on_value h) es) ≡ map (on_value h) (by_key es)
  by_key-map [] = refl
  by_key-map (e ∷ es) = ap (put_by_key (on_value h e)) (by_key-map es) ∙ put_by_key-map e (by_key es)

  same-map : (E : Y → Y → Bool) (es fs : List (Bytes × X))
      → pointwise (same_pair E) (map (on_value h) es) (map (on_value h) fs) ≡ pointwise (same_pair (λ x y. E (h x) (h y))) es fs
  same-map E [] [] = refl
  same-map E [] (f ∷ fs) = refl
  same-map E (e ∷ es) [] = refl
  same-map E (e ∷ es) (f ∷ fs) = λ i. (bytes_eq e.0 f.0 && E (h e.1) (h f.1)) && same-map E es fs i

  fed-map : (F : Y → HashWrites) (es : List (Bytes × X)) → flat_map (pair_input F) (map (on_value h) es) ≡ flat_map (pair_input (λ x. F (h x))) es
  fed-map F [] = refl
  fed-map F (e ∷ es) = λ i. pair_input F (on_value h e) ++ fed-map F es i

module _ (X Y : Type 0) (h : X → Y) where
  pub the_eq_natural : (V : eq.Ghosts Y) (m n : List (Bytes × X))
      → same_pairs V.eq (map (on_value h) m) (map (on_value h) n) ≡ same_pairs (λ x y. V.eq (h x) (h y)) m n
  the_eq_natural V m n = (λ i. pointwise (same_pair V.eq) (by_key-map h m i) (by_key-map h n i)) ∙ same-map h V.eq (by_key m) (by_key n)

  pub the_hash_input_natural : (H : hash.Ghosts Y) (V : eq.Ghosts Y) (m : List (Bytes × X))
      → pairs_input H.hash_input (map (on_value h) m) ≡ pairs_input (λ x. H.hash_input (h x)) m
  the_hash_input_natural H V m =
      (λ i. usize (length (by_key-map h m i)) ++ flat_map (pair_input H.hash_input) (by_key-map h m i))
      ∙ (λ i. usize (length-map (by_key m) (on_value h) i) ++ fed-map h H.hash_input (by_key m) i)
