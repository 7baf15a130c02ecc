-- What an exploration keeps from set to set and from pair to pair.
use Rattle.std.proofs.Common.{◌≡◌, ◌⊎◌, inl, inr, ℕ, zero, suc, ◌+◌, ◌<◌, ◌≤◌, Bool, true, Some, None, List, [], ◌∷◌, ◌++◌, length, map, replicate, refl, sym, ap, ◌∙◌, subst, arith, append_assoc, length-append}
use Rattle.std.specs.List.{Contains, slice_get, range_with_len}
use Rattle.std.proofs.lemmas.List.{append-nil}
use Rattle.std.proofs.lemmas.List.Elements.{Contains-append_left, Contains-append_right, Contains-push_cases}
use Rattle.std.proofs.lemmas.Option.{slice_get_within}
use Rattle.gql_graph.specs.Graph.{Graph}
use Rattle.gql_graph.proofs.Flooded.{Contains-cons_cases, none_contained, same_or_not}
use Rattle.gql_graph.specs.bridge.Explored.{pair_of, IsMet, same, other, AreMet, IsAdded, AreAdded, AreKeys, AreFields, IsPaired, IsExplored, AreEmpty, AreUnmarked}
use Rattle.gql_graph.specs.bridge.Exploring.{IsBegun, IsGoneBelow, no_buckets, field_sets}
use Rattle.gql_graph.specs.Pairs.{Sets, IsPairIn, IsSet, in_set, below, of_operation, of_fragment, of_field, items_below}
use Rattle.gql_graph.specs.declared.pair.Pair.{Pair}
use Rattle.gql_graph.proofs.SetFields.{got_contained}

met_more : (classes : List ℕ) (found more : List Pair) (in_full : Bool) (a b : ℕ) → IsMet classes found in_full a b → IsMet classes (found ++ more) in_full a b
met_more classes found more in_full a b (same e) = same e
met_more classes found more in_full a b (other c d e f in_found) = other c d e f (Contains-append_left found more (pair_of in_full c d) in_found)

-- what was met stays so
pub met_on : (g : Graph) (keys classes : List ℕ) (found new more : List Pair) (in_full : Bool) (items : List ℕ) → new ≡ found ++ more
    → AreMet g keys classes found in_full items → AreMet g keys classes new in_full items
met_on g keys classes found new more in_full items grown met a b alike =
    subst (λ l. IsMet classes l in_full a b) (sym grown) (met_more classes found more in_full a b (met a b alike))

-- the fields of a set, and their pairs
pub added : (g : Graph) (keys classes items fields : List ℕ) (key_count count : ℕ) (in_full : Bool) (old new : List Pair)
    → count ≡ length g + length keys → AreKeys keys key_count → AreFields g count items fields → IsPaired keys classes fields key_count in_full old new
    → IsAdded g keys classes in_full items old new
added g keys classes items fields key_count count in_full old new counted are_keys found paired = record {
  more = paired.more;
  grown = paired.grown;
  only = λ p c. elim (paired.only p c) [
    | inl before ↦ inl before
    | inr q ↦ inr (
      record {
        alike = record {
          first = found.only p.first q.0;
          second = found.only p.second q.1;
          key = q.3.0;
          first_key = q.3.1;
          second_key = q.3.2;
        };
        ordered = q.2;
      },
      q.4,
    )
  ];
  met = λ a b alike.
      paired.met a b alike.key (are_keys a alike.key alike.first_key)
      (found.all a (omega (arith, counted, slice_get_within keys a alike.key alike.first_key)) alike.first)
      (found.all b (omega (arith, counted, slice_get_within keys b alike.key alike.second_key)) alike.second)
      alike.first_key alike.second_key;
}

module _ (g : Graph) (keys classes : List ℕ) where
  pub one_added : (sets : List (List ℕ)) (items : List ℕ) (old between new : List Pair) → AreAdded g keys classes sets old between
      → IsAdded g keys classes true items between new → AreAdded g keys classes (sets ++ items ∷ []) old new
  one_added sets items old between new before last = record {
    more = before.more ++ last.more;
    grown = last.grown ∙ ap (λ l. l ++ last.more) before.grown ∙ append_assoc old before.more last.more;
    only = λ p c. elim (last.only p c) [
      | inl in_between ↦ elim (before.only p in_between) [
        | inl in_old ↦ inl in_old
        | inr q ↦ inr (q.0, Contains-append_left sets (items ∷ []) q.0 q.1, q.2, q.3)
      ]
      | inr q ↦ inr (items, Contains-append_right sets (items ∷ []) items (0, omega arith, refl), q.0, q.1)
    ];
    met = λ set c. elim (Contains-push_cases sets items set c) [
      | inl earlier ↦ met_on g keys classes between new last.more true set last.grown (before.met set earlier)
      | inr e ↦ subst (AreMet g keys classes new true) e last.met
    ];
  }

-- all sets of a document
module _ (s : Sets) (classes : List ℕ) (field_sets : List (List ℕ))
    (each_field : (a : ℕ) → a < length s.keys → Contains field_sets (s.items a))
    (only_fields : (items : List ℕ) → Contains field_sets items → (a : ℕ) × (a < length s.keys) × (s.items a ≡ items)) where
  pub begun : (first second found : List Pair) → AreAdded s.fragments s.keys classes s.operations [] first
      → AreAdded s.fragments s.keys classes s.fragments first second → AreAdded s.fragments s.keys classes field_sets second found → IsBegun s classes found
  begun first second found one two three = record {
    compared = λ p c. elim (three.only p c) [
      | inl in_second ↦ elim (two.only p in_second) [
        | inl in_first ↦ elim (one.only p in_first) [
          | inl none ↦ absurd (none_contained p none)
          | inr q ↦ in_set (of_operation q.1) q.2 q.3
        ]
        | inr q ↦ in_set (of_fragment q.1) q.2 q.3
      ]
      | inr q ↦ (let field = only_fields q.0 q.1 in in_set (subst (IsSet s) field.2 (of_field field.0 field.1)) q.2 q.3)
    ];
    in_sets = in_each;
  }
    where
      in_each : (items : List ℕ) → IsSet s items → AreMet s.fragments s.keys classes found true items
      in_each items (of_operation c) =
          met_on s.fragments s.keys classes second found three.more true items three.grown (met_on s.fragments s.keys classes first second two.more true items two.grown (one.met items c))
      in_each items (of_fragment c) = met_on s.fragments s.keys classes second found three.more true items three.grown (two.met items c)
      in_each _ (of_field a within) = three.met (s.items a) (each_field a within)

got_before : {A : Type 0} (xs ys : List A) (i : ℕ) → i < length xs → slice_get (xs ++ ys) i ≡ slice_get xs i
got_before [] ys i within = absurd (omega (arith, within))
got_before (x ∷ xs) ys zero within = refl
got_before (x ∷ xs) ys (suc i) within = got_before xs ys i (omega (arith, within))

at_place : {A : Type 0} (xs : List A) (x : A) → Contains xs x → (i : ℕ) × (slice_get xs i ≡ Some x)
at_place [] x c = absurd (none_contained x c)
at_place (y ∷ xs) x c = by_cases (λ later. at_place xs x later) (Contains-cons_cases y xs x c)
  where
    by_cases : (Contains xs x → (i : ℕ) × (slice_get xs i ≡ Some x)) → (y ≡ x) ⊎ Contains xs x → (i : ℕ) × (slice_get (y ∷ xs) i ≡ Some x)
    by_cases further (inl e) = (0, ap Some e)
    by_cases further (inr later) = (let rest = further later in (suc rest.0, rest.1))

before_end : {A : Type 0} (xs : List A) (k n : ℕ) (x : A) → slice_get xs k ≡ Some x → slice_get xs n ≡ None → k < n
before_end [] k n x is ends = absurd cc
before_end (y ∷ xs) k zero x is ends = absurd cc
before_end (y ∷ xs) zero (suc n) x is ends = omega arith
before_end (y ∷ xs) (suc k) (suc n) x is ends = (let rest = before_end xs k n x is ends in omega (arith, rest))

module _ (s : Sets) (classes : List ℕ) where
  -- what is below each pair before this one is found
  pub record Turn (found : List Pair) (next : ℕ) : Type 0 where
    pub begun_from : IsBegun s classes found
    pub closed : (k : ℕ) (p : Pair) (in_full : Bool) → k < next → slice_get found k ≡ Some p → s.below p ≡ Some in_full
        → AreMet s.fragments s.keys classes found in_full (items_below s p)

  pub next_turn : (found new : List Pair) (next : ℕ) (p : Pair) → slice_get found next ≡ Some p → IsGoneBelow s classes p found new → Turn found next → Turn new (next + 1)
  next_turn found new next p at gone turn = record {
    begun_from = record {
      compared = λ q c. elim (gone.only q c) [
        | inl before ↦ turn.begun_from.compared q before
        | inr n ↦ below (turn.begun_from.compared p (got_contained found next p at)) n.0 n.1
      ];
      in_sets = λ items set. met_on s.fragments s.keys classes found new gone.more true items gone.grown (turn.begun_from.in_sets items set);
    };
    closed = λ k q in_full before is goes. elim (same_or_not k next) [
      | inl e ↦ (let one : p ≡ q = (let h : Some p ≡ Some q = sym at ∙ ap (slice_get found) (sym e) ∙ sym (was k (omega (arith, e))) ∙ is in cc) in
          subst (λ r. AreMet s.fragments s.keys classes new in_full (items_below s r)) one (gone.met in_full (ap s.below one ∙ goes)))
      | inr apart ↦ met_on s.fragments s.keys classes found new gone.more in_full (items_below s q) gone.grown
          (turn.closed k q in_full (omega (arith, before, apart)) (sym (was k (omega (arith, before))) ∙ is) goes)
    ];
  }
    where
      was : (k : ℕ) → k ≤ next → slice_get new k ≡ slice_get found k
      was k low = ap (λ l. slice_get l k) gone.grown ∙ got_before found gone.more k (omega (arith, low, slice_get_within found next p at))

  pub explored : (found : List Pair) (next : ℕ) → slice_get found next ≡ None → Turn found next → IsExplored s classes found
  explored found next ends turn = record {
    compared = turn.begun_from.compared;
    in_sets = turn.begun_from.in_sets;
    further = λ p in_full c goes.
        (let at = at_place found p c in
        turn.closed at.0 p in_full (before at.0 p at.1) at.1 goes);
  }
    where
      before : (k : ℕ) (p : Pair) → slice_get found k ≡ Some p → k < next
      before k p is = before_end found k next p is ends

  -- nothing is below a pair that breaks the rule
  pub stays : (found : List Pair) (p : Pair) → s.below p ≡ None → IsGoneBelow s classes p found found
  stays found p is = record {
    more = [];
    grown = sym (append-nil found);
    only = λ q c. inl c;
    met = λ in_full goes. absurd (let h : None ≡ Some in_full = sym is ∙ goes in cc);
  }

  pub goes : (found new : List Pair) (p : Pair) (in_full : Bool) (items : List ℕ) → s.below p ≡ Some in_full → items ≡ items_below s p
      → IsAdded s.fragments s.keys classes in_full items found new → IsGoneBelow s classes p found new
  goes found new p in_full items is are added = record {
    more = added.more;
    grown = added.grown;
    only = λ q c. elim (added.only q c) [
      | inl before ↦ inl before
      | inr n ↦ inr (is ∙ ap Some (sym n.1), subst (λ l. IsPairIn s.fragments s.keys l q) are n.0)
    ];
    met = λ mode goes. (let e : in_full ≡ mode = (let h : Some in_full ≡ Some mode = sym is ∙ goes in cc) in
        subst (λ m. AreMet s.fragments s.keys classes new m (items_below s p)) e (subst (AreMet s.fragments s.keys classes new in_full) are added.met));
  }

-- the sets of fields, one by one
pub range_more : (a n : ℕ) → range_with_len a (suc n) ≡ range_with_len a n ++ (a + n) ∷ []
range_more a zero = ap (λ m. m ∷ []) (omega arith)
range_more a (suc n) = ap (λ l. a ∷ l) (range_more (a + 1) n ∙ ap (λ m. range_with_len (a + 1) n ++ m ∷ []) (omega arith))

in_range : (a n i : ℕ) → i < n → Contains (range_with_len a n) (a + i)
in_range a zero i within = absurd (omega (arith, within))
in_range a (suc n) zero within = subst (Contains (range_with_len a (suc n))) (omega arith) (0, omega arith, refl)
in_range a (suc n) (suc i) within =
    Contains-append_right (a ∷ []) (range_with_len (a + 1) n) (a + suc i) (subst (Contains (range_with_len (a + 1) n)) (omega arith) (in_range (a + 1) n i (omega (arith, within))))

out_of_range : (a n m : ℕ) → Contains (range_with_len a n) m → (i : ℕ) × (i < n) × (a + i ≡ m)
out_of_range a zero m c = absurd (none_contained m c)
out_of_range a (suc n) m c = by_cases (λ later. out_of_range (a + 1) n m later) (Contains-cons_cases a (range_with_len (a + 1) n) m c)
  where
    by_cases : (Contains (range_with_len (a + 1) n) m → (i : ℕ) × (i < n) × (a + 1 + i ≡ m)) → (a ≡ m) ⊎ Contains (range_with_len (a + 1) n) m → (i : ℕ) × (i < suc n) × (a + i ≡ m)
    by_cases further (inl e) = (0, omega arith, omega (arith, e))
    by_cases further (inr later) = (let rest = further later in (suc rest.0, omega (arith, rest.1), omega (arith, rest.2)))

mapped : {A B : Type 0} (f : A → B) (xs : List A) (x : A) → Contains xs x → Contains (map f xs) (f x)
mapped f [] x c = absurd (none_contained x c)
mapped f (y ∷ xs) x c = elim (Contains-cons_cases y xs x c) [
  | inl e ↦ subst (λ z. Contains (map f (y ∷ xs)) (f z)) e (0, omega arith, refl)
  | inr later ↦ Contains-append_right (f y ∷ []) (map f xs) (f x) (mapped f xs x later)
]

mapped_from : {A B : Type 0} (f : A → B) (xs : List A) (y : B) → Contains (map f xs) y → (x : A) × Contains xs x × (f x ≡ y)
mapped_from f [] y c = absurd (none_contained y c)
mapped_from f (x ∷ xs) y c = by_cases (λ later. mapped_from f xs y later) (Contains-cons_cases (f x) (map f xs) y c)
  where
    by_cases : (Contains (map f xs) y → (z : _) × Contains xs z × (f z ≡ y)) → (f x ≡ y) ⊎ Contains (map f xs) y → (z : _) × Contains (x ∷ xs) z × (f z ≡ y)
    by_cases further (inl e) = (x, (0, omega arith, refl), e)
    by_cases further (inr later) = (let rest = further later in (rest.0, Contains-append_right (x ∷ []) xs rest.0 rest.1, rest.2))

pub each_set : (items : ℕ → List ℕ) (keys : List ℕ) (a : ℕ) → a < length keys → Contains (field_sets items keys) (items a)
each_set items keys a within = mapped items (range_with_len 0 (length keys)) a (subst (Contains (range_with_len 0 (length keys))) (omega arith) (in_range 0 (length keys) a within))

pub only_sets : (items : ℕ → List ℕ) (keys : List ℕ) (set : List ℕ) → Contains (field_sets items keys) set → (a : ℕ) × (a < length keys) × (items a ≡ set)
only_sets items keys set c =
    let at = mapped_from items (range_with_len 0 (length keys)) set c in
    let place = out_of_range 0 (length keys) at.0 at.1 in
    (at.0, omega (arith, place.1, place.2), at.2)

pub map_more : {A B : Type 0} (f : A → B) (xs : List A) (x : A) → map f (xs ++ x ∷ []) ≡ map f xs ++ f x ∷ []
map_more f [] x = refl
map_more f (y ∷ xs) x = ap (λ l. f y ∷ l) (map_more f xs x)

-- no bucket has a field
pub all_empty : (count : ℕ) → AreEmpty (no_buckets count)
all_empty zero k bucket is = absurd cc
all_empty (suc count) k bucket is = by_place (no_buckets count) (all_empty count) k is
  where
    by_place : (made : List (List ℕ)) → AreEmpty made → (k : ℕ) → slice_get (made ++ [] ∷ []) k ≡ Some bucket → bucket ≡ []
    by_place [] empty zero is = let e : Some [] ≡ Some bucket = is in cc
    by_place [] empty (suc k) is = absurd cc
    by_place (b ∷ made) empty zero is = empty zero bucket is
    by_place (b ∷ made) empty (suc k) is = by_place made (λ j c at. empty (suc j) c at) k is

pub as_many_buckets : (count : ℕ) → length (no_buckets count) ≡ count
as_many_buckets zero = refl
as_many_buckets (suc count) = length-append (no_buckets count) ([] ∷ []) ∙ omega (arith, as_many_buckets count)

pub all_unmarked : (count : ℕ) → AreUnmarked (replicate count 0)
all_unmarked zero v x is = absurd cc
all_unmarked (suc count) zero x is = let e : Some 0 ≡ Some x = is in cc
all_unmarked (suc count) (suc v) x is = all_unmarked count v x is
