-- Things in pairs, and what is told of them.
use Rattle.std.proofs.Common.{◌≡◌, ℕ, zero, suc, ◌+◌, nat_lt, Bool, true, false, not, ◌||◌, cond, if◌then◌else◌, Option, Some, None, is_some, List, [], ◌∷◌, ◌++◌, length, map, refl, sym, ap, ◌∙◌}
use Rattle.std.specs.List.{AllByRecursion, slice_get, find, position, position_or_len, list_any, flat_map}
use Rattle.std.specs.Option.{option_map_or}
use Rattle.gql_diag_messages.specs.declared.diagnostic_data.DiagnosticData.{DiagnosticData}
use Rattle.gql_rules_values.specs.Faults.{only_if}
use Rattle.gql_client_schema_laws.specs.Pairs.{Paired}
use Rattle.gql_client_schema_laws.specs.bridge.Pairs.{Both}

-- ---- nothing is told

pub empty_left : {X : Type 0} (xs ys : List X) → xs ++ ys ≡ [] → xs ≡ []
empty_left [] ys is = refl
empty_left (x ∷ xs) ys is = absurd cc

pub empty_right : {X : Type 0} (xs ys : List X) → xs ++ ys ≡ [] → ys ≡ []
empty_right [] ys is = is
empty_right (x ∷ xs) ys is = absurd cc

pub joined_alike : {X : Type 0} (a b c d : List X) → (a ≡ [] → c ≡ []) → (b ≡ [] → d ≡ []) → a ++ b ≡ [] → c ++ d ≡ []
joined_alike a b c d one two none = ap (λ l. l ++ d) (one (empty_left a b none)) ∙ two (empty_right a b none)

pub only_alike : (b c : Bool) (told again : DiagnosticData) → b ≡ c → only_if b told ≡ [] → only_if c again ≡ []
only_alike true c told again same none = absurd cc
only_alike false c told again same none = ap (λ b. only_if b again) (sym same)

pub if_alike : {X : Type 0} (b c : Bool) (xs ys : List X) → b ≡ c → (xs ≡ [] → ys ≡ []) → (if b then xs else []) ≡ [] → (if c then ys else []) ≡ []
if_alike true true xs ys same h none = h none
if_alike true false xs ys same h none = refl
if_alike false true xs ys same h none = absurd cc
if_alike false false xs ys same h none = refl

-- ---- values that are there or not

module _ {X Y : Type 0} (R : X → Y → Type 0) where
  pub told_alike : {Z : Type 0} (f : X → List Z) (g : Y → List Z) (a b : List Z) → ((x : X) (y : Y) → R x y → f x ≡ [] → g y ≡ []) → (a ≡ [] → b ≡ [])
      → (o : Option X) (p : Option Y) → Both R o p → option_map_or f o a ≡ [] → option_map_or g p b ≡ []
  told_alike f g a b h d None None both none = d none
  told_alike f g a b h d (Some x) (Some y) both none = h x y both none
  told_alike f g a b h d None (Some y) both none = absurd both
  told_alike f g a b h d (Some x) None both none = absurd both

  pub value_alike : {Z : Type 0} (f : X → Z) (g : Y → Z) (d : Z) → ((x : X) (y : Y) → R x y → f x ≡ g y)
      → (o : Option X) (p : Option Y) → Both R o p → option_map_or f o d ≡ option_map_or g p d
  value_alike f g d h None None both = refl
  value_alike f g d h (Some x) (Some y) both = h x y both
  value_alike f g d h None (Some y) both = absurd both
  value_alike f g d h (Some x) None both = absurd both

  pub some_alike : (o : Option X) (p : Option Y) → Both R o p → is_some o ≡ is_some p
  some_alike None None both = refl
  some_alike (Some x) (Some y) both = refl
  some_alike None (Some y) both = absurd both
  some_alike (Some x) None both = absurd both

  -- ---- lists

  pub flat_alike : {Z : Type 0} (f : X → List Z) (g : Y → List Z) → ((x : X) (y : Y) → R x y → f x ≡ [] → g y ≡ [])
      → (xs : List X) (ys : List Y) → Paired R xs ys → flat_map f xs ≡ [] → flat_map g ys ≡ []
  flat_alike f g h [] [] pairs none = refl
  flat_alike f g h (x ∷ xs) (y ∷ ys) pairs none =
      joined_alike (f x) (flat_map f xs) (g y) (flat_map g ys) (h x y pairs.0) (flat_alike f g h xs ys pairs.1) none
  flat_alike f g h [] (y ∷ ys) pairs none = absurd pairs
  flat_alike f g h (x ∷ xs) [] pairs none = absurd pairs

  pub flat_same : {Z : Type 0} (f : X → List Z) (g : Y → List Z) → ((x : X) (y : Y) → R x y → f x ≡ g y)
      → (xs : List X) (ys : List Y) → Paired R xs ys → flat_map f xs ≡ flat_map g ys
  flat_same f g h [] [] pairs = refl
  flat_same f g h (x ∷ xs) (y ∷ ys) pairs = λ i. h x y pairs.0 i ++ flat_same f g h xs ys pairs.1 i
  flat_same f g h [] (y ∷ ys) pairs = absurd pairs
  flat_same f g h (x ∷ xs) [] pairs = absurd pairs

  pub map_same : {Z : Type 0} (f : X → Z) (g : Y → Z) → ((x : X) (y : Y) → R x y → f x ≡ g y)
      → (xs : List X) (ys : List Y) → Paired R xs ys → map f xs ≡ map g ys
  map_same f g h [] [] pairs = refl
  map_same f g h (x ∷ xs) (y ∷ ys) pairs = λ i. h x y pairs.0 i ∷ map_same f g h xs ys pairs.1 i
  map_same f g h [] (y ∷ ys) pairs = absurd pairs
  map_same f g h (x ∷ xs) [] pairs = absurd pairs

  pub any_alike : (p : X → Bool) (q : Y → Bool) → ((x : X) (y : Y) → R x y → p x ≡ q y) → (xs : List X) (ys : List Y) → Paired R xs ys
      → list_any p xs ≡ list_any q ys
  any_alike p q h [] [] pairs = refl
  any_alike p q h (x ∷ xs) (y ∷ ys) pairs = λ i. h x y pairs.0 i || any_alike p q h xs ys pairs.1 i
  any_alike p q h [] (y ∷ ys) pairs = absurd pairs
  any_alike p q h (x ∷ xs) [] pairs = absurd pairs

  pub find_alike : (p : X → Bool) (q : Y → Bool) → ((x : X) (y : Y) → R x y → p x ≡ q y) → (xs : List X) (ys : List Y) → Paired R xs ys
      → Both R (find p xs) (find q ys)
  find_alike p q h [] [] pairs = tt
  find_alike p q h (x ∷ xs) (y ∷ ys) pairs = by_test (p x) (q y) (h x y pairs.0) (find_alike p q h xs ys pairs.1)
    where
      by_test : (b c : Bool) → b ≡ c → Both R (find p xs) (find q ys) → Both R (cond b (Some x) (find p xs)) (cond c (Some y) (find q ys))
      by_test true true same later = pairs.0
      by_test false false same later = later
      by_test true false same later = absurd cc
      by_test false true same later = absurd cc
  find_alike p q h [] (y ∷ ys) pairs = absurd pairs
  find_alike p q h (x ∷ xs) [] pairs = absurd pairs

  pub length_alike : (xs : List X) (ys : List Y) → Paired R xs ys → length xs ≡ length ys
  length_alike [] [] pairs = refl
  length_alike (x ∷ xs) (y ∷ ys) pairs = let later : length xs ≡ length ys = length_alike xs ys pairs.1 in cc
  length_alike [] (y ∷ ys) pairs = absurd pairs
  length_alike (x ∷ xs) [] pairs = absurd pairs

  pub get_alike : (xs : List X) (ys : List Y) → Paired R xs ys → (k : ℕ) → Both R (slice_get xs k) (slice_get ys k)
  get_alike [] [] pairs k = tt
  get_alike (x ∷ xs) (y ∷ ys) pairs zero = pairs.0
  get_alike (x ∷ xs) (y ∷ ys) pairs (suc k) = get_alike xs ys pairs.1 k
  get_alike [] (y ∷ ys) pairs k = absurd pairs
  get_alike (x ∷ xs) [] pairs k = absurd pairs

  prefix_alike : (p : X → Bool) (q : Y → Bool) → ((x : X) (y : Y) → R x y → p x ≡ q y) → (xs : List X) (ys : List Y) → Paired R xs ys
      → position_or_len p xs ≡ position_or_len q ys
  prefix_alike p q h [] [] pairs = refl
  prefix_alike p q h (x ∷ xs) (y ∷ ys) pairs = λ i. cond (not (h x y pairs.0 i)) (1 + prefix_alike p q h xs ys pairs.1 i) 0
  prefix_alike p q h [] (y ∷ ys) pairs = absurd pairs
  prefix_alike p q h (x ∷ xs) [] pairs = absurd pairs

  pub position_alike : (p : X → Bool) (q : Y → Bool) → ((x : X) (y : Y) → R x y → p x ≡ q y) → (xs : List X) (ys : List Y) → Paired R xs ys
      → position p xs ≡ position q ys
  position_alike p q h xs ys pairs =
      let at : position_or_len p xs ≡ position_or_len q ys = prefix_alike p q h xs ys pairs in
      let long : length xs ≡ length ys = length_alike xs ys pairs in
      λ i. cond (nat_lt (at i) (long i)) (Some (at i)) None

  pub pairs_more : (xs : List X) (ys : List Y) (x : X) (y : Y) → Paired R xs ys → R x y → Paired R (xs ++ x ∷ []) (ys ++ y ∷ [])
  pairs_more [] [] x y pairs last = (last, tt)
  pairs_more (a ∷ xs) (b ∷ ys) x y pairs last = (pairs.0, pairs_more xs ys x y pairs.1 last)
  pairs_more [] (b ∷ ys) x y pairs last = absurd pairs
  pairs_more (a ∷ xs) [] x y pairs last = absurd pairs

  pub pairs_weaker : (S : X → Y → Type 0) → ((x : X) (y : Y) → R x y → S x y) → (xs : List X) (ys : List Y) → Paired R xs ys → Paired S xs ys
  pairs_weaker S h [] [] pairs = tt
  pairs_weaker S h (x ∷ xs) (y ∷ ys) pairs = (h x y pairs.0, pairs_weaker S h xs ys pairs.1)
  pairs_weaker S h [] (y ∷ ys) pairs = absurd pairs
  pairs_weaker S h (x ∷ xs) [] pairs = absurd pairs

-- ---- something holds of each item

pub all_weaker : {X : Type 0} (P Q : X → Type 0) → ((x : X) → P x → Q x) → (xs : List X) → AllByRecursion P xs → AllByRecursion Q xs
all_weaker P Q h [] all = tt
all_weaker P Q h (x ∷ xs) all = (h x all.0, all_weaker P Q h xs all.1)

pub all_append : {X : Type 0} (P : X → Type 0) (xs ys : List X) → AllByRecursion P xs → AllByRecursion P ys → AllByRecursion P (xs ++ ys)
all_append P [] ys one two = two
all_append P (x ∷ xs) ys one two = (one.0, all_append P xs ys one.1 two)

pub all_mapped : {X Y : Type 0} (P : Y → Type 0) (f : X → Y) (xs : List X) → AllByRecursion (λ x. P (f x)) xs → AllByRecursion P (map f xs)
all_mapped P f [] all = tt
all_mapped P f (x ∷ xs) all = (all.0, all_mapped P f xs all.1)

pub all_flat : {X Y : Type 0} (P : Y → Type 0) (f : X → List Y) (xs : List X) → AllByRecursion (λ x. AllByRecursion P (f x)) xs → AllByRecursion P (flat_map f xs)
all_flat P f [] all = tt
all_flat P f (x ∷ xs) all = all_append P (f x) (flat_map f xs) all.0 (all_flat P f xs all.1)
