-- Keys that are left, which no member so far has.
use Rattle.std.proofs.Common.{◌≡◌, ℕ, Bool, true, false, List, [], ◌∷◌, ◌++◌, None, position, refl, sym, ap, ◌∙◌, subst}
use Rattle.std.specs.List.{AllByRecursion}
use Rattle.std.specs.Map.{keys_of}
use Rattle.std.specs.Str.{bytes_eq}
use Rattle.std.proofs.lemmas.Slice.Eq.{bytes_eq-Decides}
use Rattle.indexmap.proofs.MapLemmas.{index-absent}
use Rattle.gql_resolvers.specs.Execute.{Member}
use Rattle.gql_resolvers.specs.World.{World, key_of, DistinctKeys}

module _ {X T G S : Type 0} (w : World X T G S) where
  -- no member has its key
  abbrev IsNew : List Member → G → Type 0
  IsNew members g = AllByRecursion (λ k. bytes_eq (key_of w g) k ≡ false) (keys_of members)

  pub position-new : (members : List Member) (g : G) → IsNew members g → position (bytes_eq (key_of w g)) (keys_of members) ≡ None
  position-new members g new = index-absent (bytes_eq (key_of w g)) members new

  -- those that are left have keys of their own, which no member has
  pub record AreNew (members : List Member) (left : List G) : Type 0 where
    pub apart : DistinctKeys w left
    pub absent : AllByRecursion (IsNew members) left

  all-new : (left : List G) → AllByRecursion (IsNew []) left
  all-new [] = tt
  all-new (g ∷ gs) = (tt, all-new gs)

  pub new-begun : (left : List G) → DistinctKeys w left → AreNew [] left
  new-begun left apart = record { apart = apart; absent = all-new left }

  unlike : (j k : List ℕ) → ¬ (j ≡ k) → bytes_eq k j ≡ false
  unlike j k other = by (bytes_eq k j) refl
    where
      by : (b : Bool) → bytes_eq k j ≡ b → b ≡ false
      by true is = absurd (other (sym ((bytes_eq-Decides k j).0 is)))
      by false is = refl

  one-more : (k : List ℕ) (members : List Member) (m : Member) → AllByRecursion (λ j. bytes_eq k j ≡ false) (keys_of members) → bytes_eq k m.0 ≡ false
      → AllByRecursion (λ j. bytes_eq k j ≡ false) (keys_of (members ++ m ∷ []))
  one-more k [] m absent other = (other, tt)
  one-more k (n ∷ ns) m absent other = (absent.0, one-more k ns m absent.1 other)

  still-new : (members : List Member) (m : Member) (g : G) (gs : List G) → m.0 ≡ key_of w g → AllByRecursion (λ h. ¬ (key_of w g ≡ key_of w h)) gs
      → AllByRecursion (IsNew members) gs → AllByRecursion (IsNew (members ++ m ∷ [])) gs
  still-new members m g [] is apart absent = tt
  still-new members m g (h ∷ hs) is apart absent = (
    one-more (key_of w h) members m absent.0 (ap (bytes_eq (key_of w h)) is ∙ unlike (key_of w g) (key_of w h) apart.0),
    still-new members m g hs is apart.1 absent.1,
  )

  -- a member of the first key more
  pub new-more : (members more : List Member) (m : Member) (g : G) (gs : List G) → m.0 ≡ key_of w g → more ≡ members ++ m ∷ [] → AreNew members (g ∷ gs) → AreNew more gs
  new-more members more m g gs is added new = record {
    apart = new.apart.1;
    absent = subst (λ l. AllByRecursion (IsNew l) gs) (sym added) (still-new members m g gs is new.apart.0 new.absent.1);
  }

  -- the first is left out
  pub new-less : (members : List Member) (g : G) (gs : List G) → AreNew members (g ∷ gs) → AreNew members gs
  new-less members g gs new = record { apart = new.apart.1; absent = new.absent.1 }

  -- the key of the first that is left
  pub key-free : (members : List Member) (left rest : List G) (g : G) (key : List ℕ) → left ≡ g ∷ rest → AreNew members left → key ≡ key_of w g
      → position (bytes_eq key) (keys_of members) ≡ None
  key-free members left rest g key is new named =
      let here : AreNew members (g ∷ rest) = subst (AreNew members) is new in
      ap (λ k. position (bytes_eq k) (keys_of members)) named ∙ position-new members g here.absent.0
