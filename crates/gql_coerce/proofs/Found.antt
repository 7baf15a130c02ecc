-- Look-ups by name after a pair was inserted.
use Rattle.std.proofs.Common.{◌≡◌, ℕ, List, [], ◌∷◌, Option, Some, Bool, true, false, cond, refl, sym, ap, ◌∙◌}
use Rattle.std.specs.Borrow.{Bor}
use Rattle.std.specs.Cmp.{IsEquivalence}
use Rattle.std.specs.Cmp.Lexicographic.{nat_list_eq_equiv}
use Rattle.std.specs.Map.{lookup}
use Rattle.std.specs.Option.{option_copied}
use Rattle.std.specs.Str.{bytes_eq}
use Rattle.indexmap.specs.IndexMap.{insert_entry}

module _ {V : Type 0} where
  once : (b : Bool) (x y z : Option V) → cond b x (cond b y z) ≡ cond b x z
  once true x y z = refl
  once false x y z = refl

  apart : (a b : Bool) (x y z : Option V) → (a ≡ true → b ≡ true → ⊥) → cond a x (cond b y z) ≡ cond b y (cond a x z)
  apart true true x y z never = absurd (never refl refl)
  apart true false x y z never = refl
  apart false b x y z never = refl

module _ {K V : Type 0} {eq : K → K → Bool} (laws : IsEquivalence eq) (k : K) (v : V) (q : K) where
  by_case : (c : Bool) (e : K × V) (es : List (K × V)) → eq k e.0 ≡ c → lookup (eq q) (insert_entry eq es k v) ≡ cond (eq q k) (Some v) (lookup (eq q) es)
      → lookup (eq q) (cond c ((e.0, v) ∷ es) (e ∷ insert_entry eq es k v)) ≡ cond (eq q k) (Some v) (cond (eq q e.0) (Some e.1) (lookup (eq q) es))
  by_case true e es is rest =
      let tests : eq q e.0 ≡ eq q k = laws.symm q e.0 ∙ sym (laws.congr k e.0 q is) ∙ laws.symm k q in
      sym (once (eq q e.0) (Some v) (Some e.1) (lookup (eq q) es)) ∙ ap (λ b. cond b (Some v) (cond (eq q e.0) (Some e.1) (lookup (eq q) es))) tests
  by_case false e es is rest =
      let never : eq q k ≡ true → eq q e.0 ≡ true → ⊥ = λ a b. let both = laws.congr q k e.0 a in cc in
      ap (cond (eq q e.0) (Some e.1)) rest ∙ sym (apart (eq q k) (eq q e.0) (Some v) (Some e.1) (lookup (eq q) es) never)

  pub lookup-inserted : (es : List (K × V)) → lookup (eq q) (insert_entry eq es k v) ≡ cond (eq q k) (Some v) (lookup (eq q) es)
  lookup-inserted [] = refl
  lookup-inserted (e ∷ es) = by_case (eq k e.0) e es refl (lookup-inserted es)

copied_choice : {A : Type 0} (b : Bool) (x : Bor A) (found : Option (Bor A)) → option_copied (cond b (Some x) found) ≡ cond b (Some x.now) (option_copied found)
copied_choice true x found = refl
copied_choice false x found = refl

-- what is found of a name, after a reference was put at another or the same
pub found-inserted : {A : Type 0} (es : List (List ℕ × Bor A)) (key : List ℕ) (x : Bor A) (name : List ℕ)
    → option_copied (lookup (bytes_eq name) (insert_entry bytes_eq es key x)) ≡ cond (bytes_eq name key) (Some x.now) (option_copied (lookup (bytes_eq name) es))
found-inserted es key x name =
    ap option_copied (lookup-inserted nat_list_eq_equiv key x name es) ∙ copied_choice (bytes_eq name key) x (lookup (bytes_eq name) es)
