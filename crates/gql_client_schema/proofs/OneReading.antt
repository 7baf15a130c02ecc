-- A reading comes to one thing at most.
use Rattle.std.proofs.Common.{◌≡◌, inl, inr, ℕ, List, sym, ◌∙◌, subst}
use Rattle.gql_client_schema.specs.Reading.{Steps, Reading, gives, breaks, asks, Gives, Breaks}
use Rattle.gql_client_schema.proofs.OneConstant.{OneConstant}

module _ {A : Type 0} (one : OneConstant) where
  pub one_gives : (m : Reading A) (a b : A) → Gives m a → Gives m b → a ≡ b
  one_gives (gives x) a b h k = sym h ∙ k
  one_gives (breaks p) a b h k = absurd h
  one_gives (asks t p rest) a b h k =
      one_gives (rest k.0) a b (subst (λ (q : List ℕ). Gives (rest q) a) (one t h.0 k.0 h.1 k.1) h.2) k.2

  pub not_both : (m : Reading A) (a : A) (p : Steps) → Gives m a → Breaks m p → ⊥
  not_both (gives x) a p h k = k
  not_both (breaks q) a p h k = h
  not_both (asks t q rest) a p h (inl k) = k.0 h.0 h.1
  not_both (asks t q rest) a p h (inr k) =
      not_both (rest k.0) a p (subst (λ (q : List ℕ). Gives (rest q) a) (one t h.0 k.0 h.1 k.1) h.2) k.2

  pub one_breaks : (m : Reading A) (p q : Steps) → Breaks m p → Breaks m q → p ≡ q
  one_breaks (gives x) p q h k = absurd h
  one_breaks (breaks s) p q h k = sym h ∙ k
  one_breaks (asks t s rest) p q (inl h) (inl k) = sym h.1 ∙ k.1
  one_breaks (asks t s rest) p q (inl h) (inr k) = absurd (h.0 k.0 k.1)
  one_breaks (asks t s rest) p q (inr h) (inl k) = absurd (k.0 h.0 h.1)
  one_breaks (asks t s rest) p q (inr h) (inr k) =
      one_breaks (rest k.0) p q (subst (λ (u : List ℕ). Breaks (rest u) p) (one t h.0 k.0 h.1 k.1) h.2) k.2
