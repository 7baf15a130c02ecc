-- Steps in a row, of which the first that fails is told.
use Rattle.std.proofs.Common.{◌≡◌, ◌⊎◌, inl, inr, sym, subst}

-- a step fails with an error, or it passes with a thing and a later step fails
abbrev pub First : {A E : Type 0} → (A → Type 0) → (E → Type 0) → (A → E → Type 0) → E → Type 0
First {A} Pass Fails Later e = Fails e ⊎ ((a : A) × Pass a × Later a e)

module _ {A E : Type 0} (Pass : A → Type 0) (Fails : E → Type 0) (Later : A → E → Type 0) (one : (a b : A) → Pass a → Pass b → a ≡ b)
    (apart : (a : A) (e : E) → Pass a → Fails e → ⊥) where
  -- what fails first fails with one error
  pub one_error : (Same : E → E → Type 0) → ((e f : E) → Fails e → Fails f → Same e f) → ((a : A) (e f : E) → Later a e → Later a f → Same e f)
      → (e f : E) → First Pass Fails Later e → First Pass Fails Later f → Same e f
  one_error Same same later e f (inl h) (inl k) = same e f h k
  one_error Same same later e f (inl h) (inr k) = absurd (apart k.0 e k.1 h)
  one_error Same same later e f (inr h) (inl k) = absurd (apart h.0 f h.1 k)
  one_error Same same later e f (inr h) (inr k) = later h.0 e f h.2 (subst (λ (a : A). Later a f) (sym (one h.0 k.0 h.1 k.1)) k.2)

  -- where all pass, none fails
  pub none_fails : (a : A) → Pass a → ((e : E) → Later a e → ⊥) → (e : E) → First Pass Fails Later e → ⊥
  none_fails a p none e (inl h) = apart a e p h
  none_fails a p none e (inr h) = none e (subst (λ (b : A). Later b e) (one h.0 a h.1 p) h.2)
