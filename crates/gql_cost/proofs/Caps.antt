-- Numbers up to a most: sums and products of them.
use Rattle.std.proofs.Common.{arith, ◌≡◌, ℕ, zero, suc, ◌+◌, ◌*◌, ap, ◌∙◌, inl, inr, mul-le-mul_left, suc-mul}
use Rattle.std.specs.Prelude.{◌⊎◌}
use Rattle.gql_cost.specs.bridge.Walked.{IsCapped}

module _ (most : ℕ) where
  pub capped-sum : (n m a b k : ℕ) → IsCapped most n a → IsCapped most m b → IsCapped most (a + b) k → IsCapped most (n + m) k
  capped-sum n m a b k one two both = record {
    low = both.low;
    under = omega (arith, one.under, two.under, both.under);
    is = by one.is two.is both.is;
  }
    where
      by : (a ≡ n) ⊎ (a ≡ most) → (b ≡ m) ⊎ (b ≡ most) → (k ≡ a + b) ⊎ (k ≡ most) → (k ≡ n + m) ⊎ (k ≡ most)
      by x y (inr z) = inr z
      by (inl x) (inl y) (inl z) = inl (omega (arith, x, y, z))
      by (inr x) y (inl z) = inr (omega (arith, x, z, both.low))
      by (inl x) (inr y) (inl z) = inr (omega (arith, y, z, both.low))

  -- as many as the items of a list, and one more
  pub capped-items : (items n a k : ℕ) → IsCapped most n a → IsCapped most (suc (items * a)) k → IsCapped most (suc (items * n)) k
  capped-items items n a k one all = record {
    low = all.low;
    under = omega (arith, all.under, mul-le-mul_left items one.under);
    is = by items one.is all.is;
  }
    where
      by : (i : ℕ) → (a ≡ n) ⊎ (a ≡ most) → (k ≡ suc (i * a)) ⊎ (k ≡ most) → (k ≡ suc (i * n)) ⊎ (k ≡ most)
      by i x (inr z) = inr z
      by i (inl x) (inl z) = inl (z ∙ ap (λ b. suc (i * b)) x)
      by zero (inr x) (inl z) = inl (omega (arith, z))
      by (suc i) (inr x) (inl z) = inr (omega (arith, x, z, suc-mul i a, all.low))
