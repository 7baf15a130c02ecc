-- Lists that grow while looks are counted.
use Rattle.std.proofs.Common.{arith, ◌≡◌, ◌+◌, ◌*◌, inl, inr, ℕ, List, length, ap, subst}
use Rattle.gql_collect.specs.Lists.{IsOneOf}
use Rattle.gql_collect.specs.bridge.Ways.{Grows}

module _ {W : Type 0} (most : ℕ) where
  pub grows-none : (before after : ℕ) (old new : ℕ → List W) (Holds : W → Type 0) → after ≡ before → ((n : ℕ) → new n ≡ old n) → Grows most before after old new Holds
  grows-none before after old new Holds same are = record {
    rises = omega (arith, same);
    levels = 0;
    looks = λ n enough. omega (arith, same, ap (λ l. length l * most) (are n));
    holds = λ n v is. inl (subst (IsOneOf v) (are n) is);
  }

  pub grows-then : (before between after : ℕ) (old mid new : ℕ → List W) (Holds : W → Type 0) → Grows most before between old mid Holds → Grows most between after mid new Holds
      → Grows most before after old new Holds
  grows-then before between after old mid new Holds first second = record {
    rises = omega (arith, first.rises, second.rises);
    levels = first.levels + second.levels;
    looks = λ n enough. omega (arith, first.looks n (omega (arith, enough)), second.looks n (omega (arith, enough)));
    holds = λ n v is. elim (second.holds n v is) [ inl was ↦ first.holds n v was | inr holds ↦ inr holds ];
  }

  pub grows-as : (before after : ℕ) (old new : ℕ → List W) (Holds Known : W → Type 0) → ((v : W) → Holds v → Known v) → Grows most before after old new Holds
      → Grows most before after old new Known
  grows-as before after old new Holds Known known grows = record {
    rises = grows.rises;
    levels = grows.levels;
    looks = grows.looks;
    holds = λ n v is. elim (grows.holds n v is) [ inl was ↦ inl was | inr holds ↦ inr (known v holds) ];
  }
