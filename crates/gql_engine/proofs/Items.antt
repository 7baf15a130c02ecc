-- One more item.
use Rattle.std.proofs.Common.{◌≡◌, ℕ, suc, List, ◌++◌, ◌∙◌, ap, subst, sym, append_assoc}
use Rattle.gql_engine.specs.SelfTest.{comma_before, item, items}

pub one_more : (n next : ℕ) → next ≡ suc n → (start before comma after : List ℕ) → before ≡ start ++ items n → comma ≡ before ++ comma_before n
    → after ≡ comma ++ item n → after ≡ start ++ items next
one_more n next is start before comma after h k m =
    subst (λ (x : ℕ). after ≡ start ++ items x) (sym is)
    (m ∙ ap (λ (x : List ℕ). x ++ item n) (k ∙ ap (λ (x : List ℕ). x ++ comma_before n) h) ∙ simp append_assoc)
