-- Two words ask for a limit.
use Rattle.std.proofs.Common.{◌≡◌, ◌<◌, ◌≤◌, ℕ, List, [], ◌∷◌, length, get_or, map, Option, Some, MatchOption, ◌∙◌, sym, ap, subst, arith}
use Rattle.gql_engine.specs.DecimalWord.{IsDecimalWord, IsNoDecimalWord}
use Rattle.gql_cost.specs.Words.{Asks, by_numbers}
use Rattle.gql_cost.specs.declared.cost_limit.CostLimit.{CostLimit}

pub two-words : {A : Type 0} (f : A → List ℕ) (xs : List A) (x y : A) → 2 ≤ length xs → length xs < 3 → x ≡ get_or xs 0 x → y ≡ get_or xs 1 y
    → map f xs ≡ f x ∷ f y ∷ []
two-words f [] x y least below is also = absurd (omega (arith, least))
two-words f (a ∷ []) x y least below is also = absurd (omega (arith, least))
two-words {A} f (a ∷ b ∷ []) x y least below is also = ap (λ (z : A). f z ∷ f b ∷ []) (sym is) ∙ ap (λ (z : A). f x ∷ f z ∷ []) (sym also)
two-words f (a ∷ b ∷ c ∷ cs) x y least below is also = absurd (omega (arith, below))

pub a-number : (word : List ℕ) (found : Option ℕ) (n : ℕ) → found ≡ Some n → MatchOption found (IsNoDecimalWord word) (IsDecimalWord word) → IsDecimalWord word n
a-number word found n is h = subst (λ (x : Option ℕ). MatchOption x (IsNoDecimalWord word) (IsDecimalWord word)) is h

pub asks-two : (words : List (List ℕ)) (first second : List ℕ) (limit : CostLimit) → words ≡ first ∷ second ∷ [] → IsDecimalWord first limit.items
    → IsDecimalWord second limit.nodes → Asks words limit
asks-two words first second limit are items nodes = subst (λ (ws : List (List ℕ)). Asks ws limit) (sym are) (by_numbers first second limit items nodes)
