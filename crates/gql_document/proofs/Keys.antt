-- Keys that are lent, and their texts.
use Rattle.std.proofs.Common.{◌≡◌, ℕ, ◌||◌, not, List, [], ◌∷◌, refl, ap}
use Rattle.std.specs.Borrow.{Bor}
use Rattle.std.specs.List.{list_any}
use Rattle.std.specs.Str.{bytes_eq}
use Rattle.gql_document.specs.bridge.SubscriptionUsesMultipleFields.{texts_of}

pub any_texts : (key : List ℕ) (others : List (Bor (List ℕ)))
    → list_any (λ (other : Bor (List ℕ)). not (bytes_eq key other.now)) others ≡ list_any (λ other. not (bytes_eq key other)) (texts_of others)
any_texts key [] = refl
any_texts key (other ∷ others) = ap (λ b. not (bytes_eq key other.now) || b) (any_texts key others)
