-- Where no name comes twice in one list, none does in another of the same names.
use Rattle.std.proofs.Common.{◌≡◌, ℕ, Bool, true, false, cond, if◌then◌else◌, Option, Some, None, is_some, List, [], ◌∷◌, ◌++◌, refl, sym, ap, ◌∙◌}
use Rattle.std.specs.Map.{lookup}
use Rattle.std.specs.Option.{option_map_or}
use Rattle.std.specs.Str.{bytes_eq}
use Rattle.gql_ast_base.specs.Names.{Named}
use Rattle.gql_diag_messages.specs.declared.rule.Rule.{Rule}
use Rattle.gql_rules_values.specs.Seconds.{Seen, with_seen, second, second_here, seconds_after, seconds}
use Rattle.gql_rules_values.specs.UniqueInputValue.{each}
use Rattle.gql_client_schema_laws.specs.Pairs.{Paired}
use Rattle.gql_client_schema_laws.proofs.Pairs.{empty_left, empty_right, pairs_more}
use Rattle.gql_source.specs.Span.{Span}

abbrev SameKey : List ℕ × Option Span → List ℕ × Option Span → Type 0
SameKey one other = one.0 ≡ other.0

seen_alike : (k : List ℕ) (seen again : Seen) → Paired SameKey seen again → is_some (lookup (bytes_eq k) seen) ≡ is_some (lookup (bytes_eq k) again)
seen_alike k [] [] pairs = refl
seen_alike k (s ∷ seen) (t ∷ again) pairs = by_test (bytes_eq k s.0) (bytes_eq k t.0) (ap (bytes_eq k) pairs.0) (seen_alike k seen again pairs.1)
  where
    by_test : (b c : Bool) → b ≡ c → is_some (lookup (bytes_eq k) seen) ≡ is_some (lookup (bytes_eq k) again)
        → is_some (cond b (Some s.1) (lookup (bytes_eq k) seen)) ≡ is_some (cond c (Some t.1) (lookup (bytes_eq k) again))
    by_test true true same later = refl
    by_test false false same later = later
    by_test true false same later = absurd cc
    by_test false true same later = absurd cc
seen_alike k [] (t ∷ again) pairs = absurd pairs
seen_alike k (s ∷ seen) [] pairs = absurd pairs

module _ {X Y : Type 0} (name_of : X → Named) (again_of : Y → Named) (place_of : X → Option Span) (place_again : Y → Option Span) (rule other : Rule) where
  abbrev pub SameNames : X → Y → Type 0
  SameNames x y = (name_of x).text ≡ (again_of y).text

  unseen : (x : X) (o : Option (Option Span)) → option_map_or (second name_of place_of each rule x) o [] ≡ [] → is_some o ≡ false
  unseen x None none = refl
  unseen x (Some first) none = absurd cc

  not_told : (y : Y) (o : Option (Option Span)) → is_some o ≡ false → option_map_or (second again_of place_again each other y) o [] ≡ []
  not_told y None none = refl
  not_told y (Some first) none = absurd cc

  after_alike : (xs : List X) (ys : List Y) (seen again : Seen) → Paired SameNames xs ys → Paired SameKey seen again
      → seconds_after name_of place_of each rule seen xs ≡ [] → seconds_after again_of place_again each other again ys ≡ []
  after_alike [] [] seen again pairs keys none = refl
  after_alike (x ∷ xs) (y ∷ ys) seen again pairs keys none =
      let one : is_some (lookup (bytes_eq (name_of x).text) seen) ≡ false =
      unseen x (lookup (bytes_eq (name_of x).text) seen) (empty_left (second_here name_of place_of each rule seen x) (seconds_after name_of place_of each rule (with_seen name_of place_of seen x) xs) none) in
      let two : is_some (lookup (bytes_eq (again_of y).text) again) ≡ false =
      ap (λ n. is_some (lookup (bytes_eq n) again)) (sym pairs.0) ∙ sym (seen_alike (name_of x).text seen again keys) ∙ one in
      let later : seconds_after name_of place_of each rule (with_seen name_of place_of seen x) xs ≡ [] =
      empty_right (second_here name_of place_of each rule seen x) (seconds_after name_of place_of each rule (with_seen name_of place_of seen x) xs) none in
      let more : Paired SameKey (seen ++ ((name_of x).text, place_of x) ∷ []) (again ++ ((again_of y).text, place_again y) ∷ []) =
      pairs_more SameKey seen again ((name_of x).text, place_of x) ((again_of y).text, place_again y) keys pairs.0 in
      let first : seconds_after name_of place_of each rule (seen ++ ((name_of x).text, place_of x) ∷ []) xs ≡ [] =
      sym (ap (λ b. seconds_after name_of place_of each rule (if b then seen else seen ++ ((name_of x).text, place_of x) ∷ []) xs) one) ∙ later in
      ap (λ l. l ++ seconds_after again_of place_again each other (with_seen again_of place_again again y) ys) (not_told y (lookup (bytes_eq (again_of y).text) again) two)
      ∙ ap (λ b. seconds_after again_of place_again each other (if b then again else again ++ ((again_of y).text, place_again y) ∷ []) ys) two
      ∙ after_alike xs ys (seen ++ ((name_of x).text, place_of x) ∷ []) (again ++ ((again_of y).text, place_again y) ∷ []) pairs.1 more first
  after_alike [] (y ∷ ys) seen again pairs keys none = absurd pairs
  after_alike (x ∷ xs) [] seen again pairs keys none = absurd pairs

  pub seconds_alike : (xs : List X) (ys : List Y) → Paired SameNames xs ys → seconds name_of place_of each rule xs ≡ [] → seconds again_of place_again each other ys ≡ []
  seconds_alike xs ys pairs none = after_alike xs ys [] [] pairs tt none
