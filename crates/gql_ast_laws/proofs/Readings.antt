-- Words read by the factored grammar, where the next word decides.
use Rattle.std.proofs.Common.{◌≡◌, ℕ, zero, suc, inl, inr, ◌⊎◌, Bool, true, false, cond, Option, Some, None, List, [], ◌∷◌, refl}
use Rattle.gql_grammar.specs.declared.word.Word.{Word}
use Rattle.gql_grammar.specs.declared.symbol.Symbol.{Symbol}
use Rattle.gql_grammar.specs.declared.symbol.Symbol.TheVariants.{Token, One, Optional, Repeated, Eager, Wrap, Close}
use Rattle.gql_grammar.specs.declared.rule.Rule.{Rule}
use Rattle.gql_grammar.specs.declared.rule.Rule.TheVariants.{Document}
use Rattle.gql_grammar.specs.declared.syntax_kind.SyntaxKind.{SyntaxKind}
use Rattle.gql_grammar.specs.Word.{takes}
use Rattle.gql_grammar.specs.Rule.{kind_of}
use Rattle.gql_grammar.specs.Factored.{factored}
use Rattle.gql_grammar.specs.Row.{Row, nothing, node, with_leaf, with_node}
use Rattle.gql_grammar.specs.Reads.{Reads, done, token, tree, group, skip, take, stop, again, leave, enter, wrap, is_brace_next, IsOneOf, here, there}
use Rattle.gql_grammar.specs.Starts.{starts, begins, chosen, chosen_way}
use Rattle.gql_ast_laws.proofs.Found.{and_then, holds, fails}

-- ---- the way that a word chooses is one of the rule's

some_in : (b : Bool) (ways : List (List Symbol)) (one other : List Symbol) → IsOneOf one ways → IsOneOf other ways → IsOneOf (cond b one other) ways
some_in true ways one other first second = first
some_in false ways one other first second = second

chosen-in : (a : List Symbol) (ways : List (List Symbol)) (w : Word) → IsOneOf (chosen (a ∷ ways) w) (a ∷ ways)
chosen-in a [] w = here
chosen-in a (next ∷ ways) w = some_in (begins a w) (a ∷ next ∷ ways) a (chosen (next ∷ ways) w) here (there (chosen-in next ways w))

abbrev has_ways : List (List Symbol) → Bool
has_ways [] = false
has_ways (a ∷ ways) = true

ways_exist : (r : Rule) → has_ways (factored r) ≡ true
ways_exist Document = refl
ways_exist _ = refl

of_ways : (ways : List (List Symbol)) (w : Word) → has_ways ways ≡ true → IsOneOf (chosen ways w) ways
of_ways [] w some = absurd cc
of_ways (a ∷ ways) w some = chosen-in a ways w

pub way-in : (r : Rule) (w : Word) → IsOneOf (chosen_way r w) (factored r)
way-in r w = of_ways (factored r) w (ways_exist r)

-- ---- reading

abbrev pub ReadAs : List Symbol → Row → List Word → Type 0
ReadAs ss x ws = (y : Row) × (vs : List Word) × Reads factored ss x ws y vs

abbrev pub node_or_group : (o : Option SyntaxKind) → ((k : SyntaxKind) × (o ≡ Some k)) ⊎ (o ≡ None)
node_or_group None = inr refl
node_or_group (Some k) = inl (k, refl)

-- of at most so many steps, one below the other
abbrev pub read : ℕ → (ss : List Symbol) (x : Row) (ws : List Word) → Option (ReadAs ss x ws)
read zero ss x ws = None
read (suc n) [] x ws = Some (x, ws, done)
read (suc n) (Token t ∷ ss) x [] = None
read (suc n) (Token t ∷ ss) x (w ∷ ws) =
    and_then (holds (takes t w)) (λ h. and_then (read n ss (with_leaf x w) ws) (λ f. Some (f.0, f.1, token t w h f.2)))
read (suc n) (One r ∷ ss) x [] = None
read (suc n) (One r ∷ ss) x (w ∷ ws) =
    elim (node_or_group (kind_of r)) [
      | inl k ↦ and_then (read n (chosen_way r w) nothing (w ∷ ws)) (λ f. and_then (read n ss (with_node x k.0 f.0) f.1) (λ g.
          Some (g.0, g.1, tree r k.0 (chosen_way r w) f.0 k.1 (way-in r w) f.2 g.2)))
      | inr none ↦ and_then (read n (chosen_way r w) x (w ∷ ws)) (λ f. and_then (read n ss f.0 f.1) (λ g.
          Some (g.0, g.1, group r (chosen_way r w) none (way-in r w) f.2 g.2)))
    ]
read (suc n) (Optional r ∷ ss) x [] = and_then (read n ss x []) (λ g. Some (g.0, g.1, skip r g.2))
read (suc n) (Optional r ∷ ss) x (w ∷ ws) = elim (starts r w) [
  | true ↦ and_then (read n (One r ∷ []) x (w ∷ ws)) (λ f. and_then (read n ss f.0 f.1) (λ g. Some (g.0, g.1, take r f.2 g.2)))
  | false ↦ and_then (read n ss x (w ∷ ws)) (λ g. Some (g.0, g.1, skip r g.2))
]
read (suc n) (Repeated r ∷ ss) x [] = and_then (read n ss x []) (λ g. Some (g.0, g.1, stop r g.2))
read (suc n) (Repeated r ∷ ss) x (w ∷ ws) = elim (starts r w) [
  | true ↦ and_then (read n (One r ∷ []) x (w ∷ ws)) (λ f. and_then (read n (Repeated r ∷ ss) f.0 f.1) (λ g. Some (g.0, g.1, again r f.2 g.2)))
  | false ↦ and_then (read n ss x (w ∷ ws)) (λ g. Some (g.0, g.1, stop r g.2))
]
read (suc n) (Eager r ∷ ss) x [] = and_then (read n ss x []) (λ g. Some (g.0, g.1, leave r refl g.2))
read (suc n) (Eager r ∷ ss) x (w ∷ ws) = elim (starts r w) [
  | true ↦ and_then (read n (One r ∷ []) x (w ∷ ws)) (λ f. and_then (read n ss f.0 f.1) (λ g. Some (g.0, g.1, enter r f.2 g.2)))
  | false ↦ and_then (fails (is_brace_next (w ∷ ws))) (λ h. and_then (read n ss x (w ∷ ws)) (λ g. Some (g.0, g.1, leave r h g.2)))
]
read (suc n) (Wrap k ∷ ss) x ws = and_then (read n ss (node k x nothing) ws) (λ g. Some (g.0, g.1, wrap k g.2))
read (suc n) (Close k ∷ ss) x ws = None
