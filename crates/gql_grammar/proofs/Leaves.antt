-- The leaves of what is read are the words that were read.
use Rattle.std.proofs.Common.{◌≡◌, List, [], ◌∷◌, ◌++◌, refl, sym, ◌∙◌, ap, append_assoc}
use Rattle.gql_grammar.specs.declared.word.Word.{Word}
use Rattle.gql_grammar.specs.declared.symbol.Symbol.{Symbol}
use Rattle.gql_grammar.specs.declared.rule.Rule.{Rule}
use Rattle.gql_grammar.specs.declared.syntax_kind.SyntaxKind.{SyntaxKind}
use Rattle.gql_grammar.specs.Grammar.{Grammar}
use Rattle.gql_grammar.specs.Row.{Row, nothing, leaf, node, joined, with_leaf, with_node, leaves}
use Rattle.gql_grammar.specs.Reads.{Reads, done, token, tree, group, skip, take, stop, again, leave, enter, wrap, Sentence}
use Rattle.gql_grammar.proofs.Fitting.{Fits-read}
use Rattle.gql_grammar.proofs.Turns.{append-none}

pub leaves-joined : (x y : Row) → leaves (joined x y) ≡ leaves x ++ leaves y
leaves-joined nothing y = refl
leaves-joined (leaf w x) y = ap (λ ws. w ∷ ws) (leaves-joined x y)
leaves-joined (node k inner x) y = ap (λ ws. leaves inner ++ ws) (leaves-joined x y) ∙ sym (append_assoc (leaves inner) (leaves x) (leaves y))

pub leaves-leaf : (x : Row) (w : Word) (ws : List Word) → leaves (with_leaf x w) ++ ws ≡ leaves x ++ (w ∷ ws)
leaves-leaf x w ws = ap (λ us. us ++ ws) (leaves-joined x (leaf w nothing)) ∙ append_assoc (leaves x) (w ∷ []) ws

pub leaves-node : (x : Row) (k : SyntaxKind) (inner : Row) (ws : List Word) → leaves (with_node x k inner) ++ ws ≡ leaves x ++ (leaves inner ++ ws)
leaves-node x k inner ws =
    ap (λ us. us ++ ws) (leaves-joined x (node k inner nothing))
    ∙ append_assoc (leaves x) (leaves inner ++ []) ws
    ∙ ap (λ us. leaves x ++ (us ++ ws)) (append-none (leaves inner))

pub leaves-read : {g : Grammar} {ss : List Symbol} {x y : Row} {ws vs : List Word} → Reads g ss x ws y vs → leaves y ++ vs ≡ leaves x ++ ws
leaves-read done = refl
leaves-read (token {x = x} {ws = ws} t w h d) = leaves-read d ∙ leaves-leaf x w ws
leaves-read (tree {x = x} {us = us} r k a inner i m d1 d2) =
    leaves-read d2 ∙ leaves-node x k inner us ∙ ap (λ us. leaves x ++ us) (leaves-read d1)
leaves-read (group r a i m d1 d2) = leaves-read d2 ∙ leaves-read d1
leaves-read (skip r d) = leaves-read d
leaves-read (take r d1 d2) = leaves-read d2 ∙ leaves-read d1
leaves-read (stop r d) = leaves-read d
leaves-read (again r d1 d2) = leaves-read d2 ∙ leaves-read d1
leaves-read (leave r h d) = leaves-read d
leaves-read (enter r d1 d2) = leaves-read d2 ∙ leaves-read d1
leaves-read (wrap {x = x} {ws = ws} k d) = leaves-read d ∙ ap (λ us. us ++ ws) (append-none (leaves x))

-- the leaves of a sentence's tree are its words
pub leaves-sentence : {start : Rule} {ws : List Word} {f : Row} → Sentence start ws f → leaves f ≡ ws
leaves-sentence {f = f} d = sym (append-none (leaves f)) ∙ leaves-read (Fits-read d nothing)
