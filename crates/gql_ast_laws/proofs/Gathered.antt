-- What the trees of a row stand for, one after the other, ignored tokens left out.
use Rattle.std.proofs.Common.{◌≡◌, ℕ, ◌++◌, option_to_list, Option, None, refl, ◌∙◌, sym, ap}
use Rattle.gql_grammar.specs.declared.syntax_kind.SyntaxKind.{SyntaxKind}
use Rattle.gql_cst.specs.Forest.{Forest, Plain, nothing, tree_then}
use Rattle.gql_cst.specs.Leaves.{Part, word, ignored, node, part_of}
use Rattle.gql_cst.specs.Bare.{bare_then, bare, TokensEnd}
use Rattle.gql_ast_base.specs.Parts.{head, gather, first}
use Rattle.gql_ast_laws.proofs.Blind.{tree, BlindAt, Blind}

then_step : {T : Type 0} (f : Plain → Option T) (part : Part) (kind : SyntaxKind) (start end : ℕ) (children rest : Forest)
    → (part ≡ node → f (tree kind 0 0 (bare children)) ≡ f (tree kind start end children))
    → (part ≡ word → f (tree kind start end nothing) ≡ f (tree kind start end children))
    → (part ≡ ignored → f (tree kind start end children) ≡ None)
    → gather f (bare rest) ≡ gather f rest
    → gather f (bare_then part kind start end (bare children) (bare rest)) ≡ gather f (tree_then kind start end children rest)
then_step f node kind start end children rest n w i h =
    ap (λ o. option_to_list o ++ gather f (bare rest)) (n refl) ∙ ap (λ l. option_to_list (f (tree kind start end children)) ++ l) h
then_step f word kind start end children rest n w i h =
    ap (λ o. option_to_list o ++ gather f (bare rest)) (w refl) ∙ ap (λ l. option_to_list (f (tree kind start end children)) ++ l) h
then_step f ignored kind start end children rest n w i h =
    h ∙ ap (λ o. option_to_list o ++ gather f rest) (sym (i refl))

-- one tree more
pub gather_then : {T : Type 0} {f : Plain → Option T} (kind : SyntaxKind) (start end : ℕ) (children rest : Forest)
    → BlindAt f kind start end children → gather f (bare rest) ≡ gather f rest
    → gather f (bare (tree_then kind start end children rest)) ≡ gather f (tree_then kind start end children rest)
gather_then {f = f} kind start end children rest b h = then_step f (part_of kind) kind start end children rest b.as_node b.as_word b.as_ignored h

pub gather_blind : {T : Type 0} {f : Plain → Option T} → Blind f → (row : Forest) → TokensEnd row → gather f (bare row) ≡ gather f row
gather_blind b nothing h = refl
gather_blind b (tree_then kind start end children rest) h =
    gather_then kind start end children rest (b.at kind start end children h.0) (gather_blind b rest h.1)

pub first_blind : {T : Type 0} {f : Plain → Option T} → Blind f → (row : Forest) → TokensEnd row → first f (bare row) ≡ first f row
first_blind b row h = ap head (gather_blind b row h)
