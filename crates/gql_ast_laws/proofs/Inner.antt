-- The first tree of a kind, and what stands in it.
use Rattle.std.proofs.Common.{◌≡◌, ℕ, Bool, true, false, Option, Some, None, refl, ◌∙◌, sym, ap, subst}
use Rattle.std.specs.Prelude.{option_and_then}
use Rattle.std.specs.Option.{option_map}
use Rattle.gql_grammar.specs.declared.syntax_kind.SyntaxKind.{SyntaxKind}
use Rattle.gql_cst.specs.Forest.{Forest, Plain, nothing, tree_then}
use Rattle.gql_cst.specs.Leaves.{Part, word, ignored, node, part_of}
use Rattle.gql_cst.specs.Bare.{bare_then, bare, TokensEnd}
use Rattle.gql_ast_base.specs.Kinds.{is_kind}
use Rattle.gql_ast_base.specs.Parts.{gather, child, children_of, inside}
use Rattle.gql_ast_laws.proofs.TokenKinds.{kind_is}
use Rattle.gql_ast_laws.proofs.Blind.{tree, Blind, of_node}
use Rattle.gql_ast_laws.proofs.Gathered.{gather_blind}

-- a node without its place
abbrev pub bare_node : Plain → Plain
bare_node t = record { kind = t.kind; start = 0; end = 0; children = bare t.children }

pub here : (known kind : SyntaxKind) (start end : ℕ) (children rest : Forest) → is_kind kind known ≡ true → child known (tree_then kind start end children rest) ≡ Some (tree kind start end children)
here known kind start end children rest h = rw h refl

pub later : (known kind : SyntaxKind) (start end : ℕ) (children rest : Forest) → is_kind kind known ≡ false → child known (tree_then kind start end children rest) ≡ child known rest
later known kind start end children rest h = rw h refl

later_then : (known : SyntaxKind) (part : Part) (kind : SyntaxKind) (start end : ℕ) (children rest : Forest) → is_kind kind known ≡ false
    → child known (bare_then part kind start end children rest) ≡ child known rest
later_then known word kind start end children rest h = later known kind start end nothing rest h
later_then known node kind start end children rest h = later known kind 0 0 children rest h
later_then known ignored kind start end children rest h = refl

here_then : (known : SyntaxKind) (part : Part) (kind : SyntaxKind) (start end : ℕ) (children rest : Forest) → part ≡ node → is_kind kind known ≡ true
    → child known (bare_then part kind start end children rest) ≡ Some (tree kind 0 0 children)
here_then known word kind start end children rest p h = absurd (cc)
here_then known node kind start end children rest p h = here known kind 0 0 children rest h
here_then known ignored kind start end children rest p h = absurd (cc)

pub both_ways : {A : Type 0} (b : Bool) → (b ≡ true → A) → (b ≡ false → A) → A
both_ways true p q = p refl
both_ways false p q = q refl

pub node_of : (kind known : SyntaxKind) → part_of known ≡ node → is_kind kind known ≡ true → part_of kind ≡ node
node_of kind known n h = ap part_of (kind_is kind known h) ∙ n

pub child_bare : (known : SyntaxKind) → part_of known ≡ node → (row : Forest) → child known (bare row) ≡ option_map bare_node (child known row)
child_bare known n nothing = refl
child_bare known n (tree_then kind start end children rest) =
    both_ways (is_kind kind known)
    (λ h. here_then known (part_of kind) kind start end (bare children) (bare rest) (node_of kind known n h) h
    ∙ sym (ap (λ o. option_map bare_node o) (here known kind start end children rest h)))
    (λ h. later_then known (part_of kind) kind start end (bare children) (bare rest) h ∙ child_bare known n rest
    ∙ sym (ap (λ o. option_map bare_node o) (later known kind start end children rest h)))

-- what holds of a tree, if there is one
abbrev pub EndsIn : Option Plain → Type 0
EndsIn None = Unit {0}
EndsIn (Some t) = TokensEnd t.children

pub child_ends : (known : SyntaxKind) → part_of known ≡ node → (row : Forest) → TokensEnd row → EndsIn (child known row)
child_ends known n nothing h = tt
child_ends known n (tree_then kind start end children rest) h =
    both_ways (is_kind kind known)
    (λ e. subst EndsIn (sym (here known kind start end children rest e)) (of_node (part_of kind) children h.0 (node_of kind known n e) (λ x. x)))
    (λ e. subst EndsIn (sym (later known kind start end children rest e)) (child_ends known n rest h.1))

bare_children : (o : Option Plain) → children_of (option_map bare_node o) ≡ bare (children_of o)
bare_children None = refl
bare_children (Some t) = refl

ends_children : (o : Option Plain) → EndsIn o → TokensEnd (children_of o)
ends_children None h = tt
ends_children (Some t) h = h

pub inside_bare : (known : SyntaxKind) → part_of known ≡ node → (row : Forest) → inside known (bare row) ≡ bare (inside known row)
inside_bare known n row = ap children_of (child_bare known n row) ∙ bare_children (child known row)

pub inside_ends : (known : SyntaxKind) → part_of known ≡ node → (row : Forest) → TokensEnd row → TokensEnd (inside known row)
inside_ends known n row h = ends_children (child known row) (child_ends known n row h)

-- what a function that passes over ignored tokens says of what stands in the first tree of a kind
pub inside_same : {A : Type 0} (m : Forest → A) → ((f : Forest) → TokensEnd f → m (bare f) ≡ m f) → (known : SyntaxKind) → part_of known ≡ node
    → (row : Forest) → TokensEnd row → m (inside known (bare row)) ≡ m (inside known row)
inside_same m b known n row h = ap m (inside_bare known n row) ∙ b (inside known row) (inside_ends known n row h)

pub gather_inside : {T : Type 0} {f : Plain → Option T} → Blind f → (known : SyntaxKind) → part_of known ≡ node
    → (row : Forest) → TokensEnd row → gather f (inside known (bare row)) ≡ gather f (inside known row)
gather_inside {f = f} b known n row h = inside_same (gather f) (gather_blind b) known n row h

-- what is made of the first tree of a kind
then_same : {T : Type 0} (v : Plain → Option T) (o : Option Plain) → EndsIn o → ((t : Plain) → TokensEnd t.children → v (bare_node t) ≡ v t)
    → option_and_then v (option_map bare_node o) ≡ option_and_then v o
then_same v None h b = refl
then_same v (Some t) h b = b t h

pub child_then : {T : Type 0} (v : Plain → Option T) → ((t : Plain) → TokensEnd t.children → v (bare_node t) ≡ v t) → (known : SyntaxKind) → part_of known ≡ node
    → (row : Forest) → TokensEnd row → option_and_then v (child known (bare row)) ≡ option_and_then v (child known row)
child_then v b known n row h = ap (λ o. option_and_then v o) (child_bare known n row) ∙ then_same v (child known row) (child_ends known n row h) b

map_same : {T : Type 0} (v : Plain → T) (o : Option Plain) → EndsIn o → ((t : Plain) → TokensEnd t.children → v (bare_node t) ≡ v t)
    → option_map v (option_map bare_node o) ≡ option_map v o
map_same v None h b = refl
map_same v (Some t) h b = ap (λ x. Some x) (b t h)

pub child_map : {T : Type 0} (v : Plain → T) → ((t : Plain) → TokensEnd t.children → v (bare_node t) ≡ v t) → (known : SyntaxKind) → part_of known ≡ node
    → (row : Forest) → TokensEnd row → option_map v (child known (bare row)) ≡ option_map v (child known row)
child_map v b known n row h = ap (λ o. option_map v o) (child_bare known n row) ∙ map_same v (child known row) (child_ends known n row h) b
