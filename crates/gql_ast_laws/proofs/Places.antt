-- Places of trees are told by the tokens that are not ignored.
use Rattle.std.proofs.Common.{◌≡◌, ℕ, false, List, [], ◌∷◌, ◌++◌, Option, Some, None, refl, ◌∙◌, sym, ap, append_assoc}
use Rattle.gql_source.specs.declared.file_id.FileId.{FileId}
use Rattle.gql_grammar.specs.declared.syntax_kind.SyntaxKind.{SyntaxKind}
use Rattle.gql_grammar.specs.declared.syntax_kind.SyntaxKind.TheVariants.{Token}
use Rattle.gql_cst.specs.Forest.{Forest, nothing, tree_then}
use Rattle.gql_cst.specs.Leaves.{Part, word, ignored, node, part_of, Leaf, own_leaf, leaves}
use Rattle.gql_cst.specs.Bare.{bare_then, bare, own_spoken, spoken, Ends, TokensEnd}
use Rattle.gql_ast_base.specs.Kinds.{is_kind}
use Rattle.gql_ast_base.specs.Parts.{or_else, start_of, end_of, location}
use Rattle.gql_ast_laws.proofs.TokenKinds.{is_word_part, token_kind, no_token, same_kind}
use Rattle.gql_ast_laws.proofs.Blind.{tree}

spoken-append : (xs ys : List Leaf) → spoken (xs ++ ys) ≡ spoken xs ++ spoken ys
spoken-append [] ys = refl
spoken-append (x ∷ xs) ys =
    ap (λ behind. own_spoken x.part x ++ behind) (spoken-append xs ys) ∙ sym (append_assoc (own_spoken x.part x) (spoken xs) (spoken ys))

spoken-tree : (own below behind : List Leaf) → spoken (own ++ below ++ behind) ≡ spoken own ++ spoken below ++ spoken behind
spoken-tree own below behind =
    spoken-append (own ++ below) behind ∙ ap (λ front. front ++ spoken behind) (spoken-append own below)

empty_both : (xs ys : List Leaf) → xs ++ ys ≡ [] → (xs ≡ []) × (ys ≡ [])
empty_both [] ys h = (refl, h)
empty_both (x ∷ xs) ys h = absurd (cc)

no_word : {A : Type 0} (part : Part) (start end : ℕ) (below behind : List Leaf) → spoken (own_leaf part start end) ++ below ++ behind ≡ []
    → ((is_word_part part ≡ false) → (below ≡ []) → (behind ≡ []) → A) → A
no_word word start end below behind h f = absurd (cc)
no_word ignored start end below behind h f = let p = empty_both below behind h in f refl p.0 p.1
no_word node start end below behind h f = let p = empty_both below behind h in f refl p.0 p.1

-- where there is no word, there is no place
pub none_start : (row : Forest) → spoken (leaves row) ≡ [] → start_of row ≡ None
none_start nothing h = refl
none_start (tree_then kind start end children rest) h =
    no_word (part_of kind) start end (spoken (leaves children)) (spoken (leaves rest)) (sym (spoken-tree (own_leaf (part_of kind) start end) (leaves children) (leaves rest)) ∙ h)
    (λ p c r. rw (token_kind kind ∙ p, none_start children c) (none_start rest r))

pub none_end : (row : Forest) → spoken (leaves row) ≡ [] → end_of row ≡ None
none_end nothing h = refl
none_end (tree_then kind start end children rest) h =
    no_word (part_of kind) start end (spoken (leaves children)) (spoken (leaves rest)) (sym (spoken-tree (own_leaf (part_of kind) start end) (leaves children) (leaves rest)) ∙ h)
    (λ p c r. rw (token_kind kind ∙ p, none_end children c, none_end rest r) refl)

or_none : {T : Type 0} (o : Option T) → or_else o None ≡ o
or_none None = refl
or_none (Some x) = refl

start_then : (part : Part) (kind : SyntaxKind) (start end : ℕ) (children rest : Forest) → is_kind kind Token ≡ is_word_part part
    → Ends part children (TokensEnd children) → (TokensEnd children → start_of (bare children) ≡ start_of children) → start_of (bare rest) ≡ start_of rest
    → start_of (bare_then part kind start end (bare children) (bare rest)) ≡ start_of (tree_then kind start end children rest)
start_then word kind start end children rest e h c r = rw e refl
start_then ignored kind start end children rest e h c r = rw (e, none_start children h) r
start_then node kind start end children rest e h c r = rw (e, c h, r) refl

pub start_bare : (row : Forest) → TokensEnd row → start_of (bare row) ≡ start_of row
start_bare nothing h = refl
start_bare (tree_then kind start end children rest) h =
    start_then (part_of kind) kind start end children rest (token_kind kind) h.0 (start_bare children) (start_bare rest h.1)

end_then : (part : Part) (kind : SyntaxKind) (start end : ℕ) (children rest : Forest) → is_kind kind Token ≡ is_word_part part
    → Ends part children (TokensEnd children) → (TokensEnd children → end_of (bare children) ≡ end_of children) → end_of (bare rest) ≡ end_of rest
    → end_of (bare_then part kind start end (bare children) (bare rest)) ≡ end_of (tree_then kind start end children rest)
end_then word kind start end children rest e h c r = rw (e, r) refl
end_then ignored kind start end children rest e h c r = rw (e, none_end children h, or_none (end_of rest)) r
end_then node kind start end children rest e h c r = rw (e, c h, r) refl

pub end_bare : (row : Forest) → TokensEnd row → end_of (bare row) ≡ end_of row
end_bare nothing h = refl
end_bare (tree_then kind start end children rest) h =
    end_then (part_of kind) kind start end children rest (token_kind kind) h.0 (end_bare children) (end_bare rest h.1)

pub location_bare : (file : FileId) (kind : SyntaxKind) (start end : ℕ) (children : Forest) → part_of kind ≡ node → TokensEnd children
    → location file (tree kind 0 0 (bare children)) ≡ location file (tree kind start end children)
unfolding location
location_bare file kind start end children n h = rw (no_token kind n, start_bare children h, end_bare children h) refl

pub location_token : (file : FileId) (start end : ℕ) (children : Forest) → location file (tree Token start end nothing) ≡ location file (tree Token start end children)
unfolding location
location_token file start end children = rw (same_kind Token) refl
