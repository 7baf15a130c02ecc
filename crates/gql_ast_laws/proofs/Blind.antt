-- What a tree stands for does not change when ignored tokens below it, and the place of a node, are left out.
use Rattle.std.proofs.Common.{◌≡◌, ℕ, Bool, true, false, if◌then◌else◌, Option, None, refl, ◌∙◌, sym, ap, subst}
use Rattle.std.specs.Prelude.{option_and_then}
use Rattle.std.specs.Option.{option_map}
use Rattle.gql_grammar.specs.declared.syntax_kind.SyntaxKind.{SyntaxKind}
use Rattle.gql_grammar.specs.declared.syntax_kind.SyntaxKind.TheVariants.{Token}
use Rattle.gql_cst.specs.Forest.{Forest, Plain, nothing}
use Rattle.gql_cst.specs.Leaves.{Part, word, ignored, node, part_of}
use Rattle.gql_cst.specs.Bare.{bare, Ends, TokensEnd}
use Rattle.gql_ast_base.specs.Kinds.{is_kind}
use Rattle.gql_ast_base.specs.Parts.{or_else}
use Rattle.gql_ast_laws.proofs.TokenKinds.{kind_is}

abbrev pub tree : SyntaxKind → ℕ → ℕ → Forest → Plain
tree kind start end children = record { kind = kind; start = start; end = end; children = children }

-- below the tree no word stands below a token
abbrev pub EndsAt : SyntaxKind → Forest → Type 0
EndsAt kind children = Ends (part_of kind) children (TokensEnd children)

-- f says the same of the tree and of what is left of it, and nothing of an ignored token
pub record BlindAt {T : Type 0} (f : Plain → Option T) (kind : SyntaxKind) (start end : ℕ) (children : Forest) : Type 0 where
  pub as_node : part_of kind ≡ node → f (tree kind 0 0 (bare children)) ≡ f (tree kind start end children)
  pub as_word : part_of kind ≡ word → f (tree kind start end nothing) ≡ f (tree kind start end children)
  pub as_ignored : part_of kind ≡ ignored → f (tree kind start end children) ≡ None

-- that holds of each tree
pub record Blind {T : Type 0} (f : Plain → Option T) : Type 0 where
  pub at : (kind : SyntaxKind) (start end : ℕ) (children : Forest) → EndsAt kind children → BlindAt f kind start end children

pub of_node : {A B : Type 0} (part : Part) (children : Forest) → Ends part children A → part ≡ node → (A → B) → B
of_node node children h e f = f h
of_node word children h e f = absurd (cc)
of_node ignored children h e f = absurd (cc)

pub none_at : {T : Type 0} {kind : SyntaxKind} {start end : ℕ} {children : Forest} → BlindAt {T = T} (λ t. None) kind start end children
none_at = record { as_node = λ h. refl; as_word = λ h. refl; as_ignored = λ h. refl }

choose : {T : Type 0} (b : Bool) {x y z w : Option T} → (b ≡ true → x ≡ z) → (b ≡ false → y ≡ w) → (if b then x else y) ≡ (if b then z else w)
choose true p q = p refl
choose false p q = q refl

choose_none : {T : Type 0} (b : Bool) {x y : Option T} → (b ≡ true → x ≡ None) → (b ≡ false → y ≡ None) → (if b then x else y) ≡ None
choose_none true p q = p refl
choose_none false p q = q refl

part_clash : {A : Type 0} (kind other : SyntaxKind) {p : Part} → is_kind kind other ≡ true → part_of kind ≡ p → part_of other ≡ node → (p ≡ node → A) → A
part_clash kind other h e g f = f (sym e ∙ ap part_of (kind_is kind other h) ∙ g)

-- of a tree of one kind, a node, f tells, and of the others g
pub choice_at : {T : Type 0} (f g : Plain → Option T) {kind : SyntaxKind} {start end : ℕ} {children : Forest} (known : SyntaxKind) → part_of known ≡ node
    → EndsAt kind children → (TokensEnd children → f (tree known 0 0 (bare children)) ≡ f (tree known start end children))
    → BlindAt g kind start end children → BlindAt (λ t. if is_kind t.kind known then f t else g t) kind start end children
choice_at f g {kind = kind} {start = start} {end = end} {children = children} known is_node ends inside other =
    let P : SyntaxKind → Type 0 = λ k. f (tree k 0 0 (bare children)) ≡ f (tree k start end children) in
    record {
      as_node = λ h. choose (is_kind kind known) (λ e. subst P (sym (kind_is kind known e)) (of_node (part_of kind) children ends h inside)) (λ e. other.as_node h);
      as_word = λ h. choose (is_kind kind known) (λ e. part_clash kind known e h is_node (λ c. absurd (cc))) (λ e. other.as_word h);
      as_ignored = λ h. choose_none (is_kind kind known) (λ e. part_clash kind known e h is_node (λ c. absurd (cc))) (λ e. other.as_ignored h);
    }

-- of a token f tells, which looks at no tree below it
pub token_at : {T : Type 0} (f g : Plain → Option T) {kind : SyntaxKind} {start end : ℕ} {children : Forest}
    → f (tree Token start end nothing) ≡ f (tree Token start end children)
    → BlindAt g kind start end children → BlindAt (λ t. if is_kind t.kind Token then f t else g t) kind start end children
token_at f g {kind = kind} {start = start} {end = end} {children = children} alone other =
    let P : SyntaxKind → Type 0 = λ k. f (tree k start end nothing) ≡ f (tree k start end children) in
    record {
      as_node = λ h. choose (is_kind kind Token) (λ e. let c : word ≡ node = ap part_of (sym (kind_is kind Token e)) ∙ h in absurd (cc)) (λ e. other.as_node h);
      as_word = λ h. choose (is_kind kind Token) (λ e. subst P (sym (kind_is kind Token e)) alone) (λ e. other.as_word h);
      as_ignored = λ h. choose_none (is_kind kind Token) (λ e. let c : word ≡ ignored = ap part_of (sym (kind_is kind Token e)) ∙ h in absurd (cc)) (λ e. other.as_ignored h);
    }

pub or_at : {T : Type 0} {f g : Plain → Option T} {kind : SyntaxKind} {start end : ℕ} {children : Forest}
    → BlindAt f kind start end children → BlindAt g kind start end children → BlindAt (λ t. or_else (f t) (g t)) kind start end children
or_at {f = f} {g = g} {kind = kind} {start = start} {end = end} {children = children} h k =
    let t = tree kind start end children in
    record {
      as_node = λ e. ap (λ x. or_else x (g (tree kind 0 0 (bare children)))) (h.as_node e) ∙ ap (λ y. or_else (f t) y) (k.as_node e);
      as_word = λ e. ap (λ x. or_else x (g (tree kind start end nothing))) (h.as_word e) ∙ ap (λ y. or_else (f t) y) (k.as_word e);
      as_ignored = λ e. ap (λ x. or_else x (g t)) (h.as_ignored e) ∙ k.as_ignored e;
    }

pub map_at : {T U : Type 0} (v : T → U) {f : Plain → Option T} {kind : SyntaxKind} {start end : ℕ} {children : Forest}
    → BlindAt f kind start end children → BlindAt (λ t. option_map v (f t)) kind start end children
map_at v h = record {
  as_node = λ e. ap (λ o. option_map v o) (h.as_node e);
  as_word = λ e. ap (λ o. option_map v o) (h.as_word e);
  as_ignored = λ e. ap (λ o. option_map v o) (h.as_ignored e);
}

pub then_at : {T U : Type 0} (v : T → Option U) {f : Plain → Option T} {kind : SyntaxKind} {start end : ℕ} {children : Forest}
    → BlindAt f kind start end children → BlindAt (λ t. option_and_then v (f t)) kind start end children
then_at v h = record {
  as_node = λ e. ap (λ o. option_and_then v o) (h.as_node e);
  as_word = λ e. ap (λ o. option_and_then v o) (h.as_word e);
  as_ignored = λ e. ap (λ o. option_and_then v o) (h.as_ignored e);
}
