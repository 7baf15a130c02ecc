-- What is blind to ignored tokens says one thing of trees that are equal without them.
use Rattle.std.proofs.Common.{◌≡◌, Option, ◌∙◌, sym, ap, subst}
use Rattle.gql_grammar.specs.declared.syntax_kind.SyntaxKind.{SyntaxKind}
use Rattle.gql_cst.specs.Forest.{Forest, Plain}
use Rattle.gql_cst.specs.Leaves.{node, part_of}
use Rattle.gql_cst.specs.Bare.{bare, Ends, TokensEnd}
use Rattle.gql_ast_base.specs.Parts.{gather}
use Rattle.gql_ast_laws.proofs.Blind.{tree, EndsAt, Blind}
use Rattle.gql_ast_laws.proofs.Gathered.{gather_blind}

pub one_meaning : {A : Type 0} (m : Forest → A) → ((f : Forest) → TokensEnd f → m (bare f) ≡ m f)
    → (one other : Forest) → TokensEnd one → TokensEnd other → bare one ≡ bare other → m one ≡ m other
one_meaning m b one other h k e = sym (b one h) ∙ ap m e ∙ b other k

pub gathered_once : {T : Type 0} {f : Plain → Option T} → Blind f → (one other : Forest) → TokensEnd one → TokensEnd other → bare one ≡ bare other
    → gather f one ≡ gather f other
gathered_once {f = f} b one other h k e = one_meaning (gather f) (gather_blind b) one other h k e

ends_at : (kind known : SyntaxKind) (children : Forest) → kind ≡ known → part_of known ≡ node → TokensEnd children → EndsAt kind children
ends_at kind known children e n h = subst (λ p. Ends p children (TokensEnd children)) (sym (ap part_of e ∙ n)) h

pub node_once : {T : Type 0} {f : Plain → Option T} → Blind f → (known : SyntaxKind) → part_of known ≡ node → (one other : Plain) → one.kind ≡ known → other.kind ≡ known
    → TokensEnd one.children → TokensEnd other.children → bare one.children ≡ bare other.children → f one ≡ f other
node_once {f = f} b known n one other p q h k e =
    sym ((b.at one.kind one.start one.end one.children (ends_at one.kind known one.children p n h)).as_node (ap part_of p ∙ n))
    ∙ ap (λ k. f (tree k 0 0 (bare one.children))) (p ∙ sym q)
    ∙ ap (λ c. f (tree other.kind 0 0 c)) e
    ∙ (b.at other.kind other.start other.end other.children (ends_at other.kind known other.children q n k)).as_node (ap part_of q ∙ n)
