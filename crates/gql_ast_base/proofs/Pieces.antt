-- Where the text of a token lies.
use Rattle.std.proofs.Common.{◌≡◌, ℕ, ◌<◌, ◌≤◌, Bool, true, false, if◌then◌else◌, nat_eq, nat_lt, length, Option, Some, None, refl, sym, subst, arith}
use Rattle.std.specs.Prelude.{◌&&◌, ◌||◌, nat_le, slice_range, option_and_then}
use Rattle.std.proofs.lemmas.Bool.{eqb-true, leb-true, ltb-true}
use Rattle.gql_cst.specs.Forest.{Plain}
use Rattle.gql_cst.specs.SyntaxKind.TheVariants.{Token}
use Rattle.gql_ast_base.specs.Kinds.{is_kind}
use Rattle.gql_ast_base.specs.Names.{is_name}
use Rattle.gql_ast_base.specs.Parts.{Text, is_boundary, piece, token_text, word}

-- the text is the piece between these places
pub record Lies (text found : Text) (start end : ℕ) : Type 0 where
  pub in_order : start ≤ end
  pub within : end ≤ length text
  pub is : found ≡ slice_range text start end

both-true : (a b : Bool) → (a && b) ≡ true → (a ≡ true) × (b ≡ true)
both-true true b h = (refl, h)
both-true false b h = absurd (cc)

within-either : (at size : ℕ) (a b c : Bool) → (a ≡ true → at ≡ size) → (b ≡ true → at < size) → (a || (b && c)) ≡ true → at ≤ size
within-either at size true b c p q h = let e : at ≡ size = p refl in omega arith
within-either at size false true c p q h = let e : at < size = q refl in omega arith
within-either at size false false c p q h = absurd (cc)

boundary-within : (text : Text) (at : ℕ) → is_boundary text at ≡ true → at ≤ length text
boundary-within text at h = within-either at (length text) (nat_eq at (length text)) (nat_lt at (length text)) _ (eqb-true at (length text)) (ltb-true at (length text)) h

chosen : {T : Type 0} (b : Bool) (x : T) (p : Option T) → Some x ≡ (if b then p else None) → (b ≡ true) × (Some x ≡ p)
chosen true x p h = (refl, h)
chosen false x p h = absurd (cc)

some-same : {T : Type 0} (x y : T) → Some x ≡ Some y → x ≡ y
some-same x y h = cc

pub piece-lies : (text found : Text) (start end : ℕ) → Some found ≡ piece text start end → Lies text found start end
unfolding piece
piece-lies text found start end h =
    let c = chosen (nat_le start end && is_boundary text start && is_boundary text end) found (Some (slice_range text start end)) h in
    let p = both-true (nat_le start end && is_boundary text start) (is_boundary text end) c.0 in
    let q = both-true (nat_le start end) (is_boundary text start) p.0 in
    record { in_order = leb-true start end q.0; within = boundary-within text end p.1; is = some-same found (slice_range text start end) c.1 }

-- the text of a token lies where the token does
pub token-lies : (text found : Text) (tree : Plain) → Some found ≡ token_text text tree → Lies text found tree.start tree.end
unfolding token_text
token-lies text found tree h =
    piece-lies text found tree.start tree.end (chosen (is_kind tree.kind Token) found (piece text tree.start tree.end) h).1

named-text : (found : Text) (o : Option Text) → Some found ≡ option_and_then (λ text. if is_name text then Some text else None) o
    → (Some found ≡ o) × (is_name found ≡ true)
named-text found None h = absurd (cc)
named-text found (Some text) h =
    let c = chosen (is_name text) found (Some text) h in
    let same : found ≡ text = some-same found text c.1 in
    (c.1, subst (λ t. is_name t ≡ true) (sym same) c.0)

-- the text of a token that is a name is a name, and lies where the token does
pub word-lies : (text found : Text) (tree : Plain) → Some found ≡ word text tree → Lies text found tree.start tree.end
unfolding word
word-lies text found tree h = token-lies text found tree (named-text found (token_text text tree) h).0

pub word-named : (text found : Text) (tree : Plain) → Some found ≡ word text tree → is_name found ≡ true
unfolding word
word-named text found tree h = (named-text found (token_text text tree) h).1
