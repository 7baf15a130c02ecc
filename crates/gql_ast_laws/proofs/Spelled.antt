-- The tokens of a text that are names.
use Rattle.std.proofs.Common.{◌≡◌, inl, inr, ℕ, zero, suc, ◌+◌, ◌-◌, ◌<◌, ◌≤◌, Bool, true, false, if◌then◌else◌, nat_eq, nat_lt, List, [], ◌∷◌, length, take, drop, Some, None, refl, sym, ap, ◌∙◌, arith}
use Rattle.std.specs.Prelude.{◌==◌, codes, ◌&&◌, ◌||◌, cond, nat_le, slice_index, slice_range}
use Rattle.std.specs.List.{list_all, prefix_len}
use Rattle.std.specs.Str.{IsCharBoundary, bytes_eq}
use Rattle.gql_lexer.specs.Class.{is_name_start, is_name_continue, is_digit}
use Rattle.gql_lexer.specs.Lexical.{IsToken}
use Rattle.gql_lexer.specs.declared.token.TokenKind.{TokenKind}
use Rattle.gql_lexer.specs.declared.token.TokenKind.TheVariants as token
use Rattle.gql_grammar.specs.declared.word.Word.{Word}
use Rattle.gql_grammar.specs.declared.word.Word.TheVariants.{Bang, Dollar, Ampersand, ParenOpen, ParenClose, Colon, Equals, At, BracketOpen, BracketClose, BraceOpen, Bar, BraceClose, Spread, IntLiteral, FloatLiteral, StringLiteral, OperationWord, BooleanWord, LocationWord, OtherName, FragmentWord, OnWord, NullWord, SchemaWord, ScalarWord, TypeWord, InterfaceWord, ImplementsWord, UnionWord, EnumWord, InputWord, DirectiveWord, RepeatableWord, ExtendWord}
use Rattle.gql_grammar.specs.Word.{is_name as names}
use Rattle.gql_grammar.specs.Spelling.{is_executable_location, is_type_system_location, keyword, word_of_name, word_of_punctuator}
use Rattle.gql_grammar.specs.declared.syntax_kind.SyntaxKind.TheVariants.{Token}
use Rattle.gql_cst.specs.Forest.{Forest}
use Rattle.gql_cst.specs.Leaves.{word, part_of_token, Leaf, IsLeaf}
use Rattle.gql_cst.specs.Words.{has_byte, number_word, word_of}
use Rattle.gql_ast_base.specs.Names.{is_name}
use Rattle.gql_ast_base.specs.Kinds.{is_kind}
use Rattle.gql_ast_base.specs.Parts.{Text, is_boundary, piece, token_text, word as name_text}

-- the word is a name, or it is none
record IsName (w : Word) : Type 0 where
  is : names w ≡ true

record IsOther (w : Word) : Type 0 where
  other : names w ≡ false

either : (b : Bool) (x y : Word) → IsName x → IsName y → IsName (if b then x else y)
either true x y p q = p
either false x y p q = q

neither : (b : Bool) (x y : Word) → IsOther x → IsOther y → IsOther (if b then x else y)
neither true x y p q = p
neither false x y p q = q

told : (b : Bool) (x y : Word) → IsName x → IsOther y → names (if b then x else y) ≡ b
told true x y p q = p.is
told false x y p q = q.other

a-name : (w : Word) → names w ≡ true → IsName w
a-name w h = record { is = h }

other : (w : Word) → names w ≡ false → IsOther w
other w h = record { other = h }

keyword-name : (n : Text) → IsName (keyword n)
keyword-name n =
    either (bytes_eq n (codes "fragment")) FragmentWord _ (a-name FragmentWord refl)
    (either (bytes_eq n (codes "on")) OnWord _ (a-name OnWord refl)
    (either (bytes_eq n (codes "null")) NullWord _ (a-name NullWord refl)
    (either (bytes_eq n (codes "schema")) SchemaWord _ (a-name SchemaWord refl)
    (either (bytes_eq n (codes "scalar")) ScalarWord _ (a-name ScalarWord refl)
    (either (bytes_eq n (codes "type")) TypeWord _ (a-name TypeWord refl)
    (either (bytes_eq n (codes "interface")) InterfaceWord _ (a-name InterfaceWord refl)
    (either (bytes_eq n (codes "implements")) ImplementsWord _ (a-name ImplementsWord refl)
    (either (bytes_eq n (codes "union")) UnionWord _ (a-name UnionWord refl)
    (either (bytes_eq n (codes "enum")) EnumWord _ (a-name EnumWord refl)
    (either (bytes_eq n (codes "input")) InputWord _ (a-name InputWord refl)
    (either (bytes_eq n (codes "directive")) DirectiveWord _ (a-name DirectiveWord refl)
    (either (bytes_eq n (codes "repeatable")) RepeatableWord _ (a-name RepeatableWord refl)
    (either (bytes_eq n (codes "extend")) ExtendWord _ (a-name ExtendWord refl) (a-name OtherName refl))))))))))))))

name-name : (n : Text) → IsName (word_of_name n)
name-name n =
    either (is_executable_location n || is_type_system_location n) LocationWord _ (a-name LocationWord refl)
    (either (bytes_eq n (codes "query") || bytes_eq n (codes "mutation") || bytes_eq n (codes "subscription")) OperationWord _ (a-name OperationWord refl)
    (either (bytes_eq n (codes "true") || bytes_eq n (codes "false")) BooleanWord _ (a-name BooleanWord refl) (keyword-name n)))

punctuator-other : (b : ℕ) → IsOther (word_of_punctuator b)
punctuator-other b =
    neither (b == 33) Bang _ (other Bang refl)
    (neither (b == 36) Dollar _ (other Dollar refl)
    (neither (b == 38) Ampersand _ (other Ampersand refl)
    (neither (b == 40) ParenOpen _ (other ParenOpen refl)
    (neither (b == 41) ParenClose _ (other ParenClose refl)
    (neither (b == 58) Colon _ (other Colon refl)
    (neither (b == 61) Equals _ (other Equals refl)
    (neither (b == 64) At _ (other At refl)
    (neither (b == 91) BracketOpen _ (other BracketOpen refl)
    (neither (b == 93) BracketClose _ (other BracketClose refl)
    (neither (b == 123) BraceOpen _ (other BraceOpen refl)
    (neither (b == 124) Bar _ (other Bar refl)
    (neither (b == 125) BraceClose _ (other BraceClose refl) (other Spread refl)))))))))))))

number-other : (found : Text) → IsOther (number_word found)
number-other found =
    neither (has_byte 0x2E found || has_byte 0x65 found || has_byte 0x45 found) FloatLiteral IntLiteral (other FloatLiteral refl) (other IntLiteral refl)

pub word_of_name-names : (n : Text) → names (word_of_name n) ≡ true
word_of_name-names n = (name-name n).is

-- the word of a token is a name where the token begins as one
pub word-names : (found : Text) → names (word_of found) ≡ is_name_start (slice_index found 0)
word-names found =
    told (is_name_start (slice_index found 0)) (word_of_name found) _ (name-name found)
    (neither (slice_index found 0 == 0x22) StringLiteral _ (other StringLiteral refl)
    (neither (is_digit (slice_index found 0) || slice_index found 0 == 0x2D) (number_word found) _ (number-other found) (punctuator-other (slice_index found 0))))

-- and then it is that of a name
pub name-word : (found : Text) → names (word_of found) ≡ true → word_of found ≡ word_of_name found
name-word found h =
    let starts : is_name_start (slice_index found 0) ≡ true = sym (word-names found) ∙ h in
    rw starts refl

prefix-step : (p : ℕ → Bool) (x : ℕ) (xs : List ℕ) (k : ℕ) (b : Bool) → p x ≡ b → list_all p (take k xs) ≡ true → list_all p (take (cond b (1 + k) 0) (x ∷ xs)) ≡ true
prefix-step p x xs k true e h = let n : 1 + k ≡ suc k = omega arith in rw n (rw e h)
prefix-step p x xs k false e h = refl

prefix-all : (p : ℕ → Bool) (xs : List ℕ) → list_all p (take (prefix_len p xs) xs) ≡ true
prefix-all p [] = refl
prefix-all p (x ∷ xs) = prefix-step p x xs (prefix_len p xs) (p x) refl (prefix-all p xs)

name-prefix : (x : ℕ) (xs : List ℕ) → is_name_start x ≡ true → is_name (take (prefix_len is_name_continue (x ∷ xs)) (x ∷ xs)) ≡ true
name-prefix x xs h =
    let n : 1 + prefix_len is_name_continue xs ≡ suc (prefix_len is_name_continue xs) = omega arith in
    rw h (rw n (rw h (prefix-all is_name_continue xs)))

-- a token that begins as a name is one
token-name : (kind : TokenKind) (at : Text) (n : ℕ) → part_of_token kind ≡ word → IsToken kind at n → is_name_start (slice_index at 0) ≡ true → is_name (take n at) ≡ true
token-name token.Name [] n k t h = absurd (cc)
token-name token.Name (x ∷ xs) n k t h = rw (t.1) (name-prefix x xs h)
token-name token.Punctuator at n k (inl t) h = absurd (let c = rw h at t.0 in cc)
token-name token.Punctuator at n k (inr t) h = absurd (let c = rw h at t.0 in cc)
token-name token.IntValue at n k t h = absurd (let c = rw h at t.0.begins in cc)
token-name token.FloatValue at n k t h = absurd (let c = rw h at t.0.begins in cc)
token-name token.StringValue at n k (inl t) h = absurd (let c = rw h at t.0.0 in cc)
token-name token.StringValue at n k (inr t) h = absurd (let c = rw h at t.0.0 in cc)
token-name token.Ignored at n k t h = absurd (cc)

no-name : (found : Text) → is_name_start (slice_index found 0) ≡ false → is_name found ≡ false
no-name [] h = refl
no-name (x ∷ xs) h = rw h refl

boundary-told : (at size b : ℕ) → at ≤ size → (at < size → 128 ≤ b → 192 ≤ b) → (nat_eq at size || (nat_lt at size && (nat_lt b 128 || nat_le 192 b))) ≡ true
boundary-told at size b h k = grind (arith, h, k)

boundary : (text : Text) (at : ℕ) → IsCharBoundary text at → is_boundary text at ≡ true
boundary text at h = boundary-told at (length text) (slice_index text at) h.0 h.1

-- the first byte of a piece is that of what is left from its start on
first-of : (at : Text) (n : ℕ) → 0 < n → slice_index (take n at) 0 ≡ slice_index at 0
first-of at zero h = absurd (omega arith)
first-of [] (suc n) h = refl
first-of (x ∷ xs) (suc n) h = refl

both-cases : {A : Type 0} (b : Bool) → (b ≡ true → A) → (b ≡ false → A) → A
both-cases true p q = p refl
both-cases false p q = q refl

name-told : (text : Text) (place : ℕ) (leaf : Leaf) → leaf.part ≡ word → IsLeaf text place leaf
    → is_name (slice_range text leaf.start leaf.end) ≡ is_name_start (slice_index (slice_range text leaf.start leaf.end) 0)
name-told text place leaf p l =
    let at = drop leaf.start text in
    let n = leaf.end - leaf.start in
    let some : 0 < n = let f : leaf.start < leaf.end = l.further in omega arith in
    both-cases (is_name_start (slice_index (take n at) 0))
    (λ e. token-name l.kind at n (l.part ∙ p) l.token (sym (ap is_name_start (first-of at n some)) ∙ e) ∙ sym e)
    (λ e. no-name (take n at) e ∙ sym e)

-- what a token of the text is as a name, by its word
pub word-is : (text : Text) (place : ℕ) (leaf : Leaf) (children : Forest) → leaf.part ≡ word → IsLeaf text place leaf
    → name_text text (record { kind = Token; start = leaf.start; end = leaf.end; children = children })
    ≡ (if names (word_of (slice_range text leaf.start leaf.end)) then Some (slice_range text leaf.start leaf.end) else None)
unfolding name_text token_text piece is_kind
word-is text place leaf children p l =
    let order : nat_le leaf.start leaf.end ≡ true = let f : leaf.start < leaf.end = l.further in grind arith in
    let told : is_name (slice_range text leaf.start leaf.end) ≡ names (word_of (slice_range text leaf.start leaf.end)) =
    name-told text place leaf p l ∙ sym (word-names (slice_range text leaf.start leaf.end)) in
    rw (order, boundary text leaf.start l.starts_character, boundary text leaf.end l.ends_character, told) refl
