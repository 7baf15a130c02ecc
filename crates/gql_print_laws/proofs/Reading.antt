-- What is said is read token by token, from the last piece to the first.
use Rattle.std.proofs.Common.{◌≡◌, ℕ, ◌<◌, true, false, [], ◌∷◌, ◌++◌, refl, sym, inl, subst, arith, append_assoc}
use Rattle.std.specs.Prelude.{slice_index, codes}
use Rattle.std.proofs.lemmas.Bool.Decides.{nat_tests}
use Rattle.gql_lexer.specs.Class.{is_blank, is_name_continue, class_of}
use Rattle.gql_lexer.specs.Lex.{run_len, run_from, blank_len, is_mark}
use Rattle.gql_lexer.specs.declared.token.TokenKind.TheVariants as kinds
use Rattle.gql_grammar.specs.declared.syntax_kind.SyntaxKind.{SyntaxKind}
use Rattle.gql_cst.specs.Leaves.{ignored, node, part_of}
use Rattle.gql_ast_base.specs.Names.{is_name}
use Rattle.gql_print_laws.specs.Literal.{Literal}
use Rattle.gql_print_laws.specs.bridge.Said.{Text, Said, over, token, space, under, text_of, IsPiece, Lexes}
use Rattle.gql_print_laws.specs.Written.{IsConstant}
use Rattle.gql_print_laws.specs.bridge.Written.{content_said, Ends}
use Rattle.gql_print_laws.proofs.Pieces.{Begins, follows, mark_piece, comma_piece, blank_piece, name_piece, name_starts}
use Rattle.gql_print_laws.proofs.Lexed.{starts, lexes}
use Rattle.gql_print_laws.proofs.Strings.{string_piece}
use Rattle.jb_print.specs.Quoted.{quoted}

-- it may stand right behind a name
pub record After (s : Said) (rest : Text) : Type 0 where
  pub ends : Ends (text_of s ++ rest)
  pub lexes : Lexes s rest

-- it may stand behind a space or a mark
pub record From (s : Said) (rest : Text) : Type 0 where
  pub begins : Begins (text_of s ++ rest)
  pub lexes : Lexes s rest

pub after_over : {rest : Text} → Ends rest → After over rest
after_over e = record { ends = e; lexes = tt }

-- ---- white space

space_ends : (rest : Text) → Ends (32 ∷ rest)
space_ends rest = record { low = omega arith; stops = refl; no_dot = λ e. absurd (cc); no_quote = λ e. absurd (cc) }

comma_ends : (rest : Text) → Ends (44 ∷ rest)
comma_ends rest = record { low = omega arith; stops = refl; no_dot = λ e. absurd (cc); no_quote = λ e. absurd (cc) }

line_ends : (rest : Text) → Ends (10 ∷ rest)
line_ends rest = record { low = omega arith; stops = refl; no_dot = λ e. absurd (cc); no_quote = λ e. absurd (cc) }

pub nothing_ends : Ends []
nothing_ends = record { low = omega arith; stops = refl; no_dot = λ e. absurd (cc); no_quote = λ e. absurd (cc) }

pub nothing_begins : Begins []
nothing_begins = record { low = omega arith; blank = refl }

pub blank_after : {s : Said} {rest : Text} → From s rest → After (space (codes " ") s) rest
blank_after {s = s} {rest = rest} f = record { ends = space_ends (text_of s ++ rest); lexes = (blank_piece (text_of s ++ rest) f.begins, f.lexes) }

pub comma_after : {s : Said} {rest : Text} → From s rest → After (space (codes ",") (space (codes " ") s)) rest
comma_after {s = s} {rest = rest} f = record {
  ends = comma_ends (32 ∷ (text_of s ++ rest));
  lexes = (comma_piece (32 ∷ (text_of s ++ rest)) (omega arith), (blank_piece (text_of s ++ rest) f.begins, f.lexes));
}

no_mark : (rest : Text) → slice_index rest 0 < 128 → is_mark rest ≡ false
no_mark rest low = grind (arith, nat_tests, low)

blank_stops : (rest : Text) → Begins rest → run_from blank_len 0 rest ≡ 0
unfolding blank_len
blank_stops [] b = refl
blank_stops (x ∷ rest) b = rw (b.blank, no_mark (x ∷ rest) b.low) refl

line_piece : (rest : Text) → Begins rest → IsPiece ignored (10 ∷ []) rest
unfolding run_len blank_len
line_piece rest b = record {
  kind = kinds.Ignored;
  is = refl;
  token = inl (inl refl, let n = blank_stops rest b in rw n refl);
  some = omega arith;
  low = omega arith;
  next = b.low;
}

pub line_after : {s : Said} {rest : Text} → From s rest → After (space (codes "\n") s) rest
line_after {s = s} {rest = rest} f = record { ends = line_ends (text_of s ++ rest); lexes = (line_piece (text_of s ++ rest) f.begins, f.lexes) }

-- ---- marks

pub record IsMark (b : ℕ) : Type 0 where
  pub class : class_of b ≡ class_of 33
  pub low : b < 128
  pub blank : is_blank b ≡ false
  pub stops : is_name_continue b ≡ false
  pub dot : b ≡ 0x2E → ⊥
  pub quote : b ≡ 0x22 → ⊥

pub bang : IsMark 33
bang = record { class = refl; low = omega arith; blank = refl; stops = refl; dot = λ e. absurd (cc); quote = λ e. absurd (cc) }

pub ampersand : IsMark 38
ampersand = record { class = refl; low = omega arith; blank = refl; stops = refl; dot = λ e. absurd (cc); quote = λ e. absurd (cc) }

pub paren_open : IsMark 40
paren_open = record { class = refl; low = omega arith; blank = refl; stops = refl; dot = λ e. absurd (cc); quote = λ e. absurd (cc) }

pub paren_close : IsMark 41
paren_close = record { class = refl; low = omega arith; blank = refl; stops = refl; dot = λ e. absurd (cc); quote = λ e. absurd (cc) }

pub colon : IsMark 58
colon = record { class = refl; low = omega arith; blank = refl; stops = refl; dot = λ e. absurd (cc); quote = λ e. absurd (cc) }

pub equals : IsMark 61
equals = record { class = refl; low = omega arith; blank = refl; stops = refl; dot = λ e. absurd (cc); quote = λ e. absurd (cc) }

pub at_sign : IsMark 64
at_sign = record { class = refl; low = omega arith; blank = refl; stops = refl; dot = λ e. absurd (cc); quote = λ e. absurd (cc) }

pub bracket_open : IsMark 91
bracket_open = record { class = refl; low = omega arith; blank = refl; stops = refl; dot = λ e. absurd (cc); quote = λ e. absurd (cc) }

pub bracket_close : IsMark 93
bracket_close = record { class = refl; low = omega arith; blank = refl; stops = refl; dot = λ e. absurd (cc); quote = λ e. absurd (cc) }

pub brace_open : IsMark 123
brace_open = record { class = refl; low = omega arith; blank = refl; stops = refl; dot = λ e. absurd (cc); quote = λ e. absurd (cc) }

pub bar : IsMark 124
bar = record { class = refl; low = omega arith; blank = refl; stops = refl; dot = λ e. absurd (cc); quote = λ e. absurd (cc) }

pub brace_close : IsMark 125
brace_close = record { class = refl; low = omega arith; blank = refl; stops = refl; dot = λ e. absurd (cc); quote = λ e. absurd (cc) }

-- a mark, before what may stand behind a name, or before a token
mark_lexes : {b : ℕ} (s : Said) (rest : Text) → IsMark b → slice_index (text_of s ++ rest) 0 < 128 → Lexes s rest → Lexes (token (b ∷ []) s) rest
mark_lexes {b = b} s rest m low x = (mark_piece b (text_of s ++ rest) m.class m.low low, x)

mark_ends : {b : ℕ} (rest : Text) → IsMark b → Ends (b ∷ rest)
mark_ends rest m = record { low = m.low; stops = m.stops; no_dot = m.dot; no_quote = m.quote }

mark_begins : {b : ℕ} (rest : Text) → IsMark b → Begins (b ∷ rest)
mark_begins rest m = record { low = m.low; blank = m.blank }

pub mark_after : {b : ℕ} {s : Said} {rest : Text} → IsMark b → After s rest → After (token (b ∷ []) s) rest
mark_after {s = s} {rest = rest} m a = record { ends = mark_ends (text_of s ++ rest) m; lexes = mark_lexes s rest m a.ends.low a.lexes }

pub mark_after_from : {b : ℕ} {s : Said} {rest : Text} → IsMark b → From s rest → After (token (b ∷ []) s) rest
mark_after_from {s = s} {rest = rest} m f = record { ends = mark_ends (text_of s ++ rest) m; lexes = mark_lexes s rest m f.begins.low f.lexes }

pub mark_from : {b : ℕ} {s : Said} {rest : Text} → IsMark b → After s rest → From (token (b ∷ []) s) rest
mark_from {s = s} {rest = rest} m a = record { begins = mark_begins (text_of s ++ rest) m; lexes = mark_lexes s rest m a.ends.low a.lexes }

pub mark_from_from : {b : ℕ} {s : Said} {rest : Text} → IsMark b → From s rest → From (token (b ∷ []) s) rest
mark_from_from {s = s} {rest = rest} m f = record { begins = mark_begins (text_of s ++ rest) m; lexes = mark_lexes s rest m f.begins.low f.lexes }

-- ---- names, strings and values

pub name_from : {t : Text} {s : Said} {rest : Text} → is_name t ≡ true → After s rest → From (token t s) rest
name_from {t = t} {s = s} {rest = rest} n a = record {
  begins = subst Begins (sym (append_assoc t (text_of s) rest)) (name_starts t (text_of s ++ rest) n);
  lexes = (name_piece t (text_of s ++ rest) n (follows (text_of s ++ rest) a.ends), a.lexes);
}

pub string_from : (t : Text) {s : Said} {rest : Text} → After s rest → From (token (quoted t) s) rest
string_from t {s = s} {rest = rest} a = record {
  begins = record { low = omega arith; blank = refl };
  lexes = (string_piece t (text_of s ++ rest) a.ends, a.lexes);
}

pub value_from : (l : Literal) {rest : Text} → IsConstant l → Ends rest → From (content_said l) rest
value_from l {rest = rest} h e = record { begins = starts l h rest; lexes = lexes l h rest e }

-- ---- nodes

pub node_from : {k : SyntaxKind} {i s : Said} {rest : Text} → part_of k ≡ node → From i (text_of s ++ rest) → Lexes s rest → From (under k i s) rest
node_from {i = i} {s = s} {rest = rest} p f x = record {
  begins = subst Begins (sym (append_assoc (text_of i) (text_of s) rest)) f.begins;
  lexes = (p, (f.lexes, x));
}

pub node_after : {k : SyntaxKind} {i s : Said} {rest : Text} → part_of k ≡ node → After i (text_of s ++ rest) → Lexes s rest → After (under k i s) rest
node_after {i = i} {s = s} {rest = rest} p a x = record {
  ends = subst Ends (sym (append_assoc (text_of i) (text_of s) rest)) a.ends;
  lexes = (p, (a.lexes, x));
}
