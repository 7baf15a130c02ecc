-- The tokens of a literal are read as they were written.
use Rattle.std.proofs.Common.{◌≡◌, ◌<◌, Bool, true, false, [], ◌∷◌, ◌++◌, refl, sym, ap, ◌∙◌, subst, arith, append_assoc, append-nil}
use Rattle.std.specs.Prelude.{slice_index, codes}
use Rattle.gql_cst.specs.Leaves.{word}
use Rattle.gql_grammar.specs.declared.syntax_kind.SyntaxKind.TheVariants as kind
use Rattle.gql_lexer.specs.declared.token.TokenKind.TheVariants as kinds
use Rattle.gql_ast_base.specs.Names.{is_name}
use Rattle.gql_print_laws.specs.Literal.{Literal, null, variable, int, float, string, truth, name, list, object, Literals, no_literal, literal_then, Pairs, no_pair, pair_then}
use Rattle.gql_print_laws.specs.bridge.Said.{Text, Said, over, token, space, under, text_of, IsPiece, Lexes}
use Rattle.gql_print_laws.specs.Written.{IsConstant, AreConstant, ArePairs}
use Rattle.gql_print_laws.specs.bridge.Written.{truth_word, content_said, items_said, more_items, pairs_said, more_pairs, Ends}
use Rattle.gql_print_laws.proofs.Pieces.{Begins, follows, mark_piece, comma_piece, blank_piece, name_piece, name_starts}
use Rattle.gql_print_laws.proofs.NumberWords.{number_text}
use Rattle.gql_print_laws.proofs.Numbers.{int_alone, float_alone}
use Rattle.gql_print_laws.proofs.Strings.{string_piece}

abbrev Starts : Said → Type 0
Starts s = (rest : Text) → Begins (text_of s ++ rest)

alone : (t : Text) (rest : Text) → Begins (t ++ rest) → Begins ((t ++ []) ++ rest)
alone t rest b = subst (λ l. Begins (l ++ rest)) (sym (append-nil t)) b

-- each literal begins with a token
pub starts : (l : Literal) → IsConstant l → Starts (content_said l)
starts null h rest = record { low = omega arith; blank = refl }
starts (variable t) h rest = absurd h
starts (int t) h rest = let n = number_text t h.0.begins in alone t rest (record { low = n.low rest; blank = n.blank rest })
starts (float t) h rest = let n = number_text t h.0.begins in alone t rest (record { low = n.low rest; blank = n.blank rest })
starts (string t) h rest = record { low = omega arith; blank = refl }
starts (truth true) h rest = record { low = omega arith; blank = refl }
starts (truth false) h rest = record { low = omega arith; blank = refl }
starts (name t) h rest = subst (λ l. Begins (l ++ rest)) (sym (append-nil (t ++ []))) (alone t rest (name_starts t rest h.0))
starts (list ls) h rest = record { low = omega arith; blank = refl }
starts (object ps) h rest = record { low = omega arith; blank = refl }

value_starts : (l : Literal) → IsConstant l → (more : Said) (rest : Text) → Begins ((text_of (content_said l) ++ text_of more) ++ rest)
value_starts l h more rest = subst Begins (sym (append_assoc (text_of (content_said l)) (text_of more) rest)) (starts l h (text_of more ++ rest))

-- what comes behind a value within brackets ends it
bracket_ends : (rest : Text) → Ends (93 ∷ rest)
bracket_ends rest = record { low = omega arith; stops = refl; no_dot = λ e. absurd (cc); no_quote = λ e. absurd (cc) }

brace_ends : (rest : Text) → Ends (125 ∷ rest)
brace_ends rest = record { low = omega arith; stops = refl; no_dot = λ e. absurd (cc); no_quote = λ e. absurd (cc) }

comma_ends : (rest : Text) → Ends (44 ∷ rest)
comma_ends rest = record { low = omega arith; stops = refl; no_dot = λ e. absurd (cc); no_quote = λ e. absurd (cc) }

items_end : (ls : Literals) (rest : Text) → Ends (text_of (more_items ls) ++ rest)
items_end no_literal rest = bracket_ends rest
items_end (literal_then l ls) rest = comma_ends _

pairs_end : (ps : Pairs) (rest : Text) → Ends (text_of (more_pairs ps) ++ rest)
pairs_end no_pair rest = brace_ends rest
pairs_end (pair_then k l ps) rest = comma_ends _

items_low : (ls : Literals) → AreConstant ls → (rest : Text) → slice_index (text_of (items_said ls) ++ rest) 0 < 128
items_low no_literal h rest = omega arith
items_low (literal_then l ls) h rest = (value_starts l h.0 (more_items ls) rest).low

abbrev pair_said : Text → Literal → Said
pair_said k l = token k (token (codes ":") (space (codes " ") (under kind.Value (content_said l) over)))

pair_starts : (k : Text) (l : Literal) → is_name k ≡ true → (more : Said) (rest : Text) → Begins ((text_of (pair_said k l) ++ text_of more) ++ rest)
pair_starts k l n more rest =
    let inner = text_of (token (codes ":") (space (codes " ") (under kind.Value (content_said l) over))) in
    subst Begins (sym (ap (λ x. x ++ rest) (append_assoc k inner (text_of more)) ∙ append_assoc k (inner ++ text_of more) rest)) (name_starts k ((inner ++ text_of more) ++ rest) n)

pairs_low : (ps : Pairs) → ArePairs ps → (rest : Text) → slice_index (text_of (pairs_said ps) ++ rest) 0 < 128
pairs_low no_pair h rest = omega arith
pairs_low (pair_then k l ps) h rest = (pair_starts k l h.0 (more_pairs ps) rest).low

word_piece : (t rest : Text) → is_name t ≡ true → Ends rest → IsPiece word t rest
word_piece t rest n e = name_piece t rest n (follows rest e)

int_piece : (t rest : Text) → IsConstant (int t) → Ends rest → IsPiece word t rest
int_piece t rest h e = let n = number_text t h.0.begins in record { kind = kinds.IntValue; is = refl; token = int_alone t rest h e; some = n.some; low = n.low rest; next = e.low }

float_piece : (t rest : Text) → IsConstant (float t) → Ends rest → IsPiece word t rest
float_piece t rest h e = let n = number_text t h.0.begins in record { kind = kinds.FloatValue; is = refl; token = float_alone t rest h e; some = n.some; low = n.low rest; next = e.low }

truth_name : (b : Bool) → is_name (truth_word b) ≡ true
truth_name true = refl
truth_name false = refl

pair_lexes : (k : Text) (l : Literal) → is_name k ≡ true → IsConstant l → (rest : Text) → Lexes (content_said l) rest → Lexes (pair_said k l) rest
pair_lexes k l n h rest x = (
  name_piece k _ n (record { low = omega arith; stops = refl }),
  (
    mark_piece 58 _ refl (omega arith) (omega arith),
    (
      blank_piece _ (value_starts l h over rest),
      (refl, (x, tt)),
    ),
  ),
)

mutual
  pub lexes : (l : Literal) → IsConstant l → (rest : Text) → Ends rest → Lexes (content_said l) rest
  lexes null h rest e = (refl, ((word_piece (codes "null") rest refl e, tt), tt))
  lexes (variable t) h rest e = absurd h
  lexes (int t) h rest e = (int_piece t rest h e, tt)
  lexes (float t) h rest e = (float_piece t rest h e, tt)
  lexes (string t) h rest e = (string_piece t rest e, tt)
  lexes (truth b) h rest e = (refl, ((word_piece (truth_word b) rest (truth_name b) e, tt), tt))
  lexes (name t) h rest e = (refl, ((word_piece t rest h.0 e, tt), tt))
  lexes (list ls) h rest e = (refl, ((mark_piece 91 (text_of (items_said ls) ++ rest) refl (omega arith) (items_low ls h rest), lexes_items ls h rest e), tt))
  lexes (object ps) h rest e = (refl, ((mark_piece 123 (text_of (pairs_said ps) ++ rest) refl (omega arith) (pairs_low ps h rest), lexes_pairs ps h rest e), tt))

  lexes_items : (ls : Literals) → AreConstant ls → (rest : Text) → Ends rest → Lexes (items_said ls) rest
  lexes_items no_literal h rest e = (mark_piece 93 rest refl (omega arith) e.low, tt)
  lexes_items (literal_then l ls) h rest e = (refl, (lexes l h.0 (text_of (more_items ls) ++ rest) (items_end ls rest), lexes_more ls h.1 rest e))

  lexes_more : (ls : Literals) → AreConstant ls → (rest : Text) → Ends rest → Lexes (more_items ls) rest
  lexes_more no_literal h rest e = (mark_piece 93 rest refl (omega arith) e.low, tt)
  lexes_more (literal_then l ls) h rest e = (
    comma_piece _ (omega arith),
    (
      blank_piece _ (value_starts l h.0 (more_items ls) rest),
      (refl, (lexes l h.0 (text_of (more_items ls) ++ rest) (items_end ls rest), lexes_more ls h.1 rest e)),
    ),
  )

  lexes_pairs : (ps : Pairs) → ArePairs ps → (rest : Text) → Ends rest → Lexes (pairs_said ps) rest
  lexes_pairs no_pair h rest e = (mark_piece 125 rest refl (omega arith) e.low, tt)
  lexes_pairs (pair_then k l ps) h rest e = (refl, (pair_lexes k l h.0 h.1.0 (text_of (more_pairs ps) ++ rest) (lexes l h.1.0 (text_of (more_pairs ps) ++ rest) (pairs_end ps rest)), lexes_more_pairs ps h.1.1 rest e))

  lexes_more_pairs : (ps : Pairs) → ArePairs ps → (rest : Text) → Ends rest → Lexes (more_pairs ps) rest
  lexes_more_pairs no_pair h rest e = (mark_piece 125 rest refl (omega arith) e.low, tt)
  lexes_more_pairs (pair_then k l ps) h rest e = (
    comma_piece _ (omega arith),
    (
      blank_piece _ (pair_starts k l h.0 (more_pairs ps) rest),
      (refl, (pair_lexes k l h.0 h.1.0 (text_of (more_pairs ps) ++ rest) (lexes l h.1.0 (text_of (more_pairs ps) ++ rest) (pairs_end ps rest)), lexes_more_pairs ps h.1.1 rest e)),
    ),
  )
