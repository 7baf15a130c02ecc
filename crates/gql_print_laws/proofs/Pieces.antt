-- The tokens of values, wherever they stand.
use Rattle.std.proofs.Common.{◌≡◌, ℕ, ◌<◌, true, false, [], ◌∷◌, ◌++◌, refl, sym, inl, inr, arith}
use Rattle.std.specs.Prelude.{slice_index}
use Rattle.std.proofs.lemmas.Bool.Decides.{nat_tests}
use Rattle.gql_lexer.specs.Class.{is_blank, is_name_start, class_of}
use Rattle.gql_lexer.specs.Lex.{run_len, run_from, blank_len, is_mark}
use Rattle.gql_lexer.specs.declared.token.TokenKind.TheVariants as kinds
use Rattle.gql_cst.specs.Leaves.{word, ignored}
use Rattle.gql_ast_base.specs.Names.{is_name}
use Rattle.gql_print_laws.specs.bridge.Said.{Text, IsPiece}
use Rattle.gql_print_laws.specs.bridge.Written.{Ends}
use Rattle.gql_print_laws.proofs.Rest.{Follows, name_len, name_class, name_begins, name_some, name_low}

-- a token begins here, and no white space
pub record Begins (rest : Text) : Type 0 where
  pub low : slice_index rest 0 < 128
  pub blank : is_blank (slice_index rest 0) ≡ false

pub follows : (rest : Text) → Ends rest → Follows rest
follows rest e = record { low = e.low; stops = e.stops }

pub mark_piece : (b : ℕ) (rest : Text) → class_of b ≡ class_of 33 → b < 128 → slice_index rest 0 < 128 → IsPiece word (b ∷ []) rest
mark_piece b rest c low next = record { kind = kinds.Punctuator; is = refl; token = inl (c, refl); some = omega arith; low = low; next = next }

pub comma_piece : (rest : Text) → slice_index rest 0 < 128 → IsPiece ignored (44 ∷ []) rest
comma_piece rest next = record { kind = kinds.Ignored; is = refl; token = inr (inl (refl, refl)); some = omega arith; low = omega arith; next = next }

no_mark : (rest : Text) → slice_index rest 0 < 128 → is_mark rest ≡ false
no_mark rest low = grind (arith, nat_tests, low)

blank_stops : (rest : Text) → Begins rest → run_from blank_len 0 rest ≡ 0
unfolding blank_len
blank_stops [] b = refl
blank_stops (x ∷ rest) b = rw (b.blank, no_mark (x ∷ rest) b.low) refl

pub blank_piece : (rest : Text) → Begins rest → IsPiece ignored (32 ∷ []) rest
unfolding run_len blank_len
blank_piece rest b = record {
  kind = kinds.Ignored;
  is = refl;
  token = inl (inl refl, let n = blank_stops rest b in rw n refl);
  some = omega arith;
  low = omega arith;
  next = b.low;
}

pub name_piece : (name rest : Text) → is_name name ≡ true → Follows rest → IsPiece word name rest
name_piece name rest n f = record {
  kind = kinds.Name;
  is = refl;
  token = (name_class (slice_index (name ++ rest) 0) (name_begins name rest n), sym (name_len name rest n f));
  some = name_some name n;
  low = name_low name rest n;
  next = f.low;
}

start_blank : (b : ℕ) → is_name_start b ≡ true → is_blank b ≡ false
start_blank b h = grind (arith, nat_tests, h)

pub name_starts : (name rest : Text) → is_name name ≡ true → Begins (name ++ rest)
name_starts name rest n = record { low = name_low name rest n; blank = start_blank (slice_index (name ++ rest) 0) (name_begins name rest n) }
