-- The words of a literal fit the grammar, and their tree is the row that is said.
use Rattle.std.proofs.Common.{◌≡◌, true, false, List, [], ◌∷◌, ◌++◌, refl, sym, ap, subst, append_assoc, append-nil}
use Rattle.std.specs.Prelude.{codes}
use Rattle.gql_grammar.specs.declared.word.Word.{Word}
use Rattle.gql_grammar.specs.declared.word.Word.TheVariants.{BracketOpen, BracketClose, BraceOpen, BraceClose, Colon, IntLiteral, FloatLiteral, StringLiteral, BooleanWord, NullWord}
use Rattle.gql_grammar.specs.declared.symbol.Symbol.{Symbol}
use Rattle.gql_grammar.specs.declared.symbol.Symbol.TheVariants.{Token, One, Repeated}
use Rattle.gql_grammar.specs.declared.symbol.Terminal.TheVariants.{Exactly, AnyName, NameButLiteral}
use Rattle.gql_grammar.specs.declared.rule.Rule.TheVariants as rule
use Rattle.gql_grammar.specs.declared.syntax_kind.SyntaxKind.TheVariants as kind
use Rattle.gql_grammar.specs.Grammar.{declared}
use Rattle.gql_grammar.specs.Row.{Row}
use Rattle.gql_grammar.specs.Sentence.{Fits, done, token, tree, stop, again, IsOneOf, here, there}
use Rattle.gql_grammar.specs.Word.{is_same}
use Rattle.gql_cst.specs.Words.{word_of}
use Rattle.gql_ast_base.specs.Names.{is_name}
use Rattle.gql_print_laws.specs.Literal.{Literal, null, variable, int, float, string, truth, name, list, object, Literals, no_literal, literal_then, Pairs, no_pair, pair_then}
use Rattle.gql_print_laws.specs.bridge.Said.{Text, over, under, row_of, words_of}
use Rattle.gql_print_laws.specs.Written.{IsConstant, AreConstant, ArePairs}
use Rattle.gql_print_laws.specs.bridge.Written.{content_said, items_said, more_items, pairs_said, more_pairs}
use Rattle.gql_print_laws.proofs.NumberWords.{int_word, float_word}
use Rattle.gql_print_laws.proofs.Named.{name_is_name}

-- a way to write a constant value, and the words of the literal written so
pub record FitsValue (l : Literal) : Type 0 where
  pub way : List Symbol
  pub one : IsOneOf way (declared rule.ConstValue)
  pub fits : (vs : List Word) → Fits way (words_of (content_said l) ++ vs) (row_of (content_said l)) vs

back : {ss : List Symbol} {vs : List Word} (xs ys ws : List Word) → {r : Row} → Fits ss (xs ++ (ys ++ ws)) r vs → Fits ss ((xs ++ ys) ++ ws) r vs
back {ss = ss} {vs = vs} xs ys ws {r = r} f = subst (λ us. Fits ss us r vs) (sym (append_assoc xs ys ws)) f

pair_fits : (k : Text) (l : Literal) (ps : Pairs) → is_name k ≡ true → FitsValue l → (vs : List Word)
    → Fits (Repeated rule.ConstObjectField ∷ Token (Exactly BraceClose) ∷ []) (words_of (more_pairs ps) ++ vs) (row_of (more_pairs ps)) vs
    → Fits (Repeated rule.ConstObjectField ∷ Token (Exactly BraceClose) ∷ []) (words_of (pairs_said (pair_then k l ps)) ++ vs) (row_of (pairs_said (pair_then k l ps))) vs
pair_fits k l ps n v vs more =
    let us = words_of (more_pairs ps) ++ vs in
    back (word_of k ∷ word_of (codes ":") ∷ (words_of (content_said l) ++ [])) (words_of (more_pairs ps)) vs
    (again rule.ConstObjectField
    (tree rule.ConstObjectField kind.ObjectField (Token AnyName ∷ Token (Exactly Colon) ∷ One rule.ConstValue ∷ []) refl here
    (token AnyName _ (name_is_name k n) (token (Exactly Colon) _ refl
    (subst (λ ws. Fits (One rule.ConstValue ∷ []) (ws ++ us) (row_of (under kind.Value (content_said l) over)) us) (sym (append-nil (words_of (content_said l))))
    (tree rule.ConstValue kind.Value v.way refl v.one (v.fits us) done))))
    more))

mutual
  pub fits_value : (l : Literal) → IsConstant l → FitsValue l
  fits_value null h = record {
    way = One rule.NullValue ∷ [];
    one = there (there (there (there here)));
    fits = λ vs. tree rule.NullValue kind.NullValue (Token (Exactly NullWord) ∷ []) refl here (token (Exactly NullWord) _ refl done) done;
  }
  fits_value (variable t) h = absurd h
  fits_value (int t) h = record {
    way = Token (Exactly IntLiteral) ∷ [];
    one = here;
    fits = λ vs. token (Exactly IntLiteral) _ (ap (λ w. is_same IntLiteral w) (int_word t h)) done;
  }
  fits_value (float t) h = record {
    way = Token (Exactly FloatLiteral) ∷ [];
    one = there here;
    fits = λ vs. token (Exactly FloatLiteral) _ (ap (λ w. is_same FloatLiteral w) (float_word t h)) done;
  }
  fits_value (string t) h = record {
    way = Token (Exactly StringLiteral) ∷ [];
    one = there (there here);
    fits = λ vs. token (Exactly StringLiteral) _ refl done;
  }
  fits_value (truth true) h = record {
    way = One rule.BooleanValue ∷ [];
    one = there (there (there here));
    fits = λ vs. tree rule.BooleanValue kind.BooleanValue (Token (Exactly BooleanWord) ∷ []) refl here (token (Exactly BooleanWord) _ refl done) done;
  }
  fits_value (truth false) h = record {
    way = One rule.BooleanValue ∷ [];
    one = there (there (there here));
    fits = λ vs. tree rule.BooleanValue kind.BooleanValue (Token (Exactly BooleanWord) ∷ []) refl here (token (Exactly BooleanWord) _ refl done) done;
  }
  fits_value (name t) h = record {
    way = One rule.EnumValue ∷ [];
    one = there (there (there (there (there here))));
    fits = λ vs. tree rule.EnumValue kind.EnumValue (Token NameButLiteral ∷ []) refl here (token NameButLiteral _ h.1 done) done;
  }
  fits_value (list ls) h = record {
    way = One rule.ConstListValue ∷ [];
    one = there (there (there (there (there (there here)))));
    fits = λ vs. subst (λ us. Fits (One rule.ConstListValue ∷ []) (us ++ vs) (row_of (content_said (list ls))) vs) (sym (append-nil (word_of (codes "[") ∷ words_of (items_said ls))))
        (tree rule.ConstListValue kind.ListValue (Token (Exactly BracketOpen) ∷ Repeated rule.ConstValue ∷ Token (Exactly BracketClose) ∷ []) refl here
        (token (Exactly BracketOpen) _ refl (fits_items ls h vs)) done);
  }
  fits_value (object ps) h = record {
    way = One rule.ConstObjectValue ∷ [];
    one = there (there (there (there (there (there (there here))))));
    fits = λ vs. subst (λ us. Fits (One rule.ConstObjectValue ∷ []) (us ++ vs) (row_of (content_said (object ps))) vs) (sym (append-nil (word_of (codes "{") ∷ words_of (pairs_said ps))))
        (tree rule.ConstObjectValue kind.ObjectValue (Token (Exactly BraceOpen) ∷ Repeated rule.ConstObjectField ∷ Token (Exactly BraceClose) ∷ []) refl here
        (token (Exactly BraceOpen) _ refl (fits_pairs ps h vs)) done);
  }

  fits_items : (ls : Literals) → AreConstant ls → (vs : List Word) → Fits (Repeated rule.ConstValue ∷ Token (Exactly BracketClose) ∷ []) (words_of (items_said ls) ++ vs) (row_of (items_said ls)) vs
  fits_items no_literal h vs = stop rule.ConstValue (token (Exactly BracketClose) _ refl done)
  fits_items (literal_then l ls) h vs =
      let v = fits_value l h.0 in
      back (words_of (content_said l)) (words_of (more_items ls)) vs
      (again rule.ConstValue (tree rule.ConstValue kind.Value v.way refl v.one (v.fits (words_of (more_items ls) ++ vs)) (fits_more ls h.1 vs)))

  fits_more : (ls : Literals) → AreConstant ls → (vs : List Word) → Fits (Repeated rule.ConstValue ∷ Token (Exactly BracketClose) ∷ []) (words_of (more_items ls) ++ vs) (row_of (more_items ls)) vs
  fits_more no_literal h vs = stop rule.ConstValue (token (Exactly BracketClose) _ refl done)
  fits_more (literal_then l ls) h vs =
      let v = fits_value l h.0 in
      back (words_of (content_said l)) (words_of (more_items ls)) vs
      (again rule.ConstValue (tree rule.ConstValue kind.Value v.way refl v.one (v.fits (words_of (more_items ls) ++ vs)) (fits_more ls h.1 vs)))

  fits_pairs : (ps : Pairs) → ArePairs ps → (vs : List Word) → Fits (Repeated rule.ConstObjectField ∷ Token (Exactly BraceClose) ∷ []) (words_of (pairs_said ps) ++ vs) (row_of (pairs_said ps)) vs
  fits_pairs no_pair h vs = stop rule.ConstObjectField (token (Exactly BraceClose) _ refl done)
  fits_pairs (pair_then k l ps) h vs = pair_fits k l ps h.0 (fits_value l h.1.0) vs (fits_more_pairs ps h.1.1 vs)

  fits_more_pairs : (ps : Pairs) → ArePairs ps → (vs : List Word) → Fits (Repeated rule.ConstObjectField ∷ Token (Exactly BraceClose) ∷ []) (words_of (more_pairs ps) ++ vs) (row_of (more_pairs ps)) vs
  fits_more_pairs no_pair h vs = stop rule.ConstObjectField (token (Exactly BraceClose) _ refl done)
  fits_more_pairs (pair_then k l ps) h vs = pair_fits k l ps h.0 (fits_value l h.1.0) vs (fits_more_pairs ps h.1.1 vs)
