-- How a literal is written: its tokens and nodes.
use Rattle.std.specs.Prelude.{◌≡◌, true, length}
use Rattle.gql_lexer.specs.Lexical.{IsToken}
use Rattle.gql_lexer.specs.declared.token.TokenKind.TheVariants.{IntValue, FloatValue}
use Rattle.gql_grammar.specs.declared.symbol.Terminal.TheVariants.{NameButLiteral}
use Rattle.gql_grammar.specs.Word.{takes}
use Rattle.gql_cst.specs.Words.{word_of}
use Rattle.gql_ast_base.specs.Names.{is_name}
use Rattle.gql_print_laws.specs.Literal.{Literal, null, variable, int, float, string, truth, name, list, object}
use Rattle.gql_print_laws.specs.Literal.{Literals, no_literal, literal_then, Pairs, no_pair, pair_then}

-- no variable stands in it, names are names, and each number is a token
abbrev mutual
  pub IsConstant : Literal → Type 0
  IsConstant null = Unit {0}
  IsConstant (variable t) = ⊥
  IsConstant (int t) = IsToken IntValue t (length t)
  IsConstant (float t) = IsToken FloatValue t (length t)
  IsConstant (string t) = Unit {0}
  IsConstant (truth b) = Unit {0}
  IsConstant (name t) = (is_name t ≡ true) × (takes NameButLiteral (word_of t) ≡ true)
  IsConstant (list ls) = AreConstant ls
  IsConstant (object ps) = ArePairs ps

  pub AreConstant : Literals → Type 0
  AreConstant no_literal = Unit {0}
  AreConstant (literal_then l ls) = IsConstant l × AreConstant ls

  pub ArePairs : Pairs → Type 0
  ArePairs no_pair = Unit {0}
  ArePairs (pair_then k l ps) = (is_name k ≡ true) × (IsConstant l × ArePairs ps)
