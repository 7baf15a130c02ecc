-- Arguments, directives and descriptions are blind to ignored tokens.
use Rattle.std.proofs.Common.{◌≡◌, refl}
use Rattle.gql_source.specs.declared.file_id.FileId.{FileId}
use Rattle.gql_grammar.specs.declared.syntax_kind.SyntaxKind.TheVariants as kind
use Rattle.gql_cst.specs.Forest.{Forest}
use Rattle.gql_cst.specs.Bare.{bare, TokensEnd}
use Rattle.gql_ast_base.specs.Directives.{argument_of, arguments, directive_of, directives}
use Rattle.gql_ast_base.specs.Literals.{string_of, description}
use Rattle.gql_ast_base.specs.Parts.{Text, first}
use Rattle.gql_ast_laws.proofs.Blind.{Blind, none_at, choice_at, then_at}
use Rattle.gql_ast_laws.proofs.Gathered.{first_blind}
use Rattle.gql_ast_laws.proofs.Inner.{inside_same, gather_inside}
use Rattle.gql_ast_laws.proofs.Named.{token_text-at, nth_name-bare}
use Rattle.gql_ast_laws.proofs.Places.{location_bare}
use Rattle.gql_ast_laws.proofs.ValueMeaning.{value-blind}

string-blind : (text : Text) → Blind (string_of text)
string-blind text = record { at = λ k start end children h. then_at _ (token_text-at text k start end children) }

pub description-bare : (text : Text) (row : Forest) → TokensEnd row → description text (bare row) ≡ description text row
unfolding description
description-bare text row h = inside_same (first (string_of text)) (first_blind (string-blind text)) kind.Description refl row h

module _ (text : Text) (file : FileId) where
  pub argument-blind : Blind (argument_of text file)
  unfolding argument_of
  argument-blind = record {
    at = λ k start end children h. choice_at _ _ kind.Argument refl h
        (λ i. rw (nth_name-bare text file 0 children i, first_blind (value-blind text file) children i, location_bare file kind.Argument start end children refl i) refl) none_at;
  }

  pub arguments-bare : (row : Forest) → TokensEnd row → arguments text file (bare row) ≡ arguments text file row
  unfolding arguments
  arguments-bare row h = gather_inside argument-blind kind.Arguments refl row h

  pub directive-blind : Blind (directive_of text file)
  unfolding directive_of
  directive-blind = record {
    at = λ k start end children h. choice_at _ _ kind.Directive refl h
        (λ i. rw (nth_name-bare text file 0 children i, arguments-bare children i, location_bare file kind.Directive start end children refl i) refl) none_at;
  }

  pub directives-bare : (row : Forest) → TokensEnd row → directives text file (bare row) ≡ directives text file row
  unfolding directives
  directives-bare row h = gather_inside directive-blind kind.Directives refl row h
