-- Definitions of fields, arguments and enum values are blind to ignored tokens.
use Rattle.std.proofs.Common.{refl}
use Rattle.gql_source.specs.declared.file_id.FileId.{FileId}
use Rattle.gql_grammar.specs.declared.syntax_kind.SyntaxKind.TheVariants as kind
use Rattle.gql_ast_base.specs.Parts.{Text}
use Rattle.gql_ast.specs.Fields.{input_value_of, field_of, enum_value_of}
use Rattle.gql_ast_laws.proofs.Blind.{Blind, none_at, choice_at}
use Rattle.gql_ast_laws.proofs.DirectiveMeaning.{description-bare, directives-bare}
use Rattle.gql_ast_laws.proofs.FieldMeaning.{argument_definitions-bare}
use Rattle.gql_ast_laws.proofs.Gathered.{first_blind}
use Rattle.gql_ast_laws.proofs.Named.{nth_name-bare}
use Rattle.gql_ast_laws.proofs.OperationMeaning.{default_value-bare}
use Rattle.gql_ast_laws.proofs.Places.{location_bare}
use Rattle.gql_ast_laws.proofs.SelectionMeaning.{name_inside}
use Rattle.gql_ast_laws.proofs.TypeMeaning.{type-blind}

module _ (text : Text) (file : FileId) where
  pub input-blind : Blind (input_value_of text file)
  unfolding input_value_of
  input-blind = record {
    at = λ k start end children h. choice_at _ _ kind.InputValueDefinition refl h
        (λ i. rw (nth_name-bare text file 0 children i, first_blind (type-blind text file) children i, description-bare text children i, default_value-bare text file children i, directives-bare text file children i, location_bare file kind.InputValueDefinition start end children refl i) refl) none_at;
  }

  pub field-blind : Blind (field_of text file)
  unfolding field_of
  field-blind = record {
    at = λ k start end children h. choice_at _ _ kind.FieldDefinition refl h
        (λ i. rw (nth_name-bare text file 0 children i, first_blind (type-blind text file) children i, description-bare text children i, argument_definitions-bare text file children i, directives-bare text file children i, location_bare file kind.FieldDefinition start end children refl i) refl) none_at;
  }

  pub enum_value-blind : Blind (enum_value_of text file)
  unfolding enum_value_of
  enum_value-blind = record {
    at = λ k start end children h. choice_at _ _ kind.EnumValueDefinition refl h
        (λ i. rw (name_inside text file kind.EnumValue refl children i, description-bare text children i, directives-bare text file children i, location_bare file kind.EnumValueDefinition start end children refl i) refl) none_at;
  }
