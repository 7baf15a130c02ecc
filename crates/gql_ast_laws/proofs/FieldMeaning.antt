-- Definitions of fields, arguments and enum values are blind to ignored tokens.
use Rattle.std.proofs.Common.{◌≡◌, refl}
use Rattle.gql_source.specs.declared.file_id.FileId.{FileId}
use Rattle.gql_grammar.specs.declared.syntax_kind.SyntaxKind.TheVariants as kind
use Rattle.gql_cst.specs.Forest.{Forest}
use Rattle.gql_cst.specs.Bare.{bare, TokensEnd}
use Rattle.gql_ast.specs.Fields.{input_value_of, argument_definitions, input_fields, field_of, fields, enum_value_of, enum_values}
use Rattle.gql_ast_base.specs.Parts.{Text}
use Rattle.gql_ast_laws.proofs.Blind.{Blind, none_at, choice_at}
use Rattle.gql_ast_laws.proofs.Gathered.{first_blind}
use Rattle.gql_ast_laws.proofs.Inner.{gather_inside}
use Rattle.gql_ast_laws.proofs.Named.{nth_name-bare}
use Rattle.gql_ast_laws.proofs.Places.{location_bare}
use Rattle.gql_ast_laws.proofs.TypeMeaning.{type-blind}
use Rattle.gql_ast_laws.proofs.DirectiveMeaning.{description-bare, directives-bare}
use Rattle.gql_ast_laws.proofs.SelectionMeaning.{name_inside}
use Rattle.gql_ast_laws.proofs.OperationMeaning.{default_value-bare}

module _ (text : Text) (file : FileId) where
  input_value-blind : Blind (input_value_of text file)
  unfolding input_value_of
  input_value-blind = record {
    at = λ k start end children h. choice_at _ _ kind.InputValueDefinition refl h
        (λ i. rw (nth_name-bare text file 0 children i, first_blind (type-blind text file) children i, description-bare text children i, default_value-bare text file children i, directives-bare text file children i, location_bare file kind.InputValueDefinition start end children refl i) refl) none_at;
  }

  pub argument_definitions-bare : (row : Forest) → TokensEnd row → argument_definitions text file (bare row) ≡ argument_definitions text file row
  unfolding argument_definitions
  argument_definitions-bare row h = gather_inside input_value-blind kind.ArgumentsDefinition refl row h

  pub input_fields-bare : (row : Forest) → TokensEnd row → input_fields text file (bare row) ≡ input_fields text file row
  unfolding input_fields
  input_fields-bare row h = gather_inside input_value-blind kind.InputFieldsDefinition refl row h

  field-blind : Blind (field_of text file)
  unfolding field_of
  field-blind = record {
    at = λ k start end children h. choice_at _ _ kind.FieldDefinition refl h
        (λ i. rw (nth_name-bare text file 0 children i, first_blind (type-blind text file) children i, description-bare text children i, argument_definitions-bare children i, directives-bare text file children i, location_bare file kind.FieldDefinition start end children refl i) refl) none_at;
  }

  pub fields-bare : (row : Forest) → TokensEnd row → fields text file (bare row) ≡ fields text file row
  unfolding fields
  fields-bare row h = gather_inside field-blind kind.FieldsDefinition refl row h

  enum_value-blind : Blind (enum_value_of text file)
  unfolding enum_value_of
  enum_value-blind = record {
    at = λ k start end children h. choice_at _ _ kind.EnumValueDefinition refl h
        (λ i. rw (name_inside text file kind.EnumValue refl children i, description-bare text children i, directives-bare text file children i, location_bare file kind.EnumValueDefinition start end children refl i) refl) none_at;
  }

  pub enum_values-bare : (row : Forest) → TokensEnd row → enum_values text file (bare row) ≡ enum_values text file row
  unfolding enum_values
  enum_values-bare row h = gather_inside enum_value-blind kind.EnumValuesDefinition refl row h
