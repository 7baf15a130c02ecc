-- Definitions of types are blind to ignored tokens.
use Rattle.std.proofs.Common.{◌≡◌, refl}
use Rattle.gql_source.specs.declared.file_id.FileId.{FileId}
use Rattle.gql_grammar.specs.declared.syntax_kind.SyntaxKind.TheVariants as kind
use Rattle.gql_cst.specs.Forest.{Forest}
use Rattle.gql_cst.specs.Bare.{bare, TokensEnd}
use Rattle.gql_ast.specs.Definitions.{interfaces, members, scalar_of, object_of, interface_of, union_of, enum_of, input_object_of}
use Rattle.gql_ast_base.specs.Parts.{Text}
use Rattle.gql_ast_laws.proofs.Blind.{Blind, none_at, choice_at}
use Rattle.gql_ast_laws.proofs.Inner.{gather_inside}
use Rattle.gql_ast_laws.proofs.Named.{nth_name-bare}
use Rattle.gql_ast_laws.proofs.Places.{location_bare}
use Rattle.gql_ast_laws.proofs.TypeMeaning.{named_type-blind}
use Rattle.gql_ast_laws.proofs.DirectiveMeaning.{description-bare, directives-bare}
use Rattle.gql_ast_laws.proofs.FieldMeaning.{fields-bare, input_fields-bare, enum_values-bare}

pub interfaces-bare : (text : Text) (file : FileId) (row : Forest) → TokensEnd row → interfaces text file (bare row) ≡ interfaces text file row
unfolding interfaces
interfaces-bare text file row h = gather_inside (named_type-blind text file) kind.ImplementsInterfaces refl row h

pub members-bare : (text : Text) (file : FileId) (row : Forest) → TokensEnd row → members text file (bare row) ≡ members text file row
unfolding members
members-bare text file row h = gather_inside (named_type-blind text file) kind.UnionMemberTypes refl row h

module _ (text : Text) (file : FileId) where
  pub scalar-blind : Blind (scalar_of text file)
  unfolding scalar_of
  scalar-blind = record {
    at = λ k start end children h. choice_at _ _ kind.ScalarTypeDefinition refl h
        (λ i. rw (nth_name-bare text file 1 children i, description-bare text children i, directives-bare text file children i, location_bare file kind.ScalarTypeDefinition start end children refl i) refl) none_at;
  }

  pub object-blind : Blind (object_of text file)
  unfolding object_of
  object-blind = record {
    at = λ k start end children h. choice_at _ _ kind.ObjectTypeDefinition refl h
        (λ i. rw (nth_name-bare text file 1 children i, description-bare text children i, interfaces-bare text file children i, directives-bare text file children i, fields-bare text file children i, location_bare file kind.ObjectTypeDefinition start end children refl i) refl) none_at;
  }

  pub interface-blind : Blind (interface_of text file)
  unfolding interface_of
  interface-blind = record {
    at = λ k start end children h. choice_at _ _ kind.InterfaceTypeDefinition refl h
        (λ i. rw (nth_name-bare text file 1 children i, description-bare text children i, interfaces-bare text file children i, directives-bare text file children i, fields-bare text file children i, location_bare file kind.InterfaceTypeDefinition start end children refl i) refl) none_at;
  }

  pub union-blind : Blind (union_of text file)
  unfolding union_of
  union-blind = record {
    at = λ k start end children h. choice_at _ _ kind.UnionTypeDefinition refl h
        (λ i. rw (nth_name-bare text file 1 children i, description-bare text children i, directives-bare text file children i, members-bare text file children i, location_bare file kind.UnionTypeDefinition start end children refl i) refl) none_at;
  }

  pub enum-blind : Blind (enum_of text file)
  unfolding enum_of
  enum-blind = record {
    at = λ k start end children h. choice_at _ _ kind.EnumTypeDefinition refl h
        (λ i. rw (nth_name-bare text file 1 children i, description-bare text children i, directives-bare text file children i, enum_values-bare text file children i, location_bare file kind.EnumTypeDefinition start end children refl i) refl) none_at;
  }

  pub input_object-blind : Blind (input_object_of text file)
  unfolding input_object_of
  input_object-blind = record {
    at = λ k start end children h. choice_at _ _ kind.InputObjectTypeDefinition refl h
        (λ i. rw (nth_name-bare text file 1 children i, description-bare text children i, directives-bare text file children i, input_fields-bare text file children i, location_bare file kind.InputObjectTypeDefinition start end children refl i) refl) none_at;
  }
