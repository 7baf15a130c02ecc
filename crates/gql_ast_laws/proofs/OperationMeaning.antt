-- Operations and fragments are blind to ignored tokens.
use Rattle.std.proofs.Common.{◌≡◌, refl, ap}
use Rattle.std.specs.Prelude.{option_and_then}
use Rattle.gql_source.specs.declared.file_id.FileId.{FileId}
use Rattle.gql_grammar.specs.declared.syntax_kind.SyntaxKind.TheVariants as kind
use Rattle.gql_cst.specs.Forest.{Forest}
use Rattle.gql_cst.specs.Bare.{bare, TokensEnd}
use Rattle.gql_ast_base.specs.OperationTypes.{operation_word, operation_type_of, operation_type_in}
use Rattle.gql_ast_base.specs.Values.{default_value, value_of}
use Rattle.gql_ast.specs.Operations.{variable_of, variables, operation_of, fragment_of}
use Rattle.gql_ast_base.specs.Parts.{Text, first}
use Rattle.gql_ast_laws.proofs.Blind.{Blind, none_at, choice_at}
use Rattle.gql_ast_laws.proofs.Gathered.{gather_blind, first_blind}
use Rattle.gql_ast_laws.proofs.Inner.{inside_same, gather_inside, child_map, child_then}
use Rattle.gql_ast_laws.proofs.Named.{nth_text-bare, nth_name-bare}
use Rattle.gql_ast_laws.proofs.Places.{location_bare}
use Rattle.gql_ast_laws.proofs.ValueMeaning.{value-blind}
use Rattle.gql_ast_laws.proofs.TypeMeaning.{type-blind}
use Rattle.gql_ast_laws.proofs.DirectiveMeaning.{directives-bare}
use Rattle.gql_ast_laws.proofs.SelectionMeaning.{type_condition-bare, name_inside, selection-blind}

operation_type-blind : (text : Text) → Blind (operation_type_of text)
unfolding operation_type_of
operation_type-blind text = record { at = λ k start end children h. choice_at _ _ kind.OperationType refl h (λ i. ap (λ o. option_and_then operation_word o) (nth_text-bare text 0 children i)) none_at }

pub operation_type-bare : (text : Text) (row : Forest) → TokensEnd row → operation_type_in text (bare row) ≡ operation_type_in text row
unfolding operation_type_in
operation_type-bare text row h = first_blind (operation_type-blind text) row h

module _ (text : Text) (file : FileId) where
  pub default_value-bare : (row : Forest) → TokensEnd row → default_value text file (bare row) ≡ default_value text file row
  unfolding default_value
  default_value-bare row h = inside_same (first (value_of text file)) (first_blind (value-blind text file)) kind.DefaultValue refl row h

  variable-blind : Blind (variable_of text file)
  unfolding variable_of
  variable-blind = record {
    at = λ k start end children h. choice_at _ _ kind.VariableDefinition refl h
        (λ i. rw (name_inside text file kind.Variable refl children i, first_blind (type-blind text file) children i, default_value-bare children i, directives-bare text file children i, location_bare file kind.VariableDefinition start end children refl i) refl) none_at;
  }

  variables-bare : (row : Forest) → TokensEnd row → variables text file (bare row) ≡ variables text file row
  unfolding variables
  variables-bare row h = gather_inside variable-blind kind.VariableDefinitions refl row h

  pub operation-blind : Blind (operation_of text file)
  unfolding operation_of
  operation-blind = record {
    at = λ k start end children h. choice_at _ _ kind.OperationDefinition refl h
        (λ i. rw (operation_type-bare text children i, nth_name-bare text file 0 children i, variables-bare children i, directives-bare text file children i, location_bare file kind.OperationDefinition start end children refl i)
        (child_map _ (λ t j. rw (gather_blind (selection-blind text file) t.children j) refl) kind.SelectionSet refl children i)) none_at;
  }

  pub fragment-blind : Blind (fragment_of text file)
  unfolding fragment_of
  fragment-blind = record {
    at = λ k start end children h. choice_at _ _ kind.FragmentDefinition refl h
        (λ i. rw (name_inside text file kind.FragmentName refl children i, type_condition-bare text file children i, directives-bare text file children i, location_bare file kind.FragmentDefinition start end children refl i)
        (child_then _ (λ t j. rw (gather_blind (selection-blind text file) t.children j) refl) kind.SelectionSet refl children i)) none_at;
  }
