-- What only rows of one sort of node keep, once a part more has come.
use Rattle.std.proofs.Common.{◌≡◌, List, Option, Some, None, refl}
use Rattle.std.specs.Prelude.{option_and_then}
use Rattle.gql_source.specs.declared.file_id.FileId.{FileId}
use Rattle.gql_ast_base.specs.Names.{Named}
use Rattle.gql_ast_base.specs.Parts.{Text}
use Rattle.gql_ast_base.specs.declared.directive.Argument.{Argument}
use Rattle.gql_ast_base.specs.declared.directive.Directive.{Directive}
use Rattle.gql_ast_base.specs.declared.value.Value.{Value}
use Rattle.gql_ast_base.specs.declared.value.ValueKind.{ValueKind}
use Rattle.gql_ast.specs.declared.selection.Selection.{Selection}
use Rattle.gql_ast.specs.declared.operation.VariableDefinition.{VariableDefinition}
use Rattle.gql_ast.specs.declared.field_definition.FieldDefinition.{FieldDefinition}
use Rattle.gql_ast.specs.declared.field_definition.InputValueDefinition.{InputValueDefinition}
use Rattle.gql_ast.specs.declared.field_definition.EnumValueDefinition.{EnumValueDefinition}
use Rattle.gql_ast.specs.declared.definition.Definition.{Definition}
use Rattle.gql_ast_reader.specs.declared.part.Part.{Part}
use Rattle.gql_ast_reader.specs.declared.part.Part.TheVariants as part
use Rattle.gql_ast_reader.specs.declared.row.Own.TheVariants as own
use Rattle.gql_ast_reader.specs.bridge.Taking.{kept, added, own_taken}
use Rattle.gql_ast_reader.specs.bridge.Taking.{argument_part, directive_part, selection_part, value_part, pair_part, variable_part, input_part, field_part, enum_value_part, choice_part, defined_part, definition_part, name_part, content_part, text_part}
use Rattle.gql_ast_reader.proofs.Sorts.{with_part}

module _ (text : Text) (file : FileId) where
  pub own-nothing : (p : Option Part) → own.Nothing ≡ with_part (own_taken text file) own.Nothing p
  own-nothing None = refl
  own-nothing (Some (part.Item i)) = refl
  own-nothing (Some (part.Literal place)) = refl
  own-nothing (Some (part.Named r place)) = refl
  own-nothing (Some _) = refl

  pub own-content : (slot : Option ValueKind) (p : Option Part) → own.Content (kept slot (option_and_then (content_part text file) p)) ≡ with_part (own_taken text file) (own.Content slot) p
  own-content slot None = refl
  own-content slot (Some (part.Item i)) = refl
  own-content slot (Some (part.Literal place)) = refl
  own-content slot (Some (part.Named r place)) = refl
  own-content slot (Some _) = refl

  pub own-text : (slot : Option Text) (p : Option Part) → own.Text (kept slot (option_and_then (text_part text) p)) ≡ with_part (own_taken text file) (own.Text slot) p
  own-text slot None = refl
  own-text slot (Some (part.Item i)) = refl
  own-text slot (Some (part.Literal place)) = refl
  own-text slot (Some (part.Named r place)) = refl
  own-text slot (Some _) = refl

  pub own-value : (slot : Option Value) (p : Option Part) → own.Value (kept slot (option_and_then (value_part) p)) ≡ with_part (own_taken text file) (own.Value slot) p
  own-value slot None = refl
  own-value slot (Some (part.Item i)) = refl
  own-value slot (Some (part.Literal place)) = refl
  own-value slot (Some (part.Named r place)) = refl
  own-value slot (Some _) = refl

  pub own-choice : (slot : Option Selection) (p : Option Part) → own.Choice (kept slot (option_and_then (choice_part) p)) ≡ with_part (own_taken text file) (own.Choice slot) p
  own-choice slot None = refl
  own-choice slot (Some (part.Item i)) = refl
  own-choice slot (Some (part.Literal place)) = refl
  own-choice slot (Some (part.Named r place)) = refl
  own-choice slot (Some _) = refl

  pub own-defined : (slot : Option Definition) (p : Option Part) → own.Defined (kept slot (option_and_then (defined_part) p)) ≡ with_part (own_taken text file) (own.Defined slot) p
  own-defined slot None = refl
  own-defined slot (Some (part.Item i)) = refl
  own-defined slot (Some (part.Literal place)) = refl
  own-defined slot (Some (part.Named r place)) = refl
  own-defined slot (Some _) = refl

  pub own-arguments : (list : List Argument) (p : Option Part) → own.Arguments (added list (option_and_then (argument_part) p)) ≡ with_part (own_taken text file) (own.Arguments list) p
  own-arguments list None = refl
  own-arguments list (Some (part.Item i)) = refl
  own-arguments list (Some (part.Literal place)) = refl
  own-arguments list (Some (part.Named r place)) = refl
  own-arguments list (Some _) = refl

  pub own-directives : (list : List Directive) (p : Option Part) → own.Directives (added list (option_and_then (directive_part) p)) ≡ with_part (own_taken text file) (own.Directives list) p
  own-directives list None = refl
  own-directives list (Some (part.Item i)) = refl
  own-directives list (Some (part.Literal place)) = refl
  own-directives list (Some (part.Named r place)) = refl
  own-directives list (Some _) = refl

  pub own-selections : (list : List Selection) (p : Option Part) → own.Selections (added list (option_and_then (selection_part) p)) ≡ with_part (own_taken text file) (own.Selections list) p
  own-selections list None = refl
  own-selections list (Some (part.Item i)) = refl
  own-selections list (Some (part.Literal place)) = refl
  own-selections list (Some (part.Named r place)) = refl
  own-selections list (Some _) = refl

  pub own-values : (list : List Value) (p : Option Part) → own.Values (added list (option_and_then (value_part) p)) ≡ with_part (own_taken text file) (own.Values list) p
  own-values list None = refl
  own-values list (Some (part.Item i)) = refl
  own-values list (Some (part.Literal place)) = refl
  own-values list (Some (part.Named r place)) = refl
  own-values list (Some _) = refl

  pub own-pairs : (list : List (Named × Value)) (p : Option Part) → own.Pairs (added list (option_and_then (pair_part) p)) ≡ with_part (own_taken text file) (own.Pairs list) p
  own-pairs list None = refl
  own-pairs list (Some (part.Item i)) = refl
  own-pairs list (Some (part.Literal place)) = refl
  own-pairs list (Some (part.Named r place)) = refl
  own-pairs list (Some _) = refl

  pub own-variables : (list : List VariableDefinition) (p : Option Part) → own.Variables (added list (option_and_then (variable_part) p)) ≡ with_part (own_taken text file) (own.Variables list) p
  own-variables list None = refl
  own-variables list (Some (part.Item i)) = refl
  own-variables list (Some (part.Literal place)) = refl
  own-variables list (Some (part.Named r place)) = refl
  own-variables list (Some _) = refl

  pub own-inputs : (list : List InputValueDefinition) (p : Option Part) → own.Inputs (added list (option_and_then (input_part) p)) ≡ with_part (own_taken text file) (own.Inputs list) p
  own-inputs list None = refl
  own-inputs list (Some (part.Item i)) = refl
  own-inputs list (Some (part.Literal place)) = refl
  own-inputs list (Some (part.Named r place)) = refl
  own-inputs list (Some _) = refl

  pub own-fields : (list : List FieldDefinition) (p : Option Part) → own.Fields (added list (option_and_then (field_part) p)) ≡ with_part (own_taken text file) (own.Fields list) p
  own-fields list None = refl
  own-fields list (Some (part.Item i)) = refl
  own-fields list (Some (part.Literal place)) = refl
  own-fields list (Some (part.Named r place)) = refl
  own-fields list (Some _) = refl

  pub own-enumvalues : (list : List EnumValueDefinition) (p : Option Part) → own.EnumValues (added list (option_and_then (enum_value_part) p)) ≡ with_part (own_taken text file) (own.EnumValues list) p
  own-enumvalues list None = refl
  own-enumvalues list (Some (part.Item i)) = refl
  own-enumvalues list (Some (part.Literal place)) = refl
  own-enumvalues list (Some (part.Named r place)) = refl
  own-enumvalues list (Some _) = refl

  pub own-names : (list : List Named) (p : Option Part) → own.Names (added list (option_and_then (name_part text file) p)) ≡ with_part (own_taken text file) (own.Names list) p
  own-names list None = refl
  own-names list (Some (part.Item i)) = refl
  own-names list (Some (part.Literal place)) = refl
  own-names list (Some (part.Named r place)) = refl
  own-names list (Some _) = refl

  pub own-definitions : (list : List Definition) (p : Option Part) → own.Definitions (added list (option_and_then (definition_part) p)) ≡ with_part (own_taken text file) (own.Definitions list) p
  own-definitions list None = refl
  own-definitions list (Some (part.Item i)) = refl
  own-definitions list (Some (part.Literal place)) = refl
  own-definitions list (Some (part.Named r place)) = refl
  own-definitions list (Some _) = refl
