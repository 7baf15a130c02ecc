-- Forms of the language: how a thing that is shown is written, what a tree of the grammar stands for, and what both say.
use Rattle.std.specs.Prelude.{◌≡◌, ◌≤◌, List, map, Option, Some}
use Rattle.gql_source.specs.declared.file_id.FileId.{FileId}
use Rattle.gql_ast.specs.Documents.{definition_of}
use Rattle.gql_ast.specs.declared.definition.Definition.{Definition}
use Rattle.gql_ast.specs.Fields.{input_value_of, field_of, enum_value_of}
use Rattle.gql_ast.specs.declared.field_definition.EnumValueDefinition.{EnumValueDefinition}
use Rattle.gql_ast.specs.declared.field_definition.FieldDefinition.{FieldDefinition}
use Rattle.gql_ast.specs.declared.field_definition.InputValueDefinition.{InputValueDefinition}
use Rattle.gql_ast_laws.specs.Meant.{IsDocumentOf}
use Rattle.gql_cst.specs.Forest.{Forest, Plain as Tree}
use Rattle.gql_cst.specs.Nesting.{nesting}
use Rattle.gql_cst.specs.TreeOf.{IsTreeOf}
use Rattle.gql_grammar.specs.declared.rule.Rule.{Rule}
use Rattle.gql_grammar.specs.declared.rule.Rule.TheVariants as rule
use Rattle.gql_grammar.specs.declared.syntax_kind.SyntaxKind.{SyntaxKind}
use Rattle.gql_grammar.specs.declared.syntax_kind.SyntaxKind.TheVariants as kind
use Rattle.gql_sdl.specs.Definitions.{type_definition_text, directive_text}
use Rattle.gql_sdl.specs.Forms.{input_text, field_text, enum_value_text}
use Rattle.gql_sdl.specs.Schemas.{roots_text}
use Rattle.gql_sdl.specs.declared.shown.ShownDirective.{ShownDirective}
use Rattle.gql_sdl.specs.declared.shown.ShownEnumValue.{ShownEnumValue}
use Rattle.gql_sdl.specs.declared.shown.ShownField.{ShownField}
use Rattle.gql_sdl.specs.declared.shown.ShownInput.{ShownInput}
use Rattle.gql_sdl.specs.declared.shown.ShownSchema.{ShownSchema}
use Rattle.gql_sdl.specs.declared.shown.ShownType.{ShownType}
use Rattle.gql_print_laws.specs.Depth.{most_levels}
use Rattle.gql_print_laws.specs.Meant.{input_says, field_says, enum_value_says, says}
use Rattle.gql_print_laws.specs.Plain.{Text, Input, Field, EnumValue, Plain}
use Rattle.gql_print_laws.specs.Told.{input_told, field_told, enum_value_told, named_type_told, directive_told, roots_told, schema_told}

-- a form in which X is shown, T is meant by a tree, and V is what both say
pub record Form (X T V : Type 0) : Type 0 where
  pub rule : Rule
  pub kind : SyntaxKind
  pub written : X → Text
  pub meant : Text → FileId → Tree → Option T
  pub says : T → V
  pub told : X → V

-- the text is a sentence of the form's rule, and stands for this
pub record IsMeant {X T V : Type 0} (form : Form X T V) (text : Text) (file : FileId) (meant : T) : Type 0 where
  pub children : Forest
  pub tree : IsTreeOf form.rule text children
  pub means : form.meant text file (record { kind = form.kind; start = 0; end = 0; children = children }) ≡ Some meant

-- what is written stands for one thing, and no other, which says what was shown
pub record IsReadBack {X T V : Type 0} (form : Form X T V) (file : FileId) (it : X) : Type 0 where
  pub read : T
  pub is : IsMeant form (form.written it) file read
  pub alone : (other : T) → IsMeant form (form.written it) file other → other ≡ read
  pub same : form.says read ≡ form.told it

-- an argument, or a field of an input object
abbrev pub input_form : Form ShownInput InputValueDefinition Input
input_form = record {
  rule = rule.InputValueDefinition;
  kind = kind.InputValueDefinition;
  written = input_text;
  meant = input_value_of;
  says = input_says;
  told = input_told;
}

abbrev pub field_form : Form ShownField FieldDefinition Field
field_form = record {
  rule = rule.FieldDefinition;
  kind = kind.FieldDefinition;
  written = field_text;
  meant = field_of;
  says = field_says;
  told = field_told;
}

abbrev pub enum_value_form : Form ShownEnumValue EnumValueDefinition EnumValue
enum_value_form = record {
  rule = rule.EnumValueDefinition;
  kind = kind.EnumValueDefinition;
  written = enum_value_text;
  meant = enum_value_of;
  says = enum_value_says;
  told = enum_value_told;
}

-- definitions
abbrev pub definition_form : {X : Type 0} → (X → Text) → (X → Plain) → Form X Definition Plain
definition_form written told = record {
  rule = rule.Definition;
  kind = kind.Definition;
  written = written;
  meant = definition_of;
  says = says;
  told = told;
}

abbrev pub named_type_form : Form ShownType Definition Plain
named_type_form = definition_form type_definition_text named_type_told

abbrev pub directive_form : Form ShownDirective Definition Plain
directive_form = definition_form directive_text directive_told

abbrev pub roots_form : Form ShownSchema Definition Plain
roots_form = definition_form roots_text roots_told

-- the text is a document whose definitions say what is shown of a schema
pub record SaysSchema (file : FileId) (text : Text) (it : ShownSchema) : Type 0 where
  pub definitions : List Definition
  pub document : IsDocumentOf text file definitions
  pub nested : nesting document.children ≤ most_levels
  pub same : map says definitions ≡ schema_told it
