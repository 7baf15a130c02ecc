-- Each definition of a document has constant defaults.
use Rattle.std.proofs.Common.{ℕ, Bool, true, false, nat_le, if◌then◌else◌, List, Option, Some, None, All, refl, subst}
use Rattle.std.specs.Prelude.{codes}
use Rattle.gql_source.specs.declared.file_id.FileId.{FileId}
use Rattle.gql_grammar.specs.declared.rule.Rule.{Rule}
use Rattle.gql_grammar.specs.declared.rule.Rule.TheVariants as rule
use Rattle.gql_grammar.specs.declared.syntax_kind.SyntaxKind.TheVariants as kind
use Rattle.gql_grammar.specs.declared.word.Word.{Word}
use Rattle.gql_grammar.specs.Nodes.{AllAllowed}
use Rattle.gql_grammar.specs.Row as row
use Rattle.gql_grammar.specs.Row.{Row}
use Rattle.gql_grammar.specs.Sentence.{Sentence}
use Rattle.gql_cst.specs.Forest.{Forest, Plain}
use Rattle.gql_cst.specs.Leaves.{leaves}
use Rattle.gql_cst.specs.Sentences.{words, shown}
use Rattle.gql_ast.specs.declared.definition.Definition.{Definition}
use Rattle.gql_ast.specs.declared.definition.Definition.TheVariants as definition
use Rattle.gql_ast.specs.Documents.{executable_definition_of, schema_definition_of, type_definition_of, extension_of, choice_of, definition_of}
use Rattle.gql_ast_base.specs.Parts.{Text, head, gather, first, child, inside, nth_name, nth_text, is_word, span, tree_start, tree_end, location}
use Rattle.gql_ast.specs.declared.extension.InputObjectTypeExtension.{InputObjectTypeExtension}
use Rattle.gql_ast.specs.declared.field_definition.InputValueDefinition.{InputValueDefinition}
use Rattle.gql_ast.specs.declared.type_definition.InputObjectTypeDefinition.{InputObjectTypeDefinition}
use Rattle.gql_ast.specs.Definitions.{scalar_of, object_of, interface_of, union_of, enum_of, input_object_of}
use Rattle.gql_ast.specs.Extensions.{extends, schema_extension_of, scalar_extension_of, object_extension_of, interface_extension_of}
use Rattle.gql_ast.specs.Extensions.{union_extension_of, enum_extension_of, input_object_extension_of}
use Rattle.gql_ast.specs.Fields.{input_value_of, input_fields}
use Rattle.gql_ast.specs.Schemas.{directive_definition_of, schema_of}
use Rattle.gql_ast_laws.specs.Meant.{IsDocumentOf}
use Rattle.gql_ast.specs.declared.operation.OperationDefinition.{OperationDefinition}
use Rattle.gql_ast.specs.declared.operation.VariableDefinition.{VariableDefinition}
use Rattle.gql_ast.specs.Operations.{variable_of, variables, operation_of, fragment_of}
use Rattle.gql_ast_base.specs.Types.{type_of}
use Rattle.gql_ast_laws.specs.Defaults.{IsIn, IsConstantVariable, IsConstantField, HasConstantDefaults}
use Rattle.gql_ast_laws.proofs.Kept.{IfAny, IsKnown, all-of, head-any, or-any, map-any, map-always, then-always, gather-each, kind-any, kind-also-any, inside-allowed}
use Rattle.gql_ast_laws.proofs.Values.{default-constant}

span-in : (file : FileId) (start end : Option ℕ) → IsIn file (span file start end)
span-in file None end = tt
span-in file (Some start) None = tt
span-in file (Some start) (Some end) = by_test (nat_le start end)
  where
    by_test : (b : Bool) → IsIn file (if b then Some (record { file_id = file; offset = start; end_offset = end }) else None)
    by_test true = refl
    by_test false = tt

pub location-in : (file : FileId) (tree : Plain) → IsIn file (location file tree)
unfolding location
location-in file tree = span-in file (tree_start tree) (tree_end tree)

module _ (text : Text) (file : FileId) where
  -- ---- variables and input fields

  variable-constant : (tree : Plain) → IsKnown text tree → IfAny IsConstantVariable (variable_of text file tree)
  unfolding variable_of
  variable-constant tree known =
      kind-any text IsConstantVariable kind.VariableDefinition refl tree known _
      (λ a. then-always IsConstantVariable _ (nth_name text file 0 (inside kind.Variable tree.children))
      (λ name. map-always IsConstantVariable _ (first (type_of text file) tree.children) (λ ty. default-constant text file tree.children a)))

  variables-constant : (row : Forest) → AllAllowed (shown text row) → All IsConstantVariable (variables text file row)
  unfolding variables
  variables-constant row a =
      all-of IsConstantVariable (gather (variable_of text file) (inside kind.VariableDefinitions row))
      (gather-each text IsConstantVariable (variable_of text file) variable-constant (inside kind.VariableDefinitions row) (inside-allowed text kind.VariableDefinitions refl row a))

  field-constant : (tree : Plain) → IsKnown text tree → IfAny (IsConstantField file) (input_value_of text file tree)
  unfolding input_value_of
  field-constant tree known =
      kind-any text (IsConstantField file) kind.InputValueDefinition refl tree known _
      (λ a. then-always (IsConstantField file) _ (nth_name text file 0 tree.children)
      (λ name. map-always (IsConstantField file) _ (first (type_of text file) tree.children)
      (λ ty. record { constant = default-constant text file tree.children a; place = location-in file tree })))

  fields-constant : (row : Forest) → AllAllowed (shown text row) → All (IsConstantField file) (input_fields text file row)
  unfolding input_fields
  fields-constant row a =
      all-of (IsConstantField file) (gather (input_value_of text file) (inside kind.InputFieldsDefinition row))
      (gather-each text (IsConstantField file) (input_value_of text file) field-constant (inside kind.InputFieldsDefinition row) (inside-allowed text kind.InputFieldsDefinition refl row a))

  -- ---- definitions

  abbrev HasDefaults : Definition → Type 0
  HasDefaults = HasConstantDefaults file

  operation-constant : (tree : Plain) → IsKnown text tree → IfAny (λ (it : OperationDefinition). All IsConstantVariable it.variables) (operation_of text file tree)
  unfolding operation_of
  operation-constant tree known =
      kind-any text (λ (it : OperationDefinition). All IsConstantVariable it.variables) kind.OperationDefinition refl tree known _
      (λ a. map-always (λ (it : OperationDefinition). All IsConstantVariable it.variables) _ (child kind.SelectionSet tree.children) (λ set. variables-constant tree.children a))

  input_object-constant : (tree : Plain) → IsKnown text tree → IfAny (λ (it : InputObjectTypeDefinition). All (IsConstantField file) it.fields) (input_object_of text file tree)
  unfolding input_object_of
  input_object-constant tree known =
      kind-any text (λ (it : InputObjectTypeDefinition). All (IsConstantField file) it.fields) kind.InputObjectTypeDefinition refl tree known _
      (λ a. map-always (λ (it : InputObjectTypeDefinition). All (IsConstantField file) it.fields) _ (nth_name text file 1 tree.children) (λ name. fields-constant tree.children a))

  input_extension-constant : (tree : Plain) → IsKnown text tree
      → IfAny (λ (it : InputObjectTypeExtension). All (IsConstantField file) it.fields) (input_object_extension_of text file tree)
  unfolding input_object_extension_of extends
  input_extension-constant tree known =
      kind-also-any text (λ (it : InputObjectTypeExtension). All (IsConstantField file) it.fields) kind.Extension refl tree known (is_word (nth_text text 1 tree.children) (codes "input")) _
      (λ a. map-always (λ (it : InputObjectTypeExtension). All (IsConstantField file) it.fields) _ (nth_name text file 2 tree.children) (λ name. fields-constant tree.children a))

  executable-constant : (tree : Plain) → IsKnown text tree → IfAny HasDefaults (executable_definition_of text file tree)
  unfolding executable_definition_of
  executable-constant tree known =
      or-any HasDefaults _ _ (map-any HasDefaults definition.OperationDefinition (operation_of text file tree) (operation-constant tree known))
      (map-always HasDefaults definition.FragmentDefinition (fragment_of text file tree) (λ it. tt))

  schema-constant : (tree : Plain) → IfAny HasDefaults (schema_definition_of text file tree)
  unfolding schema_definition_of
  schema-constant tree =
      or-any HasDefaults _ _ (map-always HasDefaults definition.DirectiveDefinition (directive_definition_of text file tree) (λ it. tt))
      (map-always HasDefaults definition.SchemaDefinition (schema_of text file tree) (λ it. tt))

  type-constant : (tree : Plain) → IsKnown text tree → IfAny HasDefaults (type_definition_of text file tree)
  unfolding type_definition_of
  type-constant tree known =
      or-any HasDefaults _ _ (map-always HasDefaults definition.ScalarTypeDefinition (scalar_of text file tree) (λ it. tt))
      (or-any HasDefaults _ _ (map-always HasDefaults definition.ObjectTypeDefinition (object_of text file tree) (λ it. tt))
      (or-any HasDefaults _ _ (map-always HasDefaults definition.InterfaceTypeDefinition (interface_of text file tree) (λ it. tt))
      (or-any HasDefaults _ _ (map-always HasDefaults definition.UnionTypeDefinition (union_of text file tree) (λ it. tt))
      (or-any HasDefaults _ _ (map-always HasDefaults definition.EnumTypeDefinition (enum_of text file tree) (λ it. tt))
      (map-any HasDefaults definition.InputObjectTypeDefinition (input_object_of text file tree) (input_object-constant tree known))))))

  extension-constant : (tree : Plain) → IsKnown text tree → IfAny HasDefaults (extension_of text file tree)
  unfolding extension_of
  extension-constant tree known =
      or-any HasDefaults _ _ (map-always HasDefaults definition.SchemaExtension (schema_extension_of text file tree) (λ it. tt))
      (or-any HasDefaults _ _ (map-always HasDefaults definition.ScalarTypeExtension (scalar_extension_of text file tree) (λ it. tt))
      (or-any HasDefaults _ _ (map-always HasDefaults definition.ObjectTypeExtension (object_extension_of text file tree) (λ it. tt))
      (or-any HasDefaults _ _ (map-always HasDefaults definition.InterfaceTypeExtension (interface_extension_of text file tree) (λ it. tt))
      (or-any HasDefaults _ _ (map-always HasDefaults definition.UnionTypeExtension (union_extension_of text file tree) (λ it. tt))
      (or-any HasDefaults _ _ (map-always HasDefaults definition.EnumTypeExtension (enum_extension_of text file tree) (λ it. tt))
      (map-any HasDefaults definition.InputObjectTypeExtension (input_object_extension_of text file tree) (input_extension-constant tree known)))))))

  choice-constant : (tree : Plain) → IsKnown text tree → IfAny HasDefaults (choice_of text file tree)
  unfolding choice_of
  choice-constant tree known =
      or-any HasDefaults _ _ (executable-constant tree known)
      (or-any HasDefaults _ _ (schema-constant tree) (or-any HasDefaults _ _ (type-constant tree known) (extension-constant tree known)))

  definition-constant : (tree : Plain) → IsKnown text tree → IfAny HasDefaults (definition_of text file tree)
  unfolding definition_of
  definition-constant tree known =
      kind-any text HasDefaults kind.Definition refl tree known (first (choice_of text file) tree.children)
      (λ a. head-any HasDefaults (gather (choice_of text file) tree.children) (gather-each text HasDefaults (choice_of text file) choice-constant tree.children a))

-- ---- a document

abbrev pub NodesLaw : Type 0
NodesLaw = (start : Rule) (ws : List Word) (f : Row) → Sentence start ws f → AllAllowed f

pub document-constant : NodesLaw → (text : Text) (file : FileId) (meant : List Definition) → IsDocumentOf text file meant → All (HasConstantDefaults file) meant
document-constant law text file meant is =
    let whole = law rule.Document (words text (leaves is.children)) (row.node kind.Document (shown text is.children) row.nothing) is.tree.sentence in
    subst (All (HasConstantDefaults file)) is.means
    (all-of (HasConstantDefaults file) (gather (definition_of text file) is.children)
    (gather-each text (HasConstantDefaults file) (definition_of text file) (definition-constant text file) is.children whole.1.0))
