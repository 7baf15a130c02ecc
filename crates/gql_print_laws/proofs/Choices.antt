-- What a definition is, by the kind of the node that stands under it.
use Rattle.std.proofs.Common.{◌≡◌, Some, refl}
use Rattle.gql_source.specs.declared.file_id.FileId.{FileId}
use Rattle.gql_cst.specs.Forest.{Forest, nothing, tree_then}
use Rattle.gql_grammar.specs.declared.syntax_kind.SyntaxKind.{SyntaxKind}
use Rattle.gql_grammar.specs.declared.syntax_kind.SyntaxKind.TheVariants as kind
use Rattle.gql_ast_base.specs.Kinds.{is_kind}
use Rattle.gql_ast_base.specs.Parts.{Text}
use Rattle.gql_ast.specs.Definitions.{scalar_of, object_of, interface_of, union_of, enum_of, input_object_of}
use Rattle.gql_ast.specs.Operations.{operation_of, fragment_of}
use Rattle.gql_ast.specs.Schemas.{directive_definition_of, schema_of}
use Rattle.gql_ast.specs.declared.schema_definition.DirectiveDefinition.{DirectiveDefinition}
use Rattle.gql_ast.specs.declared.schema_definition.SchemaDefinition.{SchemaDefinition}
use Rattle.gql_ast.specs.declared.type_definition.EnumTypeDefinition.{EnumTypeDefinition}
use Rattle.gql_ast.specs.declared.type_definition.InputObjectTypeDefinition.{InputObjectTypeDefinition}
use Rattle.gql_ast.specs.declared.type_definition.InterfaceTypeDefinition.{InterfaceTypeDefinition}
use Rattle.gql_ast.specs.declared.type_definition.ObjectTypeDefinition.{ObjectTypeDefinition}
use Rattle.gql_ast.specs.declared.type_definition.ScalarTypeDefinition.{ScalarTypeDefinition}
use Rattle.gql_ast.specs.declared.type_definition.UnionTypeDefinition.{UnionTypeDefinition}
use Rattle.gql_ast.specs.declared.definition.Definition.{Definition}
use Rattle.gql_ast.specs.declared.definition.Definition.TheVariants as definition
use Rattle.gql_ast.specs.Documents.{executable_definition_of, schema_definition_of, type_definition_of, choice_of, definition_of}
use Rattle.gql_ast_laws.proofs.Blind.{tree}

module _ (text : Text) (file : FileId) where
  pub defined : (k : SyntaxKind) (row : Forest) (d : Definition) → choice_of text file (tree k 0 0 row) ≡ Some d
      → definition_of text file (tree kind.Definition 0 0 (tree_then k 0 0 row nothing)) ≡ Some d
  unfolding definition_of is_kind
  defined k row d h = rw h refl

  pub is_directive : (row : Forest) (d : DirectiveDefinition) → directive_definition_of text file (tree kind.DirectiveDefinition 0 0 row) ≡ Some d
      → choice_of text file (tree kind.DirectiveDefinition 0 0 row) ≡ Some (definition.DirectiveDefinition d)
  unfolding choice_of executable_definition_of schema_definition_of operation_of fragment_of is_kind
  is_directive row d h = rw h refl

  pub is_schema : (row : Forest) (d : SchemaDefinition) → schema_of text file (tree kind.SchemaDefinition 0 0 row) ≡ Some d
      → choice_of text file (tree kind.SchemaDefinition 0 0 row) ≡ Some (definition.SchemaDefinition d)
  unfolding choice_of executable_definition_of schema_definition_of operation_of fragment_of directive_definition_of is_kind
  is_schema row d h = rw h refl

  pub is_scalar : (row : Forest) (d : ScalarTypeDefinition) → scalar_of text file (tree kind.ScalarTypeDefinition 0 0 row) ≡ Some d
      → choice_of text file (tree kind.ScalarTypeDefinition 0 0 row) ≡ Some (definition.ScalarTypeDefinition d)
  unfolding choice_of executable_definition_of schema_definition_of type_definition_of operation_of fragment_of directive_definition_of schema_of is_kind
  is_scalar row d h = rw h refl

  pub is_object : (row : Forest) (d : ObjectTypeDefinition) → object_of text file (tree kind.ObjectTypeDefinition 0 0 row) ≡ Some d
      → choice_of text file (tree kind.ObjectTypeDefinition 0 0 row) ≡ Some (definition.ObjectTypeDefinition d)
  unfolding choice_of executable_definition_of schema_definition_of type_definition_of operation_of fragment_of directive_definition_of schema_of scalar_of is_kind
  is_object row d h = rw h refl

  pub is_interface : (row : Forest) (d : InterfaceTypeDefinition) → interface_of text file (tree kind.InterfaceTypeDefinition 0 0 row) ≡ Some d
      → choice_of text file (tree kind.InterfaceTypeDefinition 0 0 row) ≡ Some (definition.InterfaceTypeDefinition d)
  unfolding choice_of executable_definition_of schema_definition_of type_definition_of operation_of fragment_of directive_definition_of schema_of scalar_of
      object_of is_kind
  is_interface row d h = rw h refl

  pub is_union : (row : Forest) (d : UnionTypeDefinition) → union_of text file (tree kind.UnionTypeDefinition 0 0 row) ≡ Some d
      → choice_of text file (tree kind.UnionTypeDefinition 0 0 row) ≡ Some (definition.UnionTypeDefinition d)
  unfolding choice_of executable_definition_of schema_definition_of type_definition_of operation_of fragment_of directive_definition_of schema_of scalar_of
      object_of interface_of is_kind
  is_union row d h = rw h refl

  pub is_enum : (row : Forest) (d : EnumTypeDefinition) → enum_of text file (tree kind.EnumTypeDefinition 0 0 row) ≡ Some d
      → choice_of text file (tree kind.EnumTypeDefinition 0 0 row) ≡ Some (definition.EnumTypeDefinition d)
  unfolding choice_of executable_definition_of schema_definition_of type_definition_of operation_of fragment_of directive_definition_of schema_of scalar_of
      object_of interface_of union_of is_kind
  is_enum row d h = rw h refl

  pub is_input_object : (row : Forest) (d : InputObjectTypeDefinition) → input_object_of text file (tree kind.InputObjectTypeDefinition 0 0 row) ≡ Some d
      → choice_of text file (tree kind.InputObjectTypeDefinition 0 0 row) ≡ Some (definition.InputObjectTypeDefinition d)
  unfolding choice_of executable_definition_of schema_definition_of type_definition_of operation_of fragment_of directive_definition_of schema_of scalar_of
      object_of interface_of union_of enum_of is_kind
  is_input_object row d h = rw h refl
