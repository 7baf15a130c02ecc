-- The fields of each definition of a document stand in its file.
use Rattle.std.proofs.Common.{List, Option, Some, None, All, subst}
use Rattle.std.specs.Prelude.{codes}
use Rattle.gql_source.specs.declared.file_id.FileId.{FileId}
use Rattle.gql_grammar.specs.declared.syntax_kind.SyntaxKind.TheVariants as kind
use Rattle.gql_cst.specs.Forest.{Forest, Plain, nothing, tree_then}
use Rattle.gql_ast.specs.declared.definition.Definition.{Definition}
use Rattle.gql_ast.specs.declared.definition.Definition.TheVariants as definition
use Rattle.gql_ast.specs.Documents.{executable_definition_of, schema_definition_of, type_definition_of, extension_of, choice_of, definition_of}
use Rattle.gql_ast_base.specs.Kinds.{is_kind}
use Rattle.gql_ast_base.specs.Parts.{Text, head, gather, first, inside, nth_name}
use Rattle.gql_ast_base.specs.Types.{type_of}
use Rattle.gql_ast.specs.declared.extension.InterfaceTypeExtension.{InterfaceTypeExtension}
use Rattle.gql_ast.specs.declared.extension.ObjectTypeExtension.{ObjectTypeExtension}
use Rattle.gql_ast.specs.declared.type_definition.InterfaceTypeDefinition.{InterfaceTypeDefinition}
use Rattle.gql_ast.specs.declared.type_definition.ObjectTypeDefinition.{ObjectTypeDefinition}
use Rattle.gql_ast.specs.Definitions.{scalar_of, object_of, interface_of, union_of, enum_of, input_object_of}
use Rattle.gql_ast.specs.Extensions.{extends, schema_extension_of, scalar_extension_of, object_extension_of, interface_extension_of}
use Rattle.gql_ast.specs.Extensions.{union_extension_of, enum_extension_of, input_object_extension_of}
use Rattle.gql_ast.specs.Fields.{field_of, fields}
use Rattle.gql_ast.specs.Operations.{operation_of, fragment_of}
use Rattle.gql_ast.specs.Schemas.{directive_definition_of, schema_of}
use Rattle.gql_ast_laws.specs.FieldsIn.{IsFieldIn, HasFieldsIn}
use Rattle.gql_ast_laws.specs.Meant.{IsDocumentOf}
use Rattle.gql_ast_laws.proofs.Documents.{location-in}
use Rattle.gql_ast_laws.proofs.Kept.{Each, IfAny, all-of, head-any, if-any, map-any, map-always, or-any, then-always, then-each}

-- what holds of all that trees can stand for holds of what is gathered
gather-any : {X : Type 0} (P : X → Type 0) (f : Plain → Option X) → ((tree : Plain) → IfAny P (f tree)) → (row : Forest) → Each P (gather f row)
gather-any P f h nothing = tt
gather-any P f h (tree_then k start end children rest) =
    let tree : Plain = record { kind = k; start = start; end = end; children = children } in
    then-each P (f tree) (gather f rest) (h tree) (gather-any P f h rest)

module _ (text : Text) (file : FileId) where
  field-in : (tree : Plain) → IfAny (IsFieldIn file) (field_of text file tree)
  unfolding field_of
  field-in tree =
      if-any (IsFieldIn file) (is_kind tree.kind kind.FieldDefinition) _ None
      (then-always (IsFieldIn file) _ (nth_name text file 0 tree.children)
      (λ name. map-always (IsFieldIn file) _ (first (type_of text file) tree.children) (λ ty. location-in file tree))) tt

  fields-in : (row : Forest) → All (IsFieldIn file) (fields text file row)
  unfolding fields
  fields-in row =
      all-of (IsFieldIn file) (gather (field_of text file) (inside kind.FieldsDefinition row))
      (gather-any (IsFieldIn file) (field_of text file) field-in (inside kind.FieldsDefinition row))

  -- ---- definitions

  abbrev HasIn : Definition → Type 0
  HasIn = HasFieldsIn file

  abbrev ObjectIn : ObjectTypeDefinition → Type 0
  ObjectIn it = All (IsFieldIn file) it.fields

  abbrev InterfaceIn : InterfaceTypeDefinition → Type 0
  InterfaceIn it = All (IsFieldIn file) it.fields

  abbrev MoreObjectIn : ObjectTypeExtension → Type 0
  MoreObjectIn it = All (IsFieldIn file) it.fields

  abbrev MoreInterfaceIn : InterfaceTypeExtension → Type 0
  MoreInterfaceIn it = All (IsFieldIn file) it.fields

  object-in : (tree : Plain) → IfAny ObjectIn (object_of text file tree)
  unfolding object_of
  object-in tree =
      if-any ObjectIn (is_kind tree.kind kind.ObjectTypeDefinition) _ None
      (map-always ObjectIn _ (nth_name text file 1 tree.children) (λ name. fields-in tree.children)) tt

  interface-in : (tree : Plain) → IfAny InterfaceIn (interface_of text file tree)
  unfolding interface_of
  interface-in tree =
      if-any InterfaceIn (is_kind tree.kind kind.InterfaceTypeDefinition) _ None
      (map-always InterfaceIn _ (nth_name text file 1 tree.children) (λ name. fields-in tree.children)) tt

  more-object-in : (tree : Plain) → IfAny MoreObjectIn (object_extension_of text file tree)
  unfolding object_extension_of
  more-object-in tree =
      if-any MoreObjectIn (extends text (codes "type") tree) _ None
      (map-always MoreObjectIn _ (nth_name text file 2 tree.children) (λ name. fields-in tree.children)) tt

  more-interface-in : (tree : Plain) → IfAny MoreInterfaceIn (interface_extension_of text file tree)
  unfolding interface_extension_of
  more-interface-in tree =
      if-any MoreInterfaceIn (extends text (codes "interface") tree) _ None
      (map-always MoreInterfaceIn _ (nth_name text file 2 tree.children) (λ name. fields-in tree.children)) tt

  executable-in : (tree : Plain) → IfAny HasIn (executable_definition_of text file tree)
  unfolding executable_definition_of
  executable-in tree =
      or-any HasIn _ _ (map-always HasIn definition.OperationDefinition (operation_of text file tree) (λ it. tt))
      (map-always HasIn definition.FragmentDefinition (fragment_of text file tree) (λ it. tt))

  schema-in : (tree : Plain) → IfAny HasIn (schema_definition_of text file tree)
  unfolding schema_definition_of
  schema-in tree =
      or-any HasIn _ _ (map-always HasIn definition.DirectiveDefinition (directive_definition_of text file tree) (λ it. tt))
      (map-always HasIn definition.SchemaDefinition (schema_of text file tree) (λ it. tt))

  type-in : (tree : Plain) → IfAny HasIn (type_definition_of text file tree)
  unfolding type_definition_of
  type-in tree =
      or-any HasIn _ _ (map-always HasIn definition.ScalarTypeDefinition (scalar_of text file tree) (λ it. tt))
      (or-any HasIn _ _ (map-any HasIn definition.ObjectTypeDefinition (object_of text file tree) (object-in tree))
      (or-any HasIn _ _ (map-any HasIn definition.InterfaceTypeDefinition (interface_of text file tree) (interface-in tree))
      (or-any HasIn _ _ (map-always HasIn definition.UnionTypeDefinition (union_of text file tree) (λ it. tt))
      (or-any HasIn _ _ (map-always HasIn definition.EnumTypeDefinition (enum_of text file tree) (λ it. tt))
      (map-always HasIn definition.InputObjectTypeDefinition (input_object_of text file tree) (λ it. tt))))))

  extension-in : (tree : Plain) → IfAny HasIn (extension_of text file tree)
  unfolding extension_of
  extension-in tree =
      or-any HasIn _ _ (map-always HasIn definition.SchemaExtension (schema_extension_of text file tree) (λ it. tt))
      (or-any HasIn _ _ (map-always HasIn definition.ScalarTypeExtension (scalar_extension_of text file tree) (λ it. tt))
      (or-any HasIn _ _ (map-any HasIn definition.ObjectTypeExtension (object_extension_of text file tree) (more-object-in tree))
      (or-any HasIn _ _ (map-any HasIn definition.InterfaceTypeExtension (interface_extension_of text file tree) (more-interface-in tree))
      (or-any HasIn _ _ (map-always HasIn definition.UnionTypeExtension (union_extension_of text file tree) (λ it. tt))
      (or-any HasIn _ _ (map-always HasIn definition.EnumTypeExtension (enum_extension_of text file tree) (λ it. tt))
      (map-always HasIn definition.InputObjectTypeExtension (input_object_extension_of text file tree) (λ it. tt)))))))

  choice-in : (tree : Plain) → IfAny HasIn (choice_of text file tree)
  unfolding choice_of
  choice-in tree = or-any HasIn _ _ (executable-in tree) (or-any HasIn _ _ (schema-in tree) (or-any HasIn _ _ (type-in tree) (extension-in tree)))

  definition-in : (tree : Plain) → IfAny HasIn (definition_of text file tree)
  unfolding definition_of
  definition-in tree =
      if-any HasIn (is_kind tree.kind kind.Definition) (first (choice_of text file) tree.children) None
      (head-any HasIn (gather (choice_of text file) tree.children) (gather-any HasIn (choice_of text file) choice-in tree.children)) tt

pub document-in : (text : Text) (file : FileId) (meant : List Definition) → IsDocumentOf text file meant → All (HasFieldsIn file) meant
document-in text file meant is =
    subst (All (HasFieldsIn file)) is.means
    (all-of (HasFieldsIn file) (gather (definition_of text file) is.children)
    (gather-any (HasFieldsIn file) (definition_of text file) (definition-in text file) is.children))
