-- The interfaces that definitions list, and the members of unions, stand in the text's file.
use Rattle.std.proofs.Common.{ℕ, Bool, true, false, nat_le, if◌then◌else◌, List, Option, Some, None, refl, subst}
use Rattle.std.specs.Prelude.{codes}
use Rattle.gql_source.specs.declared.file_id.FileId.{FileId}
use Rattle.gql_grammar.specs.declared.syntax_kind.SyntaxKind.TheVariants as kind
use Rattle.gql_cst.specs.Forest.{Forest, Plain, nothing, tree_then}
use Rattle.gql_ast.specs.declared.definition.Definition.{Definition}
use Rattle.gql_ast.specs.declared.definition.Definition.TheVariants as definition
use Rattle.gql_ast.specs.Documents.{executable_definition_of, schema_definition_of, type_definition_of, extension_of, choice_of, definition_of}
use Rattle.gql_ast_base.specs.Kinds.{is_kind}
use Rattle.gql_ast_base.specs.NamedTypes.{named_type_of}
use Rattle.gql_ast_base.specs.Names.{Named}
use Rattle.gql_ast_base.specs.Parts.{Text, gather, first, inside, nth_name, nth_word, name_of, word, span, tree_start, tree_end, location}
use Rattle.gql_ast.specs.declared.extension.InterfaceTypeExtension.{InterfaceTypeExtension}
use Rattle.gql_ast.specs.declared.extension.ObjectTypeExtension.{ObjectTypeExtension}
use Rattle.gql_ast.specs.declared.extension.UnionTypeExtension.{UnionTypeExtension}
use Rattle.gql_ast.specs.declared.type_definition.InterfaceTypeDefinition.{InterfaceTypeDefinition}
use Rattle.gql_ast.specs.declared.type_definition.ObjectTypeDefinition.{ObjectTypeDefinition}
use Rattle.gql_ast.specs.declared.type_definition.UnionTypeDefinition.{UnionTypeDefinition}
use Rattle.gql_ast.specs.Definitions.{scalar_of, object_of, interface_of, union_of, enum_of, input_object_of, interfaces, members}
use Rattle.gql_ast.specs.Extensions.{extends, schema_extension_of, scalar_extension_of, object_extension_of, interface_extension_of}
use Rattle.gql_ast.specs.Extensions.{union_extension_of, enum_extension_of, input_object_extension_of}
use Rattle.gql_ast.specs.Operations.{operation_of, fragment_of}
use Rattle.gql_ast.specs.Schemas.{directive_definition_of, schema_of}
use Rattle.gql_ast_laws.specs.Defaults.{IsIn}
use Rattle.gql_ast_laws.specs.Meant.{IsDocumentOf}
use Rattle.gql_ast_laws.proofs.Kept.{Each, IfAny, head-any, if-any, map-any, map-always, or-any, then-always, then-each}

abbrev pub IsNameIn : FileId → Named → Type 0
IsNameIn file name = IsIn file name.location

-- what an object type or an interface type lists, and the members of a union, and so in an extension of one
abbrev pub HasNamesIn : FileId → Definition → Type 0
HasNamesIn file (definition.ObjectTypeDefinition it) = Each (IsNameIn file) it.implements_interfaces
HasNamesIn file (definition.InterfaceTypeDefinition it) = Each (IsNameIn file) it.implements_interfaces
HasNamesIn file (definition.UnionTypeDefinition it) = Each (IsNameIn file) it.members
HasNamesIn file (definition.ObjectTypeExtension it) = Each (IsNameIn file) it.implements_interfaces
HasNamesIn file (definition.InterfaceTypeExtension it) = Each (IsNameIn file) it.implements_interfaces
HasNamesIn file (definition.UnionTypeExtension it) = Each (IsNameIn file) it.members
HasNamesIn file _ = Unit {0}

span-in : (file : FileId) (start end : Option ℕ) → IsIn file (span file start end)
span-in file None end = tt
span-in file (Some start) None = tt
span-in file (Some start) (Some end) = by_test (nat_le start end)
  where
    by_test : (b : Bool) → IsIn file (if b then Some (record { file_id = file; offset = start; end_offset = end }) else None)
    by_test true = refl
    by_test false = tt

location-in : (file : FileId) (tree : Plain) → IsIn file (location file tree)
unfolding location
location-in file tree = span-in file (tree_start tree) (tree_end tree)

-- what holds of all that trees can stand for holds of what is gathered
gather-any : {X : Type 0} (P : X → Type 0) (f : Plain → Option X) → ((tree : Plain) → IfAny P (f tree)) → (row : Forest) → Each P (gather f row)
gather-any P f h nothing = tt
gather-any P f h (tree_then k start end children rest) =
    let tree : Plain = record { kind = k; start = start; end = end; children = children } in
    then-each P (f tree) (gather f rest) (h tree) (gather-any P f h rest)

module _ (text : Text) (file : FileId) where
  name-in : (tree : Plain) → IfAny (IsNameIn file) (name_of text file tree)
  unfolding name_of
  name-in tree = map-always (IsNameIn file) _ (word text tree) (λ found. location-in file tree)

  nth-in : (n : ℕ) (row : Forest) → IfAny (IsNameIn file) (nth_name text file n row)
  unfolding nth_name
  nth-in n row = then-always (IsNameIn file) (name_of text file) (nth_word text n row) name-in

  type-name-in : (tree : Plain) → IfAny (IsNameIn file) (named_type_of text file tree)
  unfolding named_type_of
  type-name-in tree = if-any (IsNameIn file) (is_kind tree.kind kind.NamedType) (nth_name text file 0 tree.children) None (nth-in 0 tree.children) tt

  interfaces-in : (row : Forest) → Each (IsNameIn file) (interfaces text file row)
  unfolding interfaces
  interfaces-in row = gather-any (IsNameIn file) (named_type_of text file) type-name-in (inside kind.ImplementsInterfaces row)

  members-in : (row : Forest) → Each (IsNameIn file) (members text file row)
  unfolding members
  members-in row = gather-any (IsNameIn file) (named_type_of text file) type-name-in (inside kind.UnionMemberTypes row)

  -- ---- definitions

  abbrev HasIn : Definition → Type 0
  HasIn = HasNamesIn file

  abbrev ObjectIn : ObjectTypeDefinition → Type 0
  ObjectIn it = Each (IsNameIn file) it.implements_interfaces

  abbrev InterfaceIn : InterfaceTypeDefinition → Type 0
  InterfaceIn it = Each (IsNameIn file) it.implements_interfaces

  abbrev UnionIn : UnionTypeDefinition → Type 0
  UnionIn it = Each (IsNameIn file) it.members

  abbrev MoreObjectIn : ObjectTypeExtension → Type 0
  MoreObjectIn it = Each (IsNameIn file) it.implements_interfaces

  abbrev MoreInterfaceIn : InterfaceTypeExtension → Type 0
  MoreInterfaceIn it = Each (IsNameIn file) it.implements_interfaces

  abbrev MoreUnionIn : UnionTypeExtension → Type 0
  MoreUnionIn it = Each (IsNameIn file) it.members

  object-in : (tree : Plain) → IfAny ObjectIn (object_of text file tree)
  unfolding object_of
  object-in tree =
      if-any ObjectIn (is_kind tree.kind kind.ObjectTypeDefinition) _ None
      (map-always ObjectIn _ (nth_name text file 1 tree.children) (λ name. interfaces-in tree.children)) tt

  interface-in : (tree : Plain) → IfAny InterfaceIn (interface_of text file tree)
  unfolding interface_of
  interface-in tree =
      if-any InterfaceIn (is_kind tree.kind kind.InterfaceTypeDefinition) _ None
      (map-always InterfaceIn _ (nth_name text file 1 tree.children) (λ name. interfaces-in tree.children)) tt

  union-in : (tree : Plain) → IfAny UnionIn (union_of text file tree)
  unfolding union_of
  union-in tree =
      if-any UnionIn (is_kind tree.kind kind.UnionTypeDefinition) _ None
      (map-always UnionIn _ (nth_name text file 1 tree.children) (λ name. members-in tree.children)) tt

  more-object-in : (tree : Plain) → IfAny MoreObjectIn (object_extension_of text file tree)
  unfolding object_extension_of
  more-object-in tree =
      if-any MoreObjectIn (extends text (codes "type") tree) _ None
      (map-always MoreObjectIn _ (nth_name text file 2 tree.children) (λ name. interfaces-in tree.children)) tt

  more-interface-in : (tree : Plain) → IfAny MoreInterfaceIn (interface_extension_of text file tree)
  unfolding interface_extension_of
  more-interface-in tree =
      if-any MoreInterfaceIn (extends text (codes "interface") tree) _ None
      (map-always MoreInterfaceIn _ (nth_name text file 2 tree.children) (λ name. interfaces-in tree.children)) tt

  more-union-in : (tree : Plain) → IfAny MoreUnionIn (union_extension_of text file tree)
  unfolding union_extension_of
  more-union-in tree =
      if-any MoreUnionIn (extends text (codes "union") tree) _ None
      (map-always MoreUnionIn _ (nth_name text file 2 tree.children) (λ name. members-in tree.children)) tt

  executable-in : (tree : Plain) → IfAny HasIn (executable_definition_of text file tree)
  unfolding executable_definition_of
  executable-in tree =
      or-any HasIn _ _ (map-always HasIn definition.OperationDefinition (operation_of text file tree) (λ it. tt))
      (map-always HasIn definition.FragmentDefinition (fragment_of text file tree) (λ it. tt))

  schema-in : (tree : Plain) → IfAny HasIn (schema_definition_of text file tree)
  unfolding schema_definition_of
  schema-in tree =
      or-any HasIn _ _ (map-always HasIn definition.DirectiveDefinition (directive_definition_of text file tree) (λ it. tt))
      (map-always HasIn definition.SchemaDefinition (schema_of text file tree) (λ it. tt))

  type-in : (tree : Plain) → IfAny HasIn (type_definition_of text file tree)
  unfolding type_definition_of
  type-in tree =
      or-any HasIn _ _ (map-always HasIn definition.ScalarTypeDefinition (scalar_of text file tree) (λ it. tt))
      (or-any HasIn _ _ (map-any HasIn definition.ObjectTypeDefinition (object_of text file tree) (object-in tree))
      (or-any HasIn _ _ (map-any HasIn definition.InterfaceTypeDefinition (interface_of text file tree) (interface-in tree))
      (or-any HasIn _ _ (map-any HasIn definition.UnionTypeDefinition (union_of text file tree) (union-in tree))
      (or-any HasIn _ _ (map-always HasIn definition.EnumTypeDefinition (enum_of text file tree) (λ it. tt))
      (map-always HasIn definition.InputObjectTypeDefinition (input_object_of text file tree) (λ it. tt))))))

  extension-in : (tree : Plain) → IfAny HasIn (extension_of text file tree)
  unfolding extension_of
  extension-in tree =
      or-any HasIn _ _ (map-always HasIn definition.SchemaExtension (schema_extension_of text file tree) (λ it. tt))
      (or-any HasIn _ _ (map-always HasIn definition.ScalarTypeExtension (scalar_extension_of text file tree) (λ it. tt))
      (or-any HasIn _ _ (map-any HasIn definition.ObjectTypeExtension (object_extension_of text file tree) (more-object-in tree))
      (or-any HasIn _ _ (map-any HasIn definition.InterfaceTypeExtension (interface_extension_of text file tree) (more-interface-in tree))
      (or-any HasIn _ _ (map-any HasIn definition.UnionTypeExtension (union_extension_of text file tree) (more-union-in tree))
      (or-any HasIn _ _ (map-always HasIn definition.EnumTypeExtension (enum_extension_of text file tree) (λ it. tt))
      (map-always HasIn definition.InputObjectTypeExtension (input_object_extension_of text file tree) (λ it. tt)))))))

  choice-in : (tree : Plain) → IfAny HasIn (choice_of text file tree)
  unfolding choice_of
  choice-in tree = or-any HasIn _ _ (executable-in tree) (or-any HasIn _ _ (schema-in tree) (or-any HasIn _ _ (type-in tree) (extension-in tree)))

  definition-in : (tree : Plain) → IfAny HasIn (definition_of text file tree)
  unfolding definition_of
  definition-in tree =
      if-any HasIn (is_kind tree.kind kind.Definition) (first (choice_of text file) tree.children) None
      (head-any HasIn (gather (choice_of text file) tree.children) (gather-any HasIn (choice_of text file) choice-in tree.children)) tt

pub document-in : (text : Text) (file : FileId) (meant : List Definition) → IsDocumentOf text file meant → Each (HasNamesIn file) meant
document-in text file meant is =
    subst (Each (HasNamesIn file)) is.means (gather-any (HasNamesIn file) (definition_of text file) (definition-in text file) is.children)
