-- Which conversion answers for a tree: that of its kind.
use Rattle.std.proofs.Common.{◌≡◌, ℕ, Option, Some, None, refl, sym, ap, ◌∙◌}
use Rattle.std.specs.Option.{option_map}
use Rattle.gql_source.specs.declared.file_id.FileId.{FileId}
use Rattle.gql_cst.specs.Forest.{Forest, Plain}
use Rattle.gql_grammar.specs.declared.syntax_kind.SyntaxKind.{SyntaxKind}
use Rattle.gql_grammar.specs.declared.syntax_kind.SyntaxKind.TheVariants as kind
use Rattle.gql_ast_base.specs.Kinds.{is_kind}
use Rattle.gql_ast_base.specs.Parts.{Text, or_else}
use Rattle.gql_ast.specs.Definitions.{scalar_of, object_of, interface_of, union_of, enum_of, input_object_of}
use Rattle.gql_ast.specs.Extensions.{extends, schema_extension_of, scalar_extension_of, object_extension_of, interface_extension_of}
use Rattle.gql_ast.specs.Extensions.{union_extension_of, enum_extension_of, input_object_extension_of}
use Rattle.gql_ast.specs.Schemas.{directive_definition_of, schema_of}
use Rattle.gql_ast.specs.Operations.{operation_of, fragment_of}
use Rattle.gql_ast.specs.declared.definition.Definition.{Definition}
use Rattle.gql_ast.specs.declared.definition.Definition.TheVariants as definition
use Rattle.gql_ast.specs.Documents.{executable_definition_of, schema_definition_of, type_definition_of, extension_of, choice_of}

-- nothing else is there
pub only : {T : Type 0} (o : Option T) → or_else o None ≡ o
only None = refl
only (Some x) = refl

-- nothing else is there, here nor behind
alone : {T : Type 0} (o : Option T) → or_else (or_else o None) None ≡ o
alone None = refl
alone (Some x) = refl

module _ (text : Text) (file : FileId) where
  -- what a tree of the kind defines
  abbrev pub chosen : SyntaxKind → Plain → Option Definition
  chosen kind.OperationDefinition t = option_map definition.OperationDefinition (operation_of text file t)
  chosen kind.FragmentDefinition t = option_map definition.FragmentDefinition (fragment_of text file t)
  chosen kind.DirectiveDefinition t = option_map definition.DirectiveDefinition (directive_definition_of text file t)
  chosen kind.SchemaDefinition t = option_map definition.SchemaDefinition (schema_of text file t)
  chosen kind.ScalarTypeDefinition t = option_map definition.ScalarTypeDefinition (scalar_of text file t)
  chosen kind.ObjectTypeDefinition t = option_map definition.ObjectTypeDefinition (object_of text file t)
  chosen kind.InterfaceTypeDefinition t = option_map definition.InterfaceTypeDefinition (interface_of text file t)
  chosen kind.UnionTypeDefinition t = option_map definition.UnionTypeDefinition (union_of text file t)
  chosen kind.EnumTypeDefinition t = option_map definition.EnumTypeDefinition (enum_of text file t)
  chosen kind.InputObjectTypeDefinition t = option_map definition.InputObjectTypeDefinition (input_object_of text file t)
  chosen kind.Extension t = extension_of text file t
  chosen _ t = None

  choice-at : (k : SyntaxKind) (start end : ℕ) (children : Forest) → choice_of text file
      (record { kind = k; start = start; end = end; children = children }) ≡ chosen k
      (record { kind = k; start = start; end = end; children = children })
  unfolding choice_of executable_definition_of schema_definition_of type_definition_of extension_of operation_of fragment_of directive_definition_of
      schema_of scalar_of object_of interface_of union_of enum_of input_object_of schema_extension_of scalar_extension_of object_extension_of
      interface_extension_of union_extension_of enum_extension_of input_object_extension_of extends is_kind
  choice-at kind.OperationDefinition start end children = alone _
  choice-at kind.FragmentDefinition start end children = only _
  choice-at kind.DirectiveDefinition start end children = alone _
  choice-at kind.SchemaDefinition start end children = only _
  choice-at kind.ScalarTypeDefinition start end children = alone _
  choice-at kind.ObjectTypeDefinition start end children = alone _
  choice-at kind.InterfaceTypeDefinition start end children = alone _
  choice-at kind.UnionTypeDefinition start end children = alone _
  choice-at kind.EnumTypeDefinition start end children = alone _
  choice-at kind.InputObjectTypeDefinition start end children = only _
  choice-at kind.Extension start end children = refl
  choice-at _ start end children = refl

  -- what a tree defines is what one of its kind does
  pub by_kind : (t : Plain) (k : SyntaxKind) (made : Option Definition) → t.kind ≡ k → made ≡ chosen k t → made ≡ choice_of text file t
  by_kind t k made is m = m ∙ sym (choice-at t.kind t.start t.end t.children ∙ ap (λ k. chosen k t) is)

  -- a tree of no such kind defines nothing
  pub by_no_kind : (t : Plain) (k : SyntaxKind) → t.kind ≡ k
      → (k ≡ kind.OperationDefinition → ⊥)
      → (k ≡ kind.FragmentDefinition → ⊥)
      → (k ≡ kind.DirectiveDefinition → ⊥)
      → (k ≡ kind.SchemaDefinition → ⊥)
      → (k ≡ kind.ScalarTypeDefinition → ⊥)
      → (k ≡ kind.ObjectTypeDefinition → ⊥)
      → (k ≡ kind.InterfaceTypeDefinition → ⊥)
      → (k ≡ kind.UnionTypeDefinition → ⊥)
      → (k ≡ kind.EnumTypeDefinition → ⊥)
      → (k ≡ kind.InputObjectTypeDefinition → ⊥)
      → (k ≡ kind.Extension → ⊥) → None ≡ choice_of text file t
  by_no_kind t k is n0 n1 n2 n3 n4 n5 n6 n7 n8 n9 n10 = by_kind t k None is (nothing k n0 n1 n2 n3 n4 n5 n6 n7 n8 n9 n10)
    where
      nothing : (k : SyntaxKind) → (k ≡ kind.OperationDefinition → ⊥) → (k ≡ kind.FragmentDefinition → ⊥) → (k ≡ kind.DirectiveDefinition → ⊥) →
          (k ≡ kind.SchemaDefinition → ⊥) → (k ≡ kind.ScalarTypeDefinition → ⊥) → (k ≡ kind.ObjectTypeDefinition → ⊥) →
          (k ≡ kind.InterfaceTypeDefinition → ⊥) → (k ≡ kind.UnionTypeDefinition → ⊥) → (k ≡ kind.EnumTypeDefinition → ⊥) →
          (k ≡ kind.InputObjectTypeDefinition → ⊥) → (k ≡ kind.Extension → ⊥) → None ≡ chosen k t
      nothing kind.OperationDefinition n _ _ _ _ _ _ _ _ _ _ = absurd (n refl)
      nothing kind.FragmentDefinition _ n _ _ _ _ _ _ _ _ _ = absurd (n refl)
      nothing kind.DirectiveDefinition _ _ n _ _ _ _ _ _ _ _ = absurd (n refl)
      nothing kind.SchemaDefinition _ _ _ n _ _ _ _ _ _ _ = absurd (n refl)
      nothing kind.ScalarTypeDefinition _ _ _ _ n _ _ _ _ _ _ = absurd (n refl)
      nothing kind.ObjectTypeDefinition _ _ _ _ _ n _ _ _ _ _ = absurd (n refl)
      nothing kind.InterfaceTypeDefinition _ _ _ _ _ _ n _ _ _ _ = absurd (n refl)
      nothing kind.UnionTypeDefinition _ _ _ _ _ _ _ n _ _ _ = absurd (n refl)
      nothing kind.EnumTypeDefinition _ _ _ _ _ _ _ _ n _ _ = absurd (n refl)
      nothing kind.InputObjectTypeDefinition _ _ _ _ _ _ _ _ _ n _ = absurd (n refl)
      nothing kind.Extension _ _ _ _ _ _ _ _ _ _ n = absurd (n refl)
      nothing _ _ _ _ _ _ _ _ _ _ _ _ = refl
