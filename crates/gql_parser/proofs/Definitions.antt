-- Each operation among the definitions of a document that a text means selects something.
use Rattle.std.proofs.Common.{◌≡◌, ◌<◌, ℕ, if◌then◌else◌, List, length, Option, None, All, refl, sym, subst}
use Rattle.std.specs.Option.{option_map}
use Rattle.std.specs.Prelude.{slice_range}
use Rattle.gql_source.specs.declared.file_id.FileId.{FileId}
use Rattle.gql_grammar.specs.declared.rule.Rule.{Rule}
use Rattle.gql_grammar.specs.declared.rule.Rule.TheVariants as rule
use Rattle.gql_grammar.specs.declared.syntax_kind.SyntaxKind.{SyntaxKind}
use Rattle.gql_grammar.specs.declared.syntax_kind.SyntaxKind.TheVariants as kind
use Rattle.gql_grammar.specs.declared.word.Word.{Word}
use Rattle.gql_grammar.specs.Nodes.{IsAllowed, AllAllowed}
use Rattle.gql_grammar.specs.Row as row
use Rattle.gql_grammar.specs.Row.{Row}
use Rattle.gql_grammar.specs.Sentence.{Sentence}
use Rattle.gql_cst.specs.Forest.{Forest, Plain, nothing, tree_then}
use Rattle.gql_cst.specs.Leaves.{node, part_of, leaves}
use Rattle.gql_cst.specs.Sentences.{words, shown}
use Rattle.gql_cst.specs.Words.{word_of}
use Rattle.gql_ast.specs.declared.definition.Definition.{Definition}
use Rattle.gql_ast.specs.declared.definition.Definition.TheVariants as definition
use Rattle.gql_ast.specs.Documents.{executable_definition_of, schema_definition_of, type_definition_of, extension_of, choice_of, definition_of}
use Rattle.gql_ast_base.specs.Kinds.{is_kind}
use Rattle.gql_ast_base.specs.Parts.{Text, gather, first, child}
use Rattle.gql_ast.specs.Definitions.{scalar_of, object_of, interface_of, union_of, enum_of, input_object_of}
use Rattle.gql_ast.specs.Extensions.{schema_extension_of, scalar_extension_of, object_extension_of, interface_extension_of}
use Rattle.gql_ast.specs.Extensions.{union_extension_of, enum_extension_of, input_object_extension_of}
use Rattle.gql_ast.specs.Schemas.{directive_definition_of, schema_of}
use Rattle.gql_ast_laws.specs.Meant.{IsDocumentOf}
use Rattle.gql_ast_laws.proofs.Inner.{both_ways, node_of, here, later}
use Rattle.gql_ast_laws.proofs.Shown.{AreSpelled, tiled-spelled, below-of, rest-of, node-row, rest-row}
use Rattle.gql_ast_laws.proofs.TokenKinds.{kind_is}
use Rattle.gql_ast.specs.declared.operation.OperationDefinition.{OperationDefinition}
use Rattle.gql_ast.specs.Operations.{operation_of, fragment_of}
use Rattle.gql_ast_laws.proofs.Kept.{Each, IfAny, all-of, head-any, if-any, else-any, map-any, map-always, or-any, then-each}
use Rattle.gql_parser.proofs.SelectedSets.{set_selects}

abbrev pub Selects : OperationDefinition → Type 0
Selects it = 0 < length it.selection_set

abbrev pub DefinitionSelects : Definition → Type 0
DefinitionSelects (definition.OperationDefinition it) = Selects it
DefinitionSelects _ = Unit {0}

module _ (text : Text) (file : FileId) where
  -- its rule allows a node, and its tokens are words of the text
  record IsKnown (tree : Plain) : Type 0 where
    allowed : IsAllowed tree.kind (shown text tree.children)
    below : AllAllowed (shown text tree.children)
    spelled : AreSpelled text (leaves tree.children)

  NodeKnown : Plain → Type 0
  NodeKnown tree = part_of tree.kind ≡ node → IsKnown tree

  known : (k : SyntaxKind) (start end : ℕ) (children rest : Forest) → AllAllowed (shown text (tree_then k start end children rest))
      → AreSpelled text (leaves (tree_then k start end children rest)) → NodeKnown (record { kind = k; start = start; end = end; children = children })
  unfolding NodeKnown
  known k start end children rest a h = λ p.
      let both = node-row text k k (part_of k) (word_of (slice_range text start end)) (shown text children) (shown text rest) p refl a in
      record { allowed = both.0; below = both.1; spelled = below-of text k start end children rest h }

  module _ {X : Type 0} (P : X → Type 0) where
    gather_each : (f : Plain → Option X) → ((tree : Plain) → NodeKnown tree → IfAny P (f tree)) → (row : Forest) → AllAllowed (shown text row) → AreSpelled text (leaves row)
        → Each P (gather f row)
    gather_each f h nothing a s = tt
    gather_each f h (tree_then k start end children rest) a s =
        let tree : Plain = record { kind = k; start = start; end = end; children = children } in
        then-each P (f tree) (gather f rest) (h tree (known k start end children rest a s))
        (gather_each f h rest (rest-row text (part_of k) k (word_of (slice_range text start end)) (shown text children) (shown text rest) a) (rest-of text k start end children rest s))

    -- what is made of trees of one kind
    kind_any : (sought : SyntaxKind) → part_of sought ≡ node → (tree : Plain) → NodeKnown tree → (o : Option X) → (IsKnown tree → IfAny P o)
        → IfAny P (if is_kind tree.kind sought then o else None)
    unfolding NodeKnown
    kind_any sought is tree k o h =
        both_ways (is_kind tree.kind sought)
        (λ e. if-any P (is_kind tree.kind sought) o None (h (k (node_of tree.kind sought is e))) tt)
        (λ e. else-any P (is_kind tree.kind sought) o None e tt)

    -- and of the first tree of a kind
    child_any : (f : Plain → X) (sought : SyntaxKind) → part_of sought ≡ node
        → ((set : Forest) → IsAllowed sought (shown text set) → AllAllowed (shown text set) → AreSpelled text (leaves set) → (start end : ℕ)
        → P (f (record { kind = sought; start = start; end = end; children = set })))
        → (row : Forest) → AllAllowed (shown text row) → AreSpelled text (leaves row) → IfAny P (option_map f (child sought row))
    child_any f sought is h nothing a s = tt
    child_any f sought is h (tree_then k start end children rest) a s =
        both_ways (is_kind k sought)
        (λ e.
        let same : k ≡ sought = kind_is k sought e in
        let both = node-row text sought k (part_of k) (word_of (slice_range text start end)) (shown text children) (shown text rest) (node_of k sought is e) (sym same) a in
        subst (λ o. IfAny P (option_map f o)) (sym (here sought k start end children rest e))
        (subst (λ j. P (f (record { kind = j; start = start; end = end; children = children }))) (sym same)
        (h children both.0 both.1 (below-of text k start end children rest s) start end)))
        (λ e.
        subst (λ o. IfAny P (option_map f o)) (sym (later sought k start end children rest e))
        (child_any f sought is h rest (rest-row text (part_of k) k (word_of (slice_range text start end)) (shown text children) (shown text rest) a) (rest-of text k start end children rest s)))

  operation_selects : (tree : Plain) → NodeKnown tree → IfAny Selects (operation_of text file tree)
  unfolding operation_of
  operation_selects tree k =
      kind_any Selects kind.OperationDefinition refl tree k _
      (λ it. child_any Selects _ kind.SelectionSet refl (λ set a below s start end. set_selects text file set a below s) tree.children it.below it.spelled)

  executable_selects : (tree : Plain) → NodeKnown tree → IfAny DefinitionSelects (executable_definition_of text file tree)
  unfolding executable_definition_of
  executable_selects tree k =
      or-any DefinitionSelects _ _ (map-any DefinitionSelects definition.OperationDefinition (operation_of text file tree) (operation_selects tree k))
      (map-always DefinitionSelects definition.FragmentDefinition (fragment_of text file tree) (λ it. tt))

  schema_selects : (tree : Plain) → IfAny DefinitionSelects (schema_definition_of text file tree)
  unfolding schema_definition_of
  schema_selects tree =
      or-any DefinitionSelects _ _ (map-always DefinitionSelects definition.DirectiveDefinition (directive_definition_of text file tree) (λ it. tt))
      (map-always DefinitionSelects definition.SchemaDefinition (schema_of text file tree) (λ it. tt))

  type_selects : (tree : Plain) → IfAny DefinitionSelects (type_definition_of text file tree)
  unfolding type_definition_of
  type_selects tree =
      or-any DefinitionSelects _ _ (map-always DefinitionSelects definition.ScalarTypeDefinition (scalar_of text file tree) (λ it. tt))
      (or-any DefinitionSelects _ _ (map-always DefinitionSelects definition.ObjectTypeDefinition (object_of text file tree) (λ it. tt))
      (or-any DefinitionSelects _ _ (map-always DefinitionSelects definition.InterfaceTypeDefinition (interface_of text file tree) (λ it. tt))
      (or-any DefinitionSelects _ _ (map-always DefinitionSelects definition.UnionTypeDefinition (union_of text file tree) (λ it. tt))
      (or-any DefinitionSelects _ _ (map-always DefinitionSelects definition.EnumTypeDefinition (enum_of text file tree) (λ it. tt))
      (map-always DefinitionSelects definition.InputObjectTypeDefinition (input_object_of text file tree) (λ it. tt))))))

  extension_selects : (tree : Plain) → IfAny DefinitionSelects (extension_of text file tree)
  unfolding extension_of
  extension_selects tree =
      or-any DefinitionSelects _ _ (map-always DefinitionSelects definition.SchemaExtension (schema_extension_of text file tree) (λ it. tt))
      (or-any DefinitionSelects _ _ (map-always DefinitionSelects definition.ScalarTypeExtension (scalar_extension_of text file tree) (λ it. tt))
      (or-any DefinitionSelects _ _ (map-always DefinitionSelects definition.ObjectTypeExtension (object_extension_of text file tree) (λ it. tt))
      (or-any DefinitionSelects _ _ (map-always DefinitionSelects definition.InterfaceTypeExtension (interface_extension_of text file tree) (λ it. tt))
      (or-any DefinitionSelects _ _ (map-always DefinitionSelects definition.UnionTypeExtension (union_extension_of text file tree) (λ it. tt))
      (or-any DefinitionSelects _ _ (map-always DefinitionSelects definition.EnumTypeExtension (enum_extension_of text file tree) (λ it. tt))
      (map-always DefinitionSelects definition.InputObjectTypeExtension (input_object_extension_of text file tree) (λ it. tt)))))))

  choice_selects : (tree : Plain) → NodeKnown tree → IfAny DefinitionSelects (choice_of text file tree)
  unfolding choice_of
  choice_selects tree k =
      or-any DefinitionSelects _ _ (executable_selects tree k)
      (or-any DefinitionSelects _ _ (schema_selects tree) (or-any DefinitionSelects _ _ (type_selects tree) (extension_selects tree)))

  definition_selects : (tree : Plain) → NodeKnown tree → IfAny DefinitionSelects (definition_of text file tree)
  unfolding definition_of
  definition_selects tree k =
      kind_any DefinitionSelects kind.Definition refl tree k (first (choice_of text file) tree.children)
      (λ it. head-any DefinitionSelects (gather (choice_of text file) tree.children) (gather_each DefinitionSelects (choice_of text file) choice_selects tree.children it.below it.spelled))

-- ---- a document

abbrev pub NodesLaw : Type 0
NodesLaw = (start : Rule) (ws : List Word) (f : Row) → Sentence start ws f → AllAllowed f

pub definitions_select : NodesLaw → (text : Text) (file : FileId) (meant : List Definition) → IsDocumentOf text file meant → All DefinitionSelects meant
definitions_select law text file meant is =
    let whole = law rule.Document (words text (leaves is.children)) (row.node kind.Document (shown text is.children) row.nothing) is.tree.sentence in
    subst (All DefinitionSelects) is.means
    (all-of DefinitionSelects (gather (definition_of text file) is.children)
    (gather_each text file DefinitionSelects (definition_of text file) (definition_selects text file) is.children whole.1.0
    (tiled-spelled text 0 (leaves is.children) (length text) is.tree.tiles)))
