-- What the query of the self-test means against its schema.
use Rattle.std.proofs.Common.{◌≡◌, ℕ, false, if◌then◌else◌, cond, Option, Some, None, List, [], ◌∷◌, ◌++◌, refl, sym, ap, ◌∙◌, subst}
use Rattle.std.specs.Option.{option_map_or}
use Rattle.std.specs.Prelude.{codes}
use Rattle.std.specs.Str.{bytes_eq}
use Rattle.gql_ast.specs.declared.definition.Definition.{Definition}
use Rattle.gql_ast.specs.declared.definition.Definition.TheVariants as definition
use Rattle.gql_ast_base.specs.Names.{Named}
use Rattle.gql_ast.specs.declared.field_definition.FieldDefinition.{FieldDefinition}
use Rattle.gql_ast.specs.declared.selection.Field.{Field as FieldHere}
use Rattle.gql_ast.specs.declared.selection.Selection.TheVariants as here
use Rattle.gql_document.specs.Build.{operation_on}
use Rattle.gql_document.specs.Build as build
use Rattle.gql_document.specs.BuiltSelections.{makes_of}
use Rattle.gql_document.specs.Builders.{Taken, built}
use Rattle.gql_document.specs.Definitions.{with_definitions, no_definitions}
use Rattle.gql_document.specs.bridge.Made as made
use Rattle.gql_document.specs.Nodes.{is_leaf}
use Rattle.gql_parser.specs.DocumentText.{DocumentText}
use Rattle.gql_parser.proofs.Made.{made_field}
use Rattle.gql_document_types.specs.ChosenOperation.{chosen}
use Rattle.gql_ast_base.specs.TypeParts.{named_type}
use Rattle.gql_document_types.specs.declared.document.ExecutableDocument.{ExecutableDocument}
use Rattle.gql_document_types.specs.declared.operation.Operation.{Operation}
use Rattle.gql_document_types.specs.declared.selection.Field.{Field}
use Rattle.gql_document_types.specs.declared.selection.Selection.{Selection}
use Rattle.gql_document_types.specs.declared.selection.Selection.TheVariants as selection
use Rattle.gql_parser.specs.SchemaText.{SchemaText}
use Rattle.gql_schema_types.specs.Schemas.{field_of, object_of}
use Rattle.gql_schema_types.specs.Types.{type_called}
use Rattle.gql_schema_types.specs.declared.schema.Schema.{Schema}
use Rattle.gql_engine.specs.Meaning.{AreTypes, IsSelfTest, Places, inner, outer}
use Rattle.gql_engine.specs.Texts.{query_text, schema_text}
use Rattle.gql_engine.proofs.BuiltIn.{OneDocument}
use Rattle.gql_engine.proofs.Facts.{are_types, query_is_root, query_root}
use Rattle.gql_engine.proofs.Query.{SoundLaw}
use Rattle.gql_engine.proofs.Query as text

abbrev at : Places
at = record {
  items_name = text.items.name.location;
  items = text.items.location;
  id_name = text.id.name.location;
  id = text.id.location;
  tags_name = text.tags.name.location;
  tags = text.tags.location;
}

joined_none : {X : Type 0} (xs : List X) → xs ++ [] ≡ xs
joined_none [] = refl
joined_none (x ∷ xs) = ap (λ l. x ∷ l) (joined_none xs)

-- ---- the selections

module _ (S : Schema) (t : AreTypes S) where
  abbrev on : FieldHere → FieldDefinition → List Selection → Field
  on f d within = record {
    alias = f.alias;
    name = f.name;
    arguments = f.arguments;
    directives = f.directives;
    selection_set = record { ty = named_type d.ty; selections = within };
    location = f.location;
    definition = d;
  }

  -- a field that is defined, and selects nothing on a leaf
  field_made : (f : FieldHere) (ty : Named) (d : FieldDefinition) → field_of S ty.text f.name.text ≡ Some d → made.is_selected_leaf S f d ≡ false
      → makes_of S (here.Field f) ty ≡ selection.Field (on f d (made.list S (named_type d.ty) f.selection_set)) ∷ []
  field_made f ty d there kept =
      made_field S f ty
      ∙ ap (λ o. option_map_or (made.defined S f) o []) there
      ∙ ap (λ b. if b then [] else selection.Field (on f d (made.list S (named_type d.ty) f.selection_set)) ∷ []) kept

  abbrev ty : Named
  ty = named_type t.items.ty

  id_made : makes_of S (here.Field text.id) ty ≡ selection.Field (on text.id t.id []) ∷ []
  id_made = field_made text.id ty t.id (ap (λ n. field_of S n (codes "id")) (t.items_type ∙ sym t.item_name) ∙ t.id_there) refl

  tags_made : makes_of S (here.Field text.tags) ty ≡ selection.Field (on text.tags t.tags []) ∷ []
  tags_made = field_made text.tags ty t.tags (ap (λ n. field_of S n (codes "tags")) (t.items_type ∙ sym t.item_name) ∙ t.tags_there) refl

  inner_made : made.list S ty text.items.selection_set ≡ inner t at
  inner_made = ap (λ l. l ++ (makes_of S (here.Field text.tags) ty ++ [])) id_made ∙ ap (λ l. selection.Field (on text.id t.id []) ∷ l ++ []) tags_made

  items_kept : made.is_selected_leaf S text.items t.items ≡ false
  items_kept = ap (λ n. option_map_or is_leaf (type_called n S.types) false) t.items_type ∙ ap (λ o. option_map_or is_leaf o false) t.is_item

  outer_made : made.list S query_root text.operation.selection_set ≡ outer t at
  outer_made =
      joined_none (makes_of S (here.Field text.items) query_root)
      ∙ field_made text.items query_root t.items (ap (λ n. field_of S n (codes "items")) (sym t.query_name) ∙ t.items_there) items_kept
      ∙ ap (λ within. selection.Field (on text.items t.items within) ∷ []) inner_made

-- ---- the document, and its operation

same_some : {A : Type 0} (x y : A) → Some x ≡ Some y → x ≡ y
same_some x y h = cc

-- one operation without a name is chosen by no name
only_one : (name : Option (List ℕ)) (only o : Operation) → only.name ≡ None → chosen name (only ∷ []) ≡ Some o → o ≡ only
only_one None only o none h = sym (same_some only o h)
only_one (Some name) only o none h = absurd (let c : None ≡ Some o = sym (ap (λ n. cond (option_map_or (λ (own : Named). bytes_eq name own.text) n false) (Some only) None) none) ∙ h in cc)

abbrev document_of : Schema → List Definition → ExecutableDocument → Type 0
document_of S ds D = (D.operations ≡ (build.built S [] (with_definitions no_definitions ds)).operations) × (D.fragments ≡ (build.built S [] (with_definitions no_definitions ds)).fragments)

abbrev known : List Definition
known = definition.OperationDefinition text.operation ∷ []

module _ (sound : SoundLaw) (one : OneDocument) (S : Schema) (D : ExecutableDocument) (s : SchemaText schema_text S) (d : DocumentText S query_text D) where
  same_definitions : d.definitions.definitions ≡ known
  same_definitions = one query_text text.file d.definitions.definitions known d.definitions.mean (text.means sound)

  is_built : document_of S known D
  is_built =
      subst (λ ds. document_of S ds D) same_definitions (
        ap (λ (whole : ExecutableDocument). whole.operations) d.is ∙ ap (λ (taken : Taken). (built taken).operations) d.definitions.all,
        ap (λ (whole : ExecutableDocument). whole.fragments) d.is ∙ ap (λ (taken : Taken). (built taken).fragments) d.definitions.all,
      )

  abbrev only : Operation
  only = operation_on S query_root text.operation

  operations_are : D.operations ≡ only ∷ []
  operations_are = is_built.0 ∙ ap (λ root. option_map_or (λ (r : Named). operation_on S r text.operation ∷ []) root [] ++ []) (query_is_root sound one S s)

  pub is_self_test : (name : Option (List ℕ)) (o : Operation) → chosen name D.operations ≡ Some o → IsSelfTest S D o
  is_self_test name o h =
      let types = are_types sound one S s in
      let same = only_one name only o refl (sym (ap (chosen name) operations_are) ∙ h) in
      record {
        types = types;
        at = at;
        no_fragments = is_built.1;
        selections = ap (λ (it : Operation). it.selection_set.selections) same ∙ outer_made S types;
        on_query = ap (λ (it : Operation). object_of S it.selection_set.ty.text) same ∙ types.is_query;
      }
