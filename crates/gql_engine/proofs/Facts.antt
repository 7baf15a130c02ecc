-- What the schema's text of the self-test means.
use Rattle.std.proofs.Common.{rules, ◌≡◌, ℕ, false, Some, None, List, refl, sym, ap, ◌∙◌, subst}
use Rattle.std.specs.Option.{option_and_then}
use Rattle.std.specs.Prelude.{codes}
use Rattle.gql_ast.specs.declared.definition.Definition.{Definition}
use Rattle.gql_ast_base.specs.Names.{Named}
use Rattle.gql_ast.specs.declared.field_definition.FieldDefinition.{FieldDefinition}
use Rattle.gql_ast_base.specs.Types.{non_null, non_null_step}
use Rattle.gql_ast_base.specs.declared.type_ref.TypeRef.{TypeRef, List as ListOf, NonNullList, out-TypeRef, the_lemmas}
use Rattle.gql_ast_base.specs.declared.type_ref.TypeRef.TheOpen.{TypeRef-F}
use Rattle.gql_ast_base.specs.declared.type_ref.TypeRef.TheVariants.{Named as NamedType, NonNullNamed}
use Rattle.gql_ast_base.specs.TypeParts.{named_type}
use Rattle.gql_schema.specs.Builders.{Taken, built}
use Rattle.gql_schema_build.specs.Considered.{type_definitions}
use Rattle.gql_schema_build.specs.SchemaDefinitions.{schema_definition}
use Rattle.gql_schema_build.specs.TypeSystems.{with_definitions, no_definitions}
use Rattle.gql_schema_build.specs.TypeTable.{types}
use Rattle.gql_schema_build.specs.declared.type_definition.TypeDefinition.{TypeDefinition}
use Rattle.gql_schema_build.specs.KindsBuilt.{object_type}
use Rattle.gql_schema_rules.specs.Scalars.{validated_types}
use Rattle.gql_parser.specs.SchemaText.{SchemaText}
use Rattle.gql_schema_types.specs.Schemas.{field_on}
use Rattle.gql_schema_types.specs.Types.{as_object, type_called}
use Rattle.gql_schema_types.specs.declared.schema.Schema.{Schema}
use Rattle.gql_schema_types.specs.declared.schema.SchemaDefinition.{SchemaDefinition}
use Rattle.gql_schema_types.specs.declared.types.ExtendedType.{ExtendedType}
use Rattle.gql_schema_types.specs.declared.types.ExtendedType.TheVariants as type
use Rattle.gql_engine.specs.Meaning.{AreTypes, IsLeaf}
use Rattle.gql_engine.specs.Texts.{schema_text}
use Rattle.gql_engine.proofs.BuiltIn.{OneDocument, types_are}
use Rattle.gql_engine.proofs.BuiltIn as built_in
use Rattle.gql_engine.proofs.Computed.{tokens_computed, trees_computed}
use Rattle.gql_parser.proofs.SchemaKept.{validated-kept}
use Rattle.gql_engine.proofs.Leaves.{AreLeaves, leaf_called, validated_leaves}
use Rattle.gql_engine.proofs.Query.{SoundLaw}
use Rattle.gql_engine.proofs.SelfTestSchema as text

-- ---- the names of the fields' types

named_plain : (name : Named) → named_type (NamedType name) ≡ name
named_plain name = search (rules, the_lemmas)

named_list : (item : TypeRef) → named_type (ListOf item) ≡ named_type item
named_list item = search (rules, the_lemmas)

required_plain : (name : Named) → non_null (NamedType name) ≡ NonNullNamed name
required_plain name =
    let out : out-TypeRef (NamedType name) ≡ TypeRef-F.Named name = search (rules, the_lemmas) in ap (non_null_step (NamedType name)) out

named_required : (name : Named) → named_type (non_null (NamedType name)) ≡ name
named_required name =
    let strict : named_type (NonNullNamed name) ≡ name = search (rules, the_lemmas) in ap named_type (required_plain name) ∙ strict

named_required_list : (name : Named) → named_type (non_null (ListOf (non_null (NamedType name)))) ≡ name
named_required_list name =
    let inner = non_null (NamedType name) in
    let out : out-TypeRef (ListOf inner) ≡ TypeRef-F.List inner = search (rules, the_lemmas) in
    let strict : named_type (NonNullList inner) ≡ named_type inner = search (rules, the_lemmas) in
    ap named_type (ap (non_null_step (ListOf inner)) out) ∙ strict ∙ named_required name

-- ---- the types of a schema before validation

abbrev types_from : List TypeDefinition → List Definition → List ExtendedType
types_from built_in ds = types (type_definitions false built_in (with_definitions no_definitions ds).types) (with_definitions no_definitions ds).type_extensions

abbrev definition_from : List TypeDefinition → List Definition → SchemaDefinition
definition_from built_in ds =
    schema_definition (with_definitions no_definitions ds).schemas (with_definitions no_definitions ds).schema_extensions (types_from built_in ds)

unfoldable known_types : List ExtendedType
known_types = types_from built_in.types text.known

known_query : type_called (codes "Query") known_types ≡ Some (type.Object (object_type text.query))
unfolding tokens_computed trees_computed known_types
known_query = refl

known_item : type_called (codes "Item") known_types ≡ Some (type.Object (object_type text.item))
unfolding tokens_computed trees_computed known_types
known_item = refl

known_int : AreLeaves (codes "Int") known_types
unfolding tokens_computed trees_computed known_types
known_int = refl

known_string : AreLeaves (codes "String") known_types
unfolding tokens_computed trees_computed known_types
known_string = refl

-- ---- and of each schema that the text means

abbrev pub query_root : Named
query_root = record { text = codes "Query"; location = None }

known_root : (definition_from built_in.types text.known).query ≡ Some query_root
unfolding tokens_computed trees_computed
known_root = refl

module _ (sound : SoundLaw) (one : OneDocument) (S : Schema) (h : SchemaText schema_text S) where
  same_definitions : h.definitions.definitions ≡ text.known
  same_definitions = one schema_text text.file h.definitions.definitions text.known h.definitions.mean (text.means sound)

  same_built_in : h.definitions.built_in.types ≡ built_in.types
  same_built_in = types_are sound one h.definitions.built_in h.definitions.are_built_in

  types_were : (built h.taken).types ≡ known_types
  unfolding known_types
  types_were =
      ap (λ (t : Taken). (built t).types) h.definitions.all
      ∙ ap (λ b. types_from b h.definitions.definitions) same_built_in
      ∙ ap (types_from built_in.types) same_definitions

  definition_was : (built h.taken).schema_definition ≡ definition_from built_in.types text.known
  definition_was =
      ap (λ (t : Taken). (built t).schema_definition) h.definitions.all
      ∙ ap (λ b. definition_from b h.definitions.definitions) same_built_in
      ∙ ap (definition_from built_in.types) same_definitions

  types_are_now : S.types ≡ validated_types (built h.taken).directive_definitions known_types
  types_are_now = ap (λ (s : Schema). s.types) h.settled ∙ ap (validated_types (built h.taken).directive_definitions) types_were

  pub query_is_root : S.schema_definition.query ≡ Some query_root
  query_is_root = ap (λ (s : Schema). s.schema_definition.query) h.settled ∙ ap (λ (d : SchemaDefinition). d.query) definition_was ∙ known_root

  pub query_called : type_called (codes "Query") S.types ≡ Some (type.Object (object_type text.query))
  query_called =
      ap (type_called (codes "Query")) types_are_now
      ∙ validated-kept (built h.taken).directive_definitions (codes "Query") (type.Object (object_type text.query)) known_types refl refl refl known_query

  item_called : type_called (codes "Item") S.types ≡ Some (type.Object (object_type text.item))
  item_called =
      ap (type_called (codes "Item")) types_are_now
      ∙ validated-kept (built h.taken).directive_definitions (codes "Item") (type.Object (object_type text.item)) known_types refl refl refl known_item

  leaf : (name : List ℕ) (definition : FieldDefinition) → (named_type definition.ty).text ≡ name → AreLeaves name known_types → IsLeaf S definition
  leaf name definition is are found there =
      leaf_called name S.types found
      (subst (AreLeaves name) (sym types_are_now) (validated_leaves name (built h.taken).directive_definitions known_types are))
      (ap (λ n. type_called n S.types) (sym is) ∙ there)

  pub are_types : AreTypes S
  are_types = record {
    query = object_type text.query;
    item = object_type text.item;
    is_query = ap (option_and_then as_object) query_called;
    query_name = refl;
    item_name = refl;
    items = text.items;
    id = text.id;
    tags = text.tags;
    is_item = item_called;
    items_there = ap (option_and_then (λ ty. field_on S.schema_definition ty (codes "Query") (codes "items"))) query_called;
    items_type = ap (λ n. n.text) (named_required_list text.of_item);
    id_there = ap (option_and_then (λ ty. field_on S.schema_definition ty (codes "Item") (codes "id"))) item_called;
    id_leaf = leaf (codes "Int") text.id (ap (λ n. n.text) (named_required text.of_int)) known_int;
    tags_there = ap (option_and_then (λ ty. field_on S.schema_definition ty (codes "Item") (codes "tags"))) item_called;
    tags_leaf = leaf (codes "String") text.tags (ap (λ n. n.text) (named_list (NamedType text.of_string) ∙ named_plain text.of_string)) known_string;
  }
