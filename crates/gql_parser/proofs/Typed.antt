-- The fields of what is built of a text have the definitions that the types of their sets give them.
use Rattle.std.proofs.Common.{rules, ◌≡◌, ℕ, zero, suc, Bool, true, false, if◌then◌else◌, cond, List, [], ◌∷◌, ◌++◌, flat_map, Option, Some, None, refl, sym, ap, subst}
use Rattle.std.specs.List.{AllByRecursion}
use Rattle.std.specs.Option.{option_map_or, unwrap_or}
use Rattle.gql_ast_base.specs.Names.{Named}
use Rattle.gql_ast_base.specs.TypeParts.{named_type}
use Rattle.gql_ast.proofs.Variants.{each}
use Rattle.gql_ast.specs.declared.field_definition.FieldDefinition.{FieldDefinition}
use Rattle.gql_ast.specs.declared.operation.FragmentDefinition.{FragmentDefinition}
use Rattle.gql_ast.specs.declared.operation.OperationDefinition.{OperationDefinition}
use Rattle.gql_ast.specs.declared.selection.Field.{Field}
use Rattle.gql_ast.specs.declared.selection.FragmentSpread.{FragmentSpread}
use Rattle.gql_ast.specs.declared.selection.InlineFragment.{InlineFragment}
use Rattle.gql_ast.specs.declared.selection.Selection.{Selection, the_lemmas}
use Rattle.gql_ast.specs.declared.selection.Selection.TheVariants as selection
use Rattle.gql_document.specs.AmbiguousAnonymousOperation.{are_several, is_ambiguous}
use Rattle.gql_document.specs.Build.{operation_on, built_operation, built_operations, fragment_on, built_fragment, built_fragments}
use Rattle.gql_document.specs.Builders.{Taken}
use Rattle.gql_document.specs.BuiltSelections.{makes_of, built_set, spread_of}
use Rattle.gql_document.specs.FragmentNameCollision.{first_fragments}
use Rattle.gql_document.specs.bridge.Made as made
use Rattle.gql_document.specs.Nodes.{is_open, is_defined, type_inside}
use Rattle.gql_document.specs.OperationNameCollision.{first_operations}
use Rattle.gql_document.specs.UndefinedRootOperation.{root_type}
use Rattle.gql_document_types.proofs.Variants.{out-field, out-spread, out-inline}
use Rattle.gql_document_types.specs.RootFields.{fragment_name}
use Rattle.gql_document_types.specs.declared.document.ExecutableDocument.{ExecutableDocument}
use Rattle.gql_document_types.specs.declared.fragment.Fragment.{Fragment}
use Rattle.gql_document_types.specs.declared.operation.Operation.{Operation}
use Rattle.gql_document_types.specs.declared.selection.Selection.{Selection as Built, out-Selection}
use Rattle.gql_document_types.specs.declared.selection.Selection.TheVariants as built
use Rattle.gql_parser.specs.DocumentText.{DocumentText, AreDefinitions}
use Rattle.gql_schema_types.specs.Entries.{entry, is_called}
use Rattle.gql_schema_types.specs.Schemas.{field_of}
use Rattle.gql_schema_types.specs.declared.schema.Schema.{Schema}
use Rattle.gql_document_types.specs.Typed.{typed_at, TypedTo, AreTyped, AreOperationsTyped, AreFragmentsTyped, IsDocumentTyped}

all-both : {A : Type 0} (P : A → Type 0) (xs ys : List A) → AllByRecursion P xs → AllByRecursion P ys → AllByRecursion P (xs ++ ys)
all-both P [] ys one other = other
all-both P (x ∷ xs) ys one other = (one.0, all-both P xs ys one.1 other)

module _ (schema : Schema) where
  made-field : (f : Field) (ty : Named) → makes_of schema (selection.Field f) ty ≡ made.field schema f ty
  made-field f ty = search (rules, the_lemmas)

  made-spread : (s : FragmentSpread) (ty : Named) → makes_of schema (selection.FragmentSpread s) ty ≡ spread_of s ∷ []
  made-spread s ty = search (rules, the_lemmas)

  made-inline : (i : InlineFragment) (ty : Named) → makes_of schema (selection.InlineFragment i) ty ≡ made.inline schema i ty
  made-inline i ty = search (rules, the_lemmas)

  abbrev Makes : ℕ → Selection → Type 0
  Makes n s = (ty : Named) → TypedTo schema n ty (makes_of schema s ty)

  typed-both : (n : ℕ) (ty : Named) (xs ys : List Built) → TypedTo schema n ty xs → TypedTo schema n ty ys → TypedTo schema n ty (xs ++ ys)
  typed-both zero ty xs ys one other = tt
  typed-both (suc n) ty xs ys one other = all-both (λ x. typed_at schema (TypedTo schema n) ty (out-Selection x)) xs ys one other

  typed-none : (n : ℕ) (ty : Named) → TypedTo schema n ty []
  typed-none zero ty = tt
  typed-none (suc n) ty = tt

  set-typed : (n : ℕ) → ((s : Selection) → Makes n s) → (ty : Named) (ss : List Selection) → TypedTo schema n ty (built_set schema ty ss).selections
  set-typed n each_makes ty [] = typed-none n ty
  set-typed n each_makes ty (s ∷ ss) =
      typed-both n ty (makes_of schema s ty) (built_set schema ty ss).selections (each_makes s ty) (set-typed n each_makes ty ss)

  module _ (n : ℕ) (inside : (s : Selection) → Makes n s) where
    abbrev One : Named → List Built → Type 0
    One ty xs = TypedTo schema (suc n) ty xs

    field-by : (f : Field) (ty : Named) (found : Option FieldDefinition) → field_of schema ty.text f.name.text ≡ found
        → One ty (option_map_or (made.defined schema f) found [])
    field-by f ty None is = tt
    field-by f ty (Some definition) is = by (made.is_selected_leaf schema f definition)
      where
        it : Built
        it = built.Field (record {
          alias = f.alias;
          name = f.name;
          arguments = f.arguments;
          directives = f.directives;
          selection_set = built_set schema (named_type definition.ty) f.selection_set;
          location = f.location;
          definition = definition;
        })

        by : (b : Bool) → One ty (if b then [] else it ∷ [])
        by true = tt
        by false =
            (subst (typed_at schema (TypedTo schema n) ty) (sym (out-field _)) (is, set-typed n inside (named_type definition.ty) f.selection_set), tt)

    inline-by : (i : InlineFragment) (ty : Named) (b : Bool) (condition : Option Named) → i.type_condition ≡ condition
        → TypedTo schema n (unwrap_or condition ty) (built_set schema (type_inside ty condition) i.selection_set).selections
    inline-by i ty b (Some name) is = set-typed n inside name i.selection_set
    inline-by i ty b None is = set-typed n inside ty i.selection_set

    inline-typed : (i : InlineFragment) (ty : Named) → One ty (made.inline schema i ty)
    inline-typed i ty = by (is_open schema i.type_condition)
      where
        by : (b : Bool) → One ty (if b then built.InlineFragment (record {
          type_condition = i.type_condition;
          directives = i.directives;
          selection_set = built_set schema (type_inside ty i.type_condition) i.selection_set;
          location = i.location;
        }) ∷ [] else [])
        by true = (subst (typed_at schema (TypedTo schema n) ty) (sym (out-inline _)) (inline-by i ty true i.type_condition refl), tt)
        by false = tt

    one-makes : (s : Selection) → Makes (suc n) s
    one-makes =
        each (λ s. Makes (suc n) s)
        (λ f ty. subst (One ty) (sym (made-field f ty)) (field-by f ty (field_of schema ty.text f.name.text) refl))
        (λ s ty. subst (One ty) (sym (made-spread s ty)) (subst (typed_at schema (TypedTo schema n) ty) (sym (out-spread _)) tt, tt))
        (λ i ty. subst (One ty) (sym (made-inline i ty)) (inline-typed i ty))

  makes-typed : (n : ℕ) (s : Selection) → Makes n s
  makes-typed zero s ty = tt
  makes-typed (suc n) s ty = one-makes n (makes-typed n) s ty

  pub built-typed : (ty : Named) (ss : List Selection) → AreTyped schema ty (built_set schema ty ss).selections
  built-typed ty ss n = set-typed n (makes-typed n) ty ss

  -- ---- operations

  abbrev IsTyped : Operation → Type 0
  IsTyped it = AreTyped schema it.selection_set.ty it.selection_set.selections

  operation-typed : (several : Bool) (it : OperationDefinition) → AreOperationsTyped schema (built_operation schema several it)
  operation-typed several it = by_name (is_ambiguous several it)
    where
      by_root : (root : Option Named) → AreOperationsTyped schema (option_map_or (λ (r : Named). operation_on schema r it ∷ []) root [])
      by_root (Some root) = (built-typed root it.selection_set, tt)
      by_root None = tt

      by_name : (b : Bool) → AreOperationsTyped schema (if b then [] else option_map_or (λ (r : Named). operation_on schema r it ∷ []) (root_type schema it) [])
      by_name true = tt
      by_name false = by_root (root_type schema it)

  operations-typed : (several : Bool) (operations : List OperationDefinition) → AreOperationsTyped schema (flat_map (built_operation schema several) operations)
  operations-typed several [] = tt
  operations-typed several (it ∷ operations) =
      all-both IsTyped (built_operation schema several it) (flat_map (built_operation schema several) operations) (operation-typed several it)
      (operations-typed several operations)

  -- ---- fragments

  abbrev IsFragmentTyped : Fragment → Type 0
  IsFragmentTyped it = AreTyped schema it.selection_set.ty it.selection_set.selections

  fragment-typed : (it : FragmentDefinition) → AllByRecursion IsFragmentTyped (built_fragment schema it)
  fragment-typed it = by (is_defined schema it.type_condition)
    where
      by : (b : Bool) → AllByRecursion IsFragmentTyped (if b then fragment_on schema it ∷ [] else [])
      by true = (built-typed it.type_condition it.selection_set, tt)
      by false = tt

  fragments-typed : (fragments : List FragmentDefinition) → AllByRecursion IsFragmentTyped (built_fragments schema fragments)
  fragments-typed [] = tt
  fragments-typed (it ∷ fragments) =
      all-both IsFragmentTyped (built_fragment schema it) (built_fragments schema fragments) (fragment-typed it) (fragments-typed fragments)

  entry-typed : (fragments : List Fragment) → AllByRecursion IsFragmentTyped fragments → AreFragmentsTyped schema fragments
  entry-typed [] each_typed name it is = absurd (let e : None ≡ Some it = is in cc)
  entry-typed (x ∷ xs) each_typed name it is = by (is_called fragment_name name x) is (λ e. entry-typed xs each_typed.1 name it e)
    where
      by : (b : Bool) → cond b (Some x) (entry fragment_name name xs) ≡ Some it
          → (entry fragment_name name xs ≡ Some it → IsFragmentTyped it) → IsFragmentTyped it
      by true e later = let same : x ≡ it = (let f : Some x ≡ Some it = e in cc) in subst IsFragmentTyped same each_typed.0
      by false e later = later e

-- ---- of a text

its-schema : (schema : Schema) (text : List ℕ) (taken : Taken) → AreDefinitions schema text taken → taken.schema ≡ schema
its-schema schema text taken definitions = ap (λ (t : Taken). t.schema) definitions.all

text-operations : (schema : Schema) (text : List ℕ) (document : ExecutableDocument) → DocumentText schema text document → AreOperationsTyped schema document.operations
text-operations schema text document means =
    let taken = means.taken in
    let first = first_operations taken.definitions.operations in
    subst (λ (d : ExecutableDocument). AreOperationsTyped schema d.operations) (sym means.is)
    (subst (λ (s : Schema). AreOperationsTyped schema (built_operations s first)) (sym (its-schema schema text taken means.definitions)) (operations-typed schema (are_several first) first))

text-fragments : (schema : Schema) (text : List ℕ) (document : ExecutableDocument) → DocumentText schema text document → AreFragmentsTyped schema document.fragments
text-fragments schema text document means =
    let taken = means.taken in
    let first = first_fragments taken.definitions.fragments in
    subst (λ (d : ExecutableDocument). AreFragmentsTyped schema d.fragments) (sym means.is)
    (subst (λ (s : Schema). AreFragmentsTyped schema (built_fragments s first)) (sym (its-schema schema text taken means.definitions))
    (entry-typed schema (built_fragments schema first) (fragments-typed schema first)))

pub text-typed : (schema : Schema) (text : List ℕ) (document : ExecutableDocument) → DocumentText schema text document → IsDocumentTyped schema document
text-typed schema text document means =
    record { operations = text-operations schema text document means; fragments = text-fragments schema text document means }
