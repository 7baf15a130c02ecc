-- What is built of a text has its sets on the types of what they stand in, and its fields with the definitions of these.
use Rattle.std.proofs.Common.{rules, ◌≡◌, ℕ, zero, suc, Bool, true, false, if◌then◌else◌, cond, List, [], ◌∷◌, ◌++◌, flat_map, Option, Some, None, refl, sym, ap, subst}
use Rattle.std.specs.List.{AllByRecursion}
use Rattle.std.specs.Option.{option_map_or, unwrap_or}
use Rattle.gql_ast_base.specs.Names.{Named}
use Rattle.gql_ast_base.specs.TypeParts.{named_type}
use Rattle.gql_ast.proofs.Variants.{each}
use Rattle.gql_ast.specs.declared.field_definition.FieldDefinition.{FieldDefinition}
use Rattle.gql_ast.specs.declared.operation.FragmentDefinition.{FragmentDefinition}
use Rattle.gql_ast.specs.declared.operation.OperationDefinition.{OperationDefinition}
use Rattle.gql_ast.specs.declared.selection.Field.{Field}
use Rattle.gql_ast.specs.declared.selection.FragmentSpread.{FragmentSpread}
use Rattle.gql_ast.specs.declared.selection.InlineFragment.{InlineFragment}
use Rattle.gql_ast.specs.declared.selection.Selection.{Selection, the_lemmas}
use Rattle.gql_ast.specs.declared.selection.Selection.TheVariants as selection
use Rattle.gql_document.specs.AmbiguousAnonymousOperation.{are_several, is_ambiguous}
use Rattle.gql_document.specs.Build.{operation_on, built_operation, built_operations, fragment_on, built_fragment, built_fragments}
use Rattle.gql_document.specs.Builders.{Taken}
use Rattle.gql_document.specs.BuiltSelections.{makes_of, built_set, spread_of}
use Rattle.gql_document.specs.FragmentNameCollision.{first_fragments}
use Rattle.gql_document.specs.bridge.Made as made
use Rattle.gql_document.specs.Nodes.{is_open, is_defined, type_inside}
use Rattle.gql_document.specs.OperationNameCollision.{first_operations}
use Rattle.gql_document.specs.UndefinedRootOperation.{root_type}
use Rattle.gql_document_types.proofs.Variants.{out-field, out-spread, out-inline}
use Rattle.gql_document_types.specs.RootFields.{fragment_name}
use Rattle.gql_document_types.specs.declared.document.ExecutableDocument.{ExecutableDocument}
use Rattle.gql_document_types.specs.declared.fragment.Fragment.{Fragment}
use Rattle.gql_document_types.specs.declared.operation.Operation.{Operation}
use Rattle.gql_document_types.specs.declared.selection.Selection.{Selection as Built, out-Selection}
use Rattle.gql_document_types.specs.declared.selection.Selection.TheVariants as built
use Rattle.gql_parser.specs.DocumentText.{DocumentText, AreDefinitions}
use Rattle.gql_schema_types.specs.Entries.{entry, is_called}
use Rattle.gql_schema_types.specs.Schemas.{field_of}
use Rattle.gql_schema_types.specs.declared.schema.Schema.{Schema}
use Rattle.gql_valid_laws.proofs.Bases.{based_at, BasedTo, AreBased, IsDocumentBased}
use Rattle.gql_valid_laws.proofs.Selections.{all-both}

module _ (schema : Schema) where
  abbrev AreOperationsBased : List Operation → Type 0
  AreOperationsBased operations = AllByRecursion (λ (it : Operation). AreBased schema it.selection_set.ty it.selection_set.selections) operations

  abbrev AreFragmentsBased : List Fragment → Type 0
  AreFragmentsBased fragments =
      (name : List ℕ) (it : Fragment) → entry fragment_name name fragments ≡ Some it → AreBased schema it.selection_set.ty it.selection_set.selections

  made-field : (f : Field) (ty : Named) → makes_of schema (selection.Field f) ty ≡ made.field schema f ty
  made-field f ty = search (rules, the_lemmas)

  made-spread : (s : FragmentSpread) (ty : Named) → makes_of schema (selection.FragmentSpread s) ty ≡ spread_of s ∷ []
  made-spread s ty = search (rules, the_lemmas)

  made-inline : (i : InlineFragment) (ty : Named) → makes_of schema (selection.InlineFragment i) ty ≡ made.inline schema i ty
  made-inline i ty = search (rules, the_lemmas)

  abbrev Makes : ℕ → Selection → Type 0
  Makes n s = (ty : Named) → BasedTo schema n ty (makes_of schema s ty)

  based-both : (n : ℕ) (ty : Named) (xs ys : List Built) → BasedTo schema n ty xs → BasedTo schema n ty ys → BasedTo schema n ty (xs ++ ys)
  based-both zero ty xs ys one other = tt
  based-both (suc n) ty xs ys one other = all-both (λ x. based_at schema (BasedTo schema n) ty (out-Selection x)) xs ys one other

  based-none : (n : ℕ) (ty : Named) → BasedTo schema n ty []
  based-none zero ty = tt
  based-none (suc n) ty = tt

  set-based : (n : ℕ) → ((s : Selection) → Makes n s) → (ty : Named) (ss : List Selection) → BasedTo schema n ty (built_set schema ty ss).selections
  set-based n each_makes ty [] = based-none n ty
  set-based n each_makes ty (s ∷ ss) =
      based-both n ty (makes_of schema s ty) (built_set schema ty ss).selections (each_makes s ty) (set-based n each_makes ty ss)

  module _ (n : ℕ) (inside : (s : Selection) → Makes n s) where
    abbrev One : Named → List Built → Type 0
    One ty xs = BasedTo schema (suc n) ty xs

    field-by : (f : Field) (ty : Named) (found : Option FieldDefinition) → field_of schema ty.text f.name.text ≡ found
        → One ty (option_map_or (made.defined schema f) found [])
    field-by f ty None is = tt
    field-by f ty (Some definition) is = by (made.is_selected_leaf schema f definition)
      where
        it : Built
        it = built.Field (record {
          alias = f.alias;
          name = f.name;
          arguments = f.arguments;
          directives = f.directives;
          selection_set = built_set schema (named_type definition.ty) f.selection_set;
          location = f.location;
          definition = definition;
        })

        by : (b : Bool) → One ty (if b then [] else it ∷ [])
        by true = tt
        by false =
            (subst (based_at schema (BasedTo schema n) ty) (sym (out-field _)) (is, refl, set-based n inside (named_type definition.ty) f.selection_set), tt)

    inside-is : (ty : Named) (condition : Option Named) → type_inside ty condition ≡ unwrap_or condition ty
    inside-is ty None = refl
    inside-is ty (Some name) = refl

    inline-based : (i : InlineFragment) (ty : Named) → One ty (made.inline schema i ty)
    inline-based i ty = by (is_open schema i.type_condition)
      where
        by : (b : Bool) → One ty (if b then built.InlineFragment (record {
          type_condition = i.type_condition;
          directives = i.directives;
          selection_set = built_set schema (type_inside ty i.type_condition) i.selection_set;
          location = i.location;
        }) ∷ [] else [])
        by true = (subst (based_at schema (BasedTo schema n) ty) (sym (out-inline _)) (inside-is ty i.type_condition, set-based n inside (type_inside ty i.type_condition) i.selection_set), tt)
        by false = tt

    one-makes : (s : Selection) → Makes (suc n) s
    one-makes =
        each (λ s. Makes (suc n) s)
        (λ f ty. subst (One ty) (sym (made-field f ty)) (field-by f ty (field_of schema ty.text f.name.text) refl))
        (λ s ty. subst (One ty) (sym (made-spread s ty)) (subst (based_at schema (BasedTo schema n) ty) (sym (out-spread _)) tt, tt))
        (λ i ty. subst (One ty) (sym (made-inline i ty)) (inline-based i ty))

  makes-based : (n : ℕ) (s : Selection) → Makes n s
  makes-based zero s ty = tt
  makes-based (suc n) s ty = one-makes n (makes-based n) s ty

  pub built-based : (ty : Named) (ss : List Selection) → AreBased schema ty (built_set schema ty ss).selections
  built-based ty ss n = set-based n (makes-based n) ty ss

  -- ---- operations

  abbrev IsBased : Operation → Type 0
  IsBased it = AreBased schema it.selection_set.ty it.selection_set.selections

  operation-based : (several : Bool) (it : OperationDefinition) → AreOperationsBased (built_operation schema several it)
  operation-based several it = by_name (is_ambiguous several it)
    where
      by_root : (root : Option Named) → AreOperationsBased (option_map_or (λ (r : Named). operation_on schema r it ∷ []) root [])
      by_root (Some root) = (built-based root it.selection_set, tt)
      by_root None = tt

      by_name : (b : Bool) → AreOperationsBased (if b then [] else option_map_or (λ (r : Named). operation_on schema r it ∷ []) (root_type schema it) [])
      by_name true = tt
      by_name false = by_root (root_type schema it)

  operations-based : (several : Bool) (operations : List OperationDefinition) → AreOperationsBased (flat_map (built_operation schema several) operations)
  operations-based several [] = tt
  operations-based several (it ∷ operations) =
      all-both IsBased (built_operation schema several it) (flat_map (built_operation schema several) operations) (operation-based several it)
      (operations-based several operations)

  -- ---- fragments

  abbrev IsFragmentBased : Fragment → Type 0
  IsFragmentBased it = AreBased schema it.selection_set.ty it.selection_set.selections

  fragment-based : (it : FragmentDefinition) → AllByRecursion IsFragmentBased (built_fragment schema it)
  fragment-based it = by (is_defined schema it.type_condition)
    where
      by : (b : Bool) → AllByRecursion IsFragmentBased (if b then fragment_on schema it ∷ [] else [])
      by true = (built-based it.type_condition it.selection_set, tt)
      by false = tt

  fragments-based : (fragments : List FragmentDefinition) → AllByRecursion IsFragmentBased (built_fragments schema fragments)
  fragments-based [] = tt
  fragments-based (it ∷ fragments) =
      all-both IsFragmentBased (built_fragment schema it) (built_fragments schema fragments) (fragment-based it) (fragments-based fragments)

  entry-based : (fragments : List Fragment) → AllByRecursion IsFragmentBased fragments → AreFragmentsBased fragments
  entry-based [] each_based name it is = absurd (let e : None ≡ Some it = is in cc)
  entry-based (x ∷ xs) each_based name it is = by (is_called fragment_name name x) is (λ e. entry-based xs each_based.1 name it e)
    where
      by : (b : Bool) → cond b (Some x) (entry fragment_name name xs) ≡ Some it
          → (entry fragment_name name xs ≡ Some it → IsFragmentBased it) → IsFragmentBased it
      by true e later = let same : x ≡ it = (let f : Some x ≡ Some it = e in cc) in subst IsFragmentBased same each_based.0
      by false e later = later e

-- ---- of a text

its-schema : (schema : Schema) (text : List ℕ) (taken : Taken) → AreDefinitions schema text taken → taken.schema ≡ schema
its-schema schema text taken definitions = ap (λ (t : Taken). t.schema) definitions.all

text-operations : (schema : Schema) (text : List ℕ) (document : ExecutableDocument) → DocumentText schema text document → AreOperationsBased schema document.operations
text-operations schema text document means =
    let taken = means.taken in
    let first = first_operations taken.definitions.operations in
    subst (λ (d : ExecutableDocument). AreOperationsBased schema d.operations) (sym means.is)
    (subst (λ (s : Schema). AreOperationsBased schema (built_operations s first)) (sym (its-schema schema text taken means.definitions)) (operations-based schema (are_several first) first))

text-fragments : (schema : Schema) (text : List ℕ) (document : ExecutableDocument) → DocumentText schema text document → AreFragmentsBased schema document.fragments
text-fragments schema text document means =
    let taken = means.taken in
    let first = first_fragments taken.definitions.fragments in
    subst (λ (d : ExecutableDocument). AreFragmentsBased schema d.fragments) (sym means.is)
    (subst (λ (s : Schema). AreFragmentsBased schema (built_fragments s first)) (sym (its-schema schema text taken means.definitions))
    (entry-based schema (built_fragments schema first) (fragments-based schema first)))

pub text-based : (schema : Schema) (text : List ℕ) (document : ExecutableDocument) → DocumentText schema text document → IsDocumentBased schema document
text-based schema text document means =
    record { operations = text-operations schema text document means; fragments = text-fragments schema text document means }
