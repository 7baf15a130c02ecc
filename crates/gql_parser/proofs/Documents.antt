-- Each operation of a document that a text means selects something.
use Rattle.std.proofs.Common.{◌≡◌, ℕ, Bool, true, false, if◌then◌else◌, Option, Some, None, List, [], ◌∷◌, ◌++◌, flat_map, All, sym, subst}
use Rattle.std.specs.Option.{option_map_or}
use Rattle.std.proofs.lemmas.List.Elements.{All-append, All-cons, All-head, All-tail, All-nil}
use Rattle.gql_ast_base.specs.Names.{Named}
use Rattle.gql_ast.specs.declared.operation.FragmentDefinition.{FragmentDefinition}
use Rattle.gql_ast.specs.declared.operation.OperationDefinition.{OperationDefinition}
use Rattle.gql_document.specs.AmbiguousAnonymousOperation.{are_several, is_ambiguous, ambiguous_anonymous_operation}
use Rattle.gql_document.specs.Build.{build_faults, built_operation, faults_on, faults_inside, fragment_faults, operation_faults, operation_on, subscription_faults}
use Rattle.gql_document.specs.Builders.{Taken}
use Rattle.gql_document.specs.Definitions.{no_definitions}
use Rattle.gql_document.specs.FragmentNameCollision.{first_fragments, fragment_name_collisions}
use Rattle.gql_document.specs.OperationNameCollision.{first_operations, operation_name_collisions}
use Rattle.gql_document.specs.SelectionFaults.{selection_faults}
use Rattle.gql_document.specs.UndefinedRootOperation.{root_type, undefined_root_operation}
use Rattle.gql_parser.specs.DocumentText.{DocumentText, its_given}
use Rattle.gql_document_types.specs.declared.document.ExecutableDocument.{ExecutableDocument}
use Rattle.gql_schema_types.specs.declared.schema.Schema.{Schema}
use Rattle.gql_parser.specs.Selecting.{SelectSomething, SelectsSomething}
use Rattle.gql_parser.proofs.Definitions.{NodesLaw, Selects, definitions_select}
use Rattle.gql_parser.proofs.Kept.{back_empty, front_empty, set_kept}
use Rattle.gql_parser.proofs.Operations.{first_select, taken_select}

module _ (schema : Schema) (fragments : List FragmentDefinition) where
  operation_kept : (several : Bool) (it : OperationDefinition) → Selects it → operation_faults schema fragments several it ≡ []
      → All SelectsSomething (built_operation schema several it)
  operation_kept several it some none = by_name (is_ambiguous several it)
    where
      by_root : (root : Option Named) → option_map_or (λ (r : Named). faults_on schema fragments r it) root (undefined_root_operation it ∷ []) ≡ []
          → All SelectsSomething (option_map_or (λ (r : Named). operation_on schema r it ∷ []) root [])
      by_root (Some root) quiet =
          All-cons SelectsSomething (operation_on schema root it) []
          (set_kept schema root it.selection_set some (front_empty (selection_faults schema root it.selection_set) (subscription_faults schema fragments it) quiet))
          (All-nil SelectsSomething)
      by_root None quiet = All-nil SelectsSomething

      by_name : (b : Bool) → All SelectsSomething (if b then [] else option_map_or (λ (r : Named). operation_on schema r it ∷ []) (root_type schema it) [])
      by_name true = All-nil SelectsSomething
      by_name false =
          by_root (root_type schema it)
          (back_empty (ambiguous_anonymous_operation several it)
          (option_map_or (λ (r : Named). faults_on schema fragments r it) (root_type schema it) (undefined_root_operation it ∷ [])) none)

  operations_kept : (several : Bool) (operations : List OperationDefinition) → All Selects operations → flat_map (operation_faults schema fragments several) operations ≡ []
      → All SelectsSomething (flat_map (built_operation schema several) operations)
  operations_kept several [] h none = All-nil SelectsSomething
  operations_kept several (it ∷ operations) h none =
      let here = operation_faults schema fragments several it in
      let later = flat_map (operation_faults schema fragments several) operations in
      All-append SelectsSomething (built_operation schema several it) (flat_map (built_operation schema several) operations)
      (operation_kept several it (All-head Selects it operations h) (front_empty here later none))
      (operations_kept several operations (All-tail Selects it operations h) (back_empty here later none))

-- nothing is wrong inside the operations of what was taken
quiet_inside : (taken : Taken) → taken.faults ++ build_faults taken.schema taken.definitions ≡ []
    → flat_map (operation_faults taken.schema (first_fragments taken.definitions.fragments) (are_several (first_operations taken.definitions.operations)))
    (first_operations taken.definitions.operations) ≡ []
quiet_inside taken none =
    let first = first_operations taken.definitions.operations in
    let fragments = first_fragments taken.definitions.fragments in
    let inside = faults_inside taken.schema first fragments in
    let of_fragments = fragment_name_collisions taken.definitions.fragments in
    front_empty (flat_map (operation_faults taken.schema fragments (are_several first)) first) (flat_map (fragment_faults taken.schema) fragments)
    (back_empty of_fragments inside
    (back_empty (operation_name_collisions taken.definitions.operations) (of_fragments ++ inside)
    (back_empty taken.faults (build_faults taken.schema taken.definitions) none)))

pub select : NodesLaw → (schema : Schema) (text : List ℕ) (document : ExecutableDocument) → DocumentText schema text document → SelectSomething document
select law schema text document means =
    let taken = means.taken in
    let d = means.definitions in
    let of_taken : All Selects taken.definitions.operations =
    subst (λ (t : Taken). All Selects t.definitions.operations) (sym d.all)
    (taken_select d.definitions no_definitions (All-nil Selects) (definitions_select law text (its_given text).file d.definitions d.mean)) in
    let first = first_operations taken.definitions.operations in
    subst (λ (whole : ExecutableDocument). All SelectsSomething whole.operations) (sym means.is)
    (operations_kept taken.schema (first_fragments taken.definitions.fragments) (are_several first) first
    (first_select [] taken.definitions.operations of_taken) (quiet_inside taken means.builds))
