-- The document that operations and fragments make, and the faults in them.
use Rattle.std.specs.Prelude.{Bool, true, false, List, [], ◌∷◌, ◌++◌, if◌then◌else◌}
use Rattle.std.specs.List.{flat_map}
use Rattle.std.specs.Option.{option_map_or}
use Rattle.gql_source.specs.File.{Files}
use Rattle.gql_ast_base.specs.Names.{Named}
use Rattle.gql_ast_base.specs.declared.operation_type.OperationType.{OperationType}
use Rattle.gql_ast_base.specs.declared.operation_type.OperationType.TheVariants.{Query, Mutation, Subscription}
use Rattle.gql_ast.specs.declared.operation.FragmentDefinition.{FragmentDefinition}
use Rattle.gql_ast.specs.declared.operation.OperationDefinition.{OperationDefinition}
use Rattle.gql_ast.specs.declared.selection.Selection.{Selection}
use Rattle.gql_diag_messages.specs.declared.diagnostic_data.DiagnosticData.{DiagnosticData}
use Rattle.gql_document_types.specs.declared.document.ExecutableDocument.{ExecutableDocument}
use Rattle.gql_document_types.specs.declared.fragment.Fragment.{Fragment}
use Rattle.gql_document_types.specs.declared.operation.Operation.{Operation}
use Rattle.gql_schema_types.specs.declared.schema.Schema.{Schema}
use Rattle.gql_document.specs.AmbiguousAnonymousOperation.{are_several, is_ambiguous, ambiguous_anonymous_operation}
use Rattle.gql_document.specs.BuiltSelections.{built_set}
use Rattle.gql_document.specs.FragmentNameCollision.{first_fragments, fragment_name_collisions}
use Rattle.gql_document.specs.Nodes.{is_defined}
use Rattle.gql_document.specs.OperationNameCollision.{first_operations, operation_name_collisions}
use Rattle.gql_document.specs.RootSelections.{root_selections}
use Rattle.gql_document.specs.SelectionFaults.{selection_faults}
use Rattle.gql_document.specs.SubscriptionUsesConditionalSelection.{subscription_uses_conditional_selection}
use Rattle.gql_document.specs.SubscriptionUsesIntrospection.{subscription_uses_introspection}
use Rattle.gql_document.specs.SubscriptionUsesMultipleFields.{subscription_uses_multiple_fields}
use Rattle.gql_document.specs.UndefinedRootOperation.{root_type, undefined_root_operation}
use Rattle.gql_document.specs.UndefinedTypeInNamedFragmentTypeCondition.{undefined_type_in_named_fragment_type_condition}
use Rattle.gql_document.specs.declared.executable_definitions.ExecutableDefinitions.{ExecutableDefinitions}

-- ---- the document: the first operation and the first fragment of each name, each with what is defined in it

module _ (schema : Schema) where
  abbrev pub operation_on : Named → OperationDefinition → Operation
  operation_on root it = record {
    operation_type = it.operation_type;
    name = it.name;
    variables = it.variables;
    directives = it.directives;
    selection_set = built_set schema root it.selection_set;
    location = it.location;
  }

  -- not one without a name among several, and not one without a root type
  abbrev pub built_operation : Bool → OperationDefinition → List Operation
  built_operation several it =
      if is_ambiguous several it then [] else option_map_or (λ (root : Named). operation_on root it ∷ []) (root_type schema it) []

  abbrev pub fragment_on : FragmentDefinition → Fragment
  fragment_on it = record {
    name = it.name;
    directives = it.directives;
    selection_set = built_set schema it.type_condition it.selection_set;
    location = it.location;
  }

  -- not one whose condition is not defined
  abbrev pub built_fragment : FragmentDefinition → List Fragment
  built_fragment it = if is_defined schema it.type_condition then fragment_on it ∷ [] else []

  abbrev pub built_operations : List OperationDefinition → List Operation
  built_operations operations = flat_map (built_operation (are_several operations)) operations

  abbrev pub built_fragments : List FragmentDefinition → List Fragment
  built_fragments fragments = flat_map built_fragment fragments

  abbrev pub built : Files → ExecutableDefinitions → ExecutableDocument
  built sources taken = record {
    sources = sources;
    operations = built_operations (first_operations taken.operations);
    fragments = built_fragments (first_fragments taken.fragments);
  }

-- ---- the faults

abbrev pub is_subscription : OperationType → Bool
is_subscription Query = false
is_subscription Mutation = false
is_subscription Subscription = true

-- those of the selections at the root of a subscription
abbrev pub root_faults : OperationDefinition → List Selection → List DiagnosticData
root_faults operation roots =
    subscription_uses_multiple_fields operation roots
    ++ (subscription_uses_introspection operation roots ++ subscription_uses_conditional_selection operation roots)

module _ (schema : Schema) (fragments : List FragmentDefinition) where
  abbrev pub subscription_root_faults : OperationDefinition → List DiagnosticData
  subscription_root_faults operation = root_faults operation (root_selections schema fragments operation.selection_set)

  abbrev pub subscription_faults : OperationDefinition → List DiagnosticData
  subscription_faults operation = if is_subscription operation.operation_type then subscription_root_faults operation else []

  -- those inside an operation on its root type
  abbrev pub faults_on : Named → OperationDefinition → List DiagnosticData
  faults_on root operation = selection_faults schema root operation.selection_set ++ subscription_faults operation

  abbrev pub operation_faults : Bool → OperationDefinition → List DiagnosticData
  operation_faults several operation =
      ambiguous_anonymous_operation several operation
      ++ option_map_or (λ root. faults_on root operation) (root_type schema operation) (undefined_root_operation operation ∷ [])

abbrev pub fragment_faults : Schema → FragmentDefinition → List DiagnosticData
fragment_faults schema fragment =
    if is_defined schema fragment.type_condition then selection_faults schema fragment.type_condition fragment.selection_set
    else undefined_type_in_named_fragment_type_condition fragment ∷ []

-- those of distinct operations and of distinct fragments
abbrev pub faults_inside : Schema → List OperationDefinition → List FragmentDefinition → List DiagnosticData
faults_inside schema operations fragments =
    flat_map (operation_faults schema fragments (are_several operations)) operations ++ flat_map (fragment_faults schema) fragments

abbrev pub build_faults : Schema → ExecutableDefinitions → List DiagnosticData
build_faults schema taken =
    operation_name_collisions taken.operations
    ++ (fragment_name_collisions taken.fragments ++ faults_inside schema (first_operations taken.operations) (first_fragments taken.fragments))
