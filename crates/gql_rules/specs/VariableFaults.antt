-- What is wrong with the uses of variables: sections 5.8.3 to 5.8.5 of GraphQL October 2021.
use Rattle.std.specs.Prelude.{◌≡◌, ℕ, ◌+◌, List, [], ◌∷◌, ◌++◌, map, filter, if◌then◌else◌}
use Rattle.std.specs.List.{All, flat_map}
use Rattle.gql_diag_messages.specs.declared.diagnostic_data.DiagnosticData.{DiagnosticData}
use Rattle.gql_document_types.specs.Spreads.{spread_graph, spread_numbers}
use Rattle.gql_document_types.specs.declared.document.ExecutableDocument.{ExecutableDocument}
use Rattle.gql_document_types.specs.declared.fragment.Fragment.{Fragment}
use Rattle.gql_document_types.specs.declared.operation.Operation.{Operation}
use Rattle.gql_rules_nodes.specs.Reached.{AreReached, is_reached}
use Rattle.gql_rules.specs.DisallowedVariableUsage.{disallowed_usage}
use Rattle.gql_rules.specs.OneOfVariable.{one_of_variable}
use Rattle.gql_rules.specs.UndefinedVariable.{undefined_variable}
use Rattle.gql_rules.specs.UnusedVariable.{unused_variables}
use Rattle.gql_rules.specs.Uses.{Use, operation_uses, fragment_uses}
use Rattle.gql_schema_types.specs.declared.schema.Schema.{Schema}

-- an operation, and marks at the fragments that it reaches by spreads
pub record Reach : Type 0 where
  pub operation : Operation
  pub states : List ℕ

abbrev pub IsReach : List Fragment → Reach → Type 0
IsReach fragments reach = AreReached (spread_graph fragments) (spread_numbers fragments reach.operation.selection_set.selections) reach.states

abbrev pub or_else : {D : Type 0} → List D → List D → List D
or_else [] others = others
or_else (told ∷ more) others = told ∷ more

-- what is told of the first of these of which something is told
abbrev pub first_told : {X D : Type 0} → (X → List D) → List X → List D
first_told told [] = []
first_told told (x ∷ xs) = or_else (told x) (first_told told xs)

-- the operations that reach the fragment of a number
abbrev pub reaching : List Reach → ℕ → List Operation
reaching reaches v = map (λ (reach : Reach). reach.operation) (filter (λ (reach : Reach). is_reached reach.states v) reaches)

module _ (schema : Schema) where
  -- what is wrong with a use that these operations reach: each rule is told once, for the first operation in which the use breaks it
  abbrev pub use_faults : List Operation → Use → List DiagnosticData
  use_faults operations used =
      first_told (λ (operation : Operation). undefined_variable operation.variables used) operations
      ++ (first_told (λ (operation : Operation). disallowed_usage schema.types operation.variables used) operations
      ++ first_told (λ (operation : Operation). one_of_variable operation.variables used) operations)

  -- with the uses in these fragments, numbered from v on
  abbrev pub fragments_faults : List Reach → ℕ → List Fragment → List DiagnosticData
  fragments_faults reaches v [] = []
  fragments_faults reaches v (fragment ∷ fragments) =
      flat_map (use_faults (reaching reaches v)) (fragment_uses schema fragment) ++ fragments_faults reaches (v + 1) fragments

  -- the uses in those of these fragments that are marked, numbered from v on
  abbrev pub reached_uses : List ℕ → ℕ → List Fragment → List Use
  reached_uses states v [] = []
  reached_uses states v (fragment ∷ fragments) =
      (if is_reached states v then fragment_uses schema fragment else []) ++ reached_uses states (v + 1) fragments

  -- with the uses in an operation itself, and with its variables, which may be used in fragments too
  abbrev pub operation_faults : List Fragment → Reach → List DiagnosticData
  operation_faults fragments reach =
      flat_map (use_faults (reach.operation ∷ [])) (operation_uses schema reach.operation)
      ++ unused_variables (operation_uses schema reach.operation ++ reached_uses reach.states 0 fragments) reach.operation.variables

-- What is told of a document.
pub record AreVariableFaults (schema : Schema) (document : ExecutableDocument) (told : List DiagnosticData) : Type 0 where
  pub reaches : List Reach
  pub of_operations : map (λ (reach : Reach). reach.operation) reaches ≡ document.operations
  pub reached : All (IsReach document.fragments) reaches
  pub whole : told ≡ flat_map (operation_faults schema document.fragments) reaches ++ fragments_faults schema reaches 0 document.fragments
