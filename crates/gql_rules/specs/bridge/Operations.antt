-- The uses of variables, judged for one operation after another.
use Rattle.std.specs.Prelude.{◌≡◌, ℕ, ◌+◌, Bool, List, [], ◌∷◌, ◌++◌, map, fold, is_some, position, if◌then◌else◌}
use Rattle.std.specs.List.{flat_map}
use Rattle.std.specs.Str.{bytes_eq}
use Rattle.gql_ast_base.specs.Names.{Named}
use Rattle.gql_ast.specs.declared.operation.VariableDefinition.{VariableDefinition}
use Rattle.gql_diag_messages.specs.declared.diagnostic_data.DiagnosticData.{DiagnosticData}
use Rattle.gql_document_types.specs.declared.fragment.Fragment.{Fragment}
use Rattle.gql_document_types.specs.declared.operation.Operation.{Operation}
use Rattle.gql_rules_nodes.specs.Reached.{is_reached}
use Rattle.gql_rules.specs.bridge.Judged.{Judged, fresh_row, row_judged, rows_judged, row_told}
use Rattle.gql_rules.specs.UnusedVariable.{unless_used}
use Rattle.gql_rules.specs.Uses.{operation_uses, fragment_uses}
use Rattle.gql_rules.specs.VariableFaults.{Reach, IsReach}
use Rattle.gql_rules.specs.declared.variables.Variable.{Variable}
use Rattle.gql_schema_types.specs.declared.schema.Schema.{Schema}
use Rattle.gql_schema_types.specs.declared.types.ExtendedType.{ExtendedType}

-- ---- variables by name

abbrev pub own_name : Variable → Named
own_name variable = variable.definition.now.name

abbrev pub definition_of : Variable → VariableDefinition
definition_of variable = variable.definition.now

abbrev pub definitions_of : List Variable → List VariableDefinition
definitions_of variables = map definition_of variables

-- ---- the names that are used

-- a name that is there stays as it is
abbrev pub with_name : List (List ℕ) → List ℕ → List (List ℕ)
with_name names name = if is_some (position (bytes_eq name) names) then names else names ++ name ∷ []

abbrev pub with_use : List (List ℕ) → Judged → List (List ℕ)
with_use names it = with_name names it.used.name.text

abbrev pub noted_if : Bool → List (List ℕ) → List Judged → List (List ℕ)
noted_if reached names row = if reached then fold with_use names row else names

-- with the names in those of these rows that are marked, numbered from v on
abbrev pub rows_noted : List ℕ → ℕ → List (List ℕ) → List (List Judged) → List (List ℕ)
rows_noted states v names [] = names
rows_noted states v names (row ∷ rows) = rows_noted states (v + 1) (noted_if (is_reached states v) names row) rows

-- what is told of the variables whose names are not there
abbrev pub not_noted : List (List ℕ) → List VariableDefinition → List DiagnosticData
not_noted names variables =
    flat_map (λ (variable : VariableDefinition). unless_used (is_some (position (bytes_eq variable.name.text) names)) variable) variables

-- ---- uses in fragments

abbrev pub judged_if : Bool → List ExtendedType → List VariableDefinition → List Judged → List Judged
judged_if reached types variables row = if reached then row_judged types variables row else row

abbrev pub fresh_rows : Schema → List Fragment → List (List Judged)
fresh_rows schema fragments = map (λ fragment. fresh_row (fragment_uses schema fragment)) fragments

abbrev pub rows_told : List (List Judged) → List DiagnosticData
rows_told rows = flat_map row_told rows

-- ---- an operation

abbrev pub own_row : Schema → Operation → List Judged
own_row schema operation = fresh_row (operation_uses schema operation)

abbrev pub rows_after : Schema → Operation → List ℕ → List (List Judged) → List (List Judged)
rows_after schema operation states rows = rows_judged schema.types operation.variables states 0 rows

abbrev pub names_after : Schema → Operation → List ℕ → List (List Judged) → List (List ℕ)
names_after schema operation states rows = rows_noted states 0 (fold with_use [] (own_row schema operation)) rows

-- what is told of the uses in the operation itself, and of its variables
abbrev pub operation_told : Schema → Operation → List ℕ → List (List Judged) → List DiagnosticData
operation_told schema operation states rows =
    row_told (row_judged schema.types operation.variables (own_row schema operation))
    ++ not_noted (names_after schema operation states rows) operation.variables

-- what an operation leaves of the uses in fragments and of the list
pub record IsJudged
    (schema : Schema)
    (fragments : List Fragment)
    (operation : Operation)
    (rows : List (List Judged))
    (old : List DiagnosticData)
    (judged : List (List Judged))
    (new : List DiagnosticData) : Type 0 where
  pub states : List ℕ
  pub reach : IsReach fragments (record { operation = operation; states = states })
  pub rows_are : judged ≡ rows_after schema operation states rows
  pub listed : new ≡ old ++ operation_told schema operation states rows
