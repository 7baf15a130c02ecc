-- Uses, judged for some operations one after another.
use Rattle.std.specs.Prelude.{ℕ, ◌+◌, Bool, false, ◌||◌, List, [], ◌∷◌, ◌++◌, map, Option, Some, None, if◌then◌else◌}
use Rattle.std.specs.List.{flat_map}
use Rattle.std.specs.Option.{option_map_or}
use Rattle.gql_ast.specs.declared.operation.VariableDefinition.{VariableDefinition}
use Rattle.gql_ast_base.specs.declared.type_ref.TypeRef.{TypeRef}
use Rattle.gql_diag_messages.specs.declared.diagnostic_data.DiagnosticData.{DiagnosticData}
use Rattle.gql_rules_values.specs.Faults.{only_if}
use Rattle.gql_rules_nodes.specs.Reached.{is_reached}
use Rattle.gql_rules.specs.DisallowedVariableUsage.{misfit, disallowed_type, disallowed_fault}
use Rattle.gql_rules.specs.OneOfVariable.{is_nullable, may_be_null, literal_told}
use Rattle.gql_rules.specs.UndefinedVariable.{is_undefined, undefined_fault}
use Rattle.gql_rules.specs.Uses.{Use}
use Rattle.gql_schema_types.specs.declared.types.ExtendedType.{ExtendedType}

-- a use, whether some operation lacks its variable, the variable's type in the first operation in which the use is not allowed, and whether the
-- variable may be null in some operation
pub record Judged : Type 0 where
  pub used : Use
  pub undefined : Bool
  pub variable : Option TypeRef
  pub nullable : Bool

abbrev pub fresh : Use → Judged
fresh used = record { used = used; undefined = false; variable = None; nullable = false }

abbrev pub fresh_row : List Use → List Judged
fresh_row uses = map fresh uses

abbrev pub or_first : {T : Type 0} → Option T → Option T → Option T
or_first None further = further
or_first (Some first) further = Some first

module _ (types : List ExtendedType) where
  -- judged for an operation with these variables too
  abbrev pub judged_in : List VariableDefinition → Judged → Judged
  judged_in variables it = record {
    used = it.used;
    undefined = it.undefined || is_undefined variables it.used;
    variable = or_first it.variable (disallowed_type types variables it.used);
    nullable = it.nullable || may_be_null variables it.used;
  }

  -- with the type of a variable that is defined so, if the use is not allowed
  abbrev pub with_misfit : VariableDefinition → Judged → Judged
  with_misfit variable it = record it { variable = or_first it.variable (misfit types it.used.place variable) }

  -- the same for an operation that defines the variable so
  abbrev pub judged_with : VariableDefinition → Judged → Judged
  judged_with variable it = record it {
    variable = or_first it.variable (misfit types it.used.place variable);
    nullable = it.nullable || is_nullable variable;
  }

  abbrev pub row_judged : List VariableDefinition → List Judged → List Judged
  row_judged variables row = map (judged_in variables) row

  -- those of these rows that are marked, numbered from v on
  abbrev pub rows_judged : List VariableDefinition → List ℕ → ℕ → List (List Judged) → List (List Judged)
  rows_judged variables states v [] = []
  rows_judged variables states v (row ∷ rows) =
      (if is_reached states v then row_judged variables row else row) ∷ rows_judged variables states (v + 1) rows

-- what is told of a use
abbrev pub told : Judged → List DiagnosticData
told it =
    only_if it.undefined (undefined_fault it.used)
    ++ (option_map_or (disallowed_fault it.used) it.variable [] ++ (if it.nullable then literal_told it.used else []))

abbrev pub row_told : List Judged → List DiagnosticData
row_told row = flat_map told row
