-- Broken rules, as diagnostics.
use Rattle.std.specs.Prelude.{Bool, List, [], ◌∷◌, None, if◌then◌else◌}
use Rattle.gql_ast_base.specs.Names.{Named}
use Rattle.gql_diag_messages.specs.declared.rule.Rule.{Rule}
use Rattle.gql_diag_messages.specs.declared.details.Details.TheVariants.{RecursionLimitError}
use Rattle.gql_diag_messages.specs.declared.diagnostic_data.DiagnosticData.{DiagnosticData}
pub use Rattle.gql_diag_messages.specs.Family.{fault}

-- what has this name breaks a rule
abbrev pub name_fault : Rule → Named → DiagnosticData
name_fault rule name = fault rule (name.text ∷ []) name.location None

-- the chain of names that begins with this one is too long
abbrev pub long_chain : Named → DiagnosticData
long_chain name = record { location = name.location; details = RecursionLimitError }

-- one diagnostic where something holds, and else none
abbrev pub only_if : Bool → DiagnosticData → List DiagnosticData
only_if holds told = if holds then told ∷ [] else []
