-- A directive that is used is defined: section 5.7.1 of GraphQL October 2021. `use_faults` of Directives.antt says where it is
-- broken.
use Rattle.std.specs.Prelude.{[], ◌∷◌, None}
use Rattle.gql_ast_base.specs.declared.directive.Directive.{Directive}
use Rattle.gql_diag_messages.specs.declared.rule.Rule.TheVariants.{UndefinedDirective}
use Rattle.gql_diag_messages.specs.declared.diagnostic_data.DiagnosticData.{DiagnosticData}
use Rattle.gql_rules_values.specs.Faults.{fault}

-- a use of a directive that is not defined
abbrev pub undefined_directive : Directive → DiagnosticData
undefined_directive used = fault UndefinedDirective (used.name.text ∷ []) used.location None
