-- A fragment is on a type that is defined: section 5.5.1.2 of GraphQL October 2021. `fragment_faults` of Build.antt says where it
-- is broken.
use Rattle.std.specs.Prelude.{None}
use Rattle.gql_ast.specs.declared.operation.FragmentDefinition.{FragmentDefinition}
use Rattle.gql_diag_messages.specs.declared.rule.Rule.TheVariants.{UndefinedTypeInNamedFragmentTypeCondition}
use Rattle.gql_diag_messages.specs.declared.diagnostic_data.DiagnosticData.{DiagnosticData}
use Rattle.gql_document.specs.Faults.{name_fault}

-- that the condition of a fragment is not defined
abbrev pub undefined_type_in_named_fragment_type_condition : FragmentDefinition → DiagnosticData
undefined_type_in_named_fragment_type_condition fragment = name_fault UndefinedTypeInNamedFragmentTypeCondition fragment.type_condition None
