-- What is said of a diagnostic.
use Rattle.std.specs.Prelude.{ℕ, List, ◌++◌, Option, Some, None, option_map, codes}
use Rattle.gql_source.specs.Span.{Span}
use Rattle.gql_diag_messages.specs.declared.rule.Rule.{Rule}
use Rattle.gql_diag_messages.specs.declared.rule.Rule.TheVariants.{UndefinedRootOperation}
use Rattle.gql_diag_messages.specs.declared.details.RuleFault.{RuleFault}
use Rattle.gql_diag_messages.specs.declared.details.Details.{Details}
use Rattle.gql_diag_messages.specs.declared.details.Details.TheVariants.{ParserLimit, SyntaxError, SchemaBuildError}
use Rattle.gql_diag_messages.specs.declared.details.Details.TheVariants.{ExecutableBuildError, CompilerDiagnostic, RecursionLimitError}
use Rattle.gql_diag_messages.specs.Filled.{filled}
use Rattle.gql_diag_messages.specs.NamedType.{compat_names}
use Rattle.gql_diag_messages.specs.RuleText.{rule_name, message_pattern, compat_pattern}

-- the message of a broken rule, with the names of what broke it
abbrev pub fault_message : RuleFault → List ℕ
fault_message fault = filled (message_pattern fault.rule) fault.names

-- the same in the words of the reference implementation, where it has any
abbrev pub fault_compat : RuleFault → Option (List ℕ)
fault_compat fault =
    option_map (λ pattern. filled pattern (compat_names fault.rule fault.names)) (compat_pattern fault.rule fault.names)

-- what a report says at the place of a broken rule
abbrev pub label_pattern : Rule → List ℕ
label_pattern UndefinedRootOperation = codes "`{0}` is not defined in the schema and is therefore not supported"
label_pattern _ = codes "here"

abbrev pub fault_label : RuleFault → List ℕ
fault_label fault = filled (label_pattern fault.rule) fault.names

-- the broken rule, where there is one
abbrev pub fault_of : Details → Option RuleFault
fault_of (SchemaBuildError fault) = Some fault
fault_of (ExecutableBuildError fault) = Some fault
fault_of (CompilerDiagnostic fault) = Some fault
fault_of _ = None

-- what a report says at the place of a diagnostic
abbrev pub label_of : Option RuleFault → List ℕ
label_of (Some fault) = fault_label fault
label_of None = codes "here"

-- the place of the other definition or field, where there is one
abbrev pub other_of : Option RuleFault → Option Span
other_of (Some fault) = fault.other
other_of None = None

abbrev pub message_of : Details → List ℕ
message_of (ParserLimit message) = message
message_of (SyntaxError message) = codes "syntax error: " ++ message
message_of (SchemaBuildError fault) = fault_message fault
message_of (ExecutableBuildError fault) = fault_message fault
message_of (CompilerDiagnostic fault) = fault_message fault
message_of RecursionLimitError = codes "too much recursion"

abbrev pub compat_of : Details → Option (List ℕ)
compat_of (ExecutableBuildError fault) = fault_compat fault
compat_of (CompilerDiagnostic fault) = fault_compat fault
compat_of _ = None

abbrev pub error_name : Details → Option (List ℕ)
error_name (ExecutableBuildError fault) = Some (rule_name fault.rule)
error_name (CompilerDiagnostic fault) = Some (rule_name fault.rule)
error_name RecursionLimitError = Some (codes "RecursionLimitError")
error_name _ = None
