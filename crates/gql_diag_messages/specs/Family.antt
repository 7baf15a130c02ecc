-- The families of rules, and broken rules as diagnostics.
use Rattle.std.specs.Prelude.{ℕ, List, Option}
use Rattle.gql_source.specs.Span.{Span}
use Rattle.gql_diag_messages.specs.declared.rule.Rule.{Rule}
use Rattle.gql_diag_messages.specs.declared.rule.Rule.TheVariants as rule
use Rattle.gql_diag_messages.specs.declared.family.Family.{Family}
use Rattle.gql_diag_messages.specs.declared.family.Family.TheVariants.{SchemaBuild, ExecutableBuild, Compiler}
use Rattle.gql_diag_messages.specs.declared.details.RuleFault.{RuleFault}
use Rattle.gql_diag_messages.specs.declared.details.Details.{Details}
use Rattle.gql_diag_messages.specs.declared.details.Details.TheVariants.{SchemaBuildError, ExecutableBuildError, CompilerDiagnostic}
use Rattle.gql_diag_messages.specs.declared.diagnostic_data.DiagnosticData.{DiagnosticData}

abbrev pub family : Rule → Family
family rule.ExecutableDefinition = SchemaBuild
family rule.SchemaDefinitionCollision = SchemaBuild
family rule.DirectiveDefinitionCollision = SchemaBuild
family rule.TypeDefinitionCollision = SchemaBuild
family rule.BuiltInScalarTypeRedefinition = SchemaBuild
family rule.OrphanSchemaExtension = SchemaBuild
family rule.OrphanTypeExtension = SchemaBuild
family rule.TypeExtensionKindMismatch = SchemaBuild
family rule.DuplicateRootOperation = SchemaBuild
family rule.DuplicateImplementsInterfaceInObject = SchemaBuild
family rule.DuplicateImplementsInterfaceInInterface = SchemaBuild
family rule.ObjectFieldNameCollision = SchemaBuild
family rule.InterfaceFieldNameCollision = SchemaBuild
family rule.InputFieldNameCollision = SchemaBuild
family rule.EnumValueNameCollision = SchemaBuild
family rule.UnionMemberNameCollision = SchemaBuild
family rule.TypeSystemDefinition = ExecutableBuild
family rule.AmbiguousAnonymousOperation = ExecutableBuild
family rule.OperationNameCollision = ExecutableBuild
family rule.FragmentNameCollision = ExecutableBuild
family rule.UndefinedRootOperation = ExecutableBuild
family rule.UndefinedField = ExecutableBuild
family rule.UndefinedTypeInNamedFragmentTypeCondition = ExecutableBuild
family rule.UndefinedTypeInInlineFragmentTypeCondition = ExecutableBuild
family rule.SubselectionOnScalarType = ExecutableBuild
family rule.SubselectionOnEnumType = ExecutableBuild
family rule.SubscriptionUsesMultipleFields = ExecutableBuild
family rule.SubscriptionUsesIntrospection = ExecutableBuild
family rule.SubscriptionUsesConditionalSelection = ExecutableBuild
family rule.ConflictingFieldType = ExecutableBuild
family rule.ConflictingFieldName = ExecutableBuild
family rule.ConflictingFieldArgument = ExecutableBuild
family _ = Compiler

abbrev pub told_as : Family → RuleFault → Details
told_as SchemaBuild fault = SchemaBuildError fault
told_as ExecutableBuild fault = ExecutableBuildError fault
told_as Compiler fault = CompilerDiagnostic fault

-- a broken rule as the details of a diagnostic
unfoldable pub details_of : RuleFault → Details
details_of fault = told_as (family fault.rule) fault

-- a broken rule, its names, its place and the other place
abbrev pub fault : Rule → List (List ℕ) → Option Span → Option Span → DiagnosticData
fault rule names location other = record { location = location; details = details_of (record { rule = rule; names = names; other = other }) }
