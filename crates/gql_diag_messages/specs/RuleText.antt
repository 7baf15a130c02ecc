-- What is said of each rule, in the order of the rows: its row, its name, its message, and the words of the reference
-- implementation of GraphQL. `{0}`, `{1}` and so on stand for the names of what broke it.
use Rattle.std.specs.Prelude.{ℕ, ◌++◌, List, Option, Some, None, codes, if◌then◌else◌}
use Rattle.gql_diag_messages.specs.declared.rule.Rule.{Rule}
use Rattle.gql_diag_messages.specs.declared.rule.Rule.TheVariants as rule
use Rattle.gql_diag_messages.specs.declared.rule_text.Compat.TheVariants as compat
use Rattle.gql_diag_messages.specs.Filled.{is_lacking, is_directive}

-- the words of the reference implementation: none, always the same, others where the name of this number is lacking,
-- or others for an argument of a directive than for one of a field
pub data Compat : Type 0 where
  no_words : Compat
  words : List ℕ → Compat
  lacking_words : ℕ → List ℕ → List ℕ → Compat
  argument_words : List ℕ → List ℕ → Compat

-- what is said of a rule; rules that are told in one row of the tables share it
pub record RuleText : Type 0 where
  pub row : ℕ
  pub name : List ℕ
  pub message : List ℕ
  pub compat : Compat

abbrev pub says : ℕ → List ℕ → List ℕ → Compat → RuleText
says row name message compat = record { row = row; name = name; message = message; compat = compat }

abbrev pub rule_text : Rule → RuleText
rule_text rule.ExecutableDefinition = says 1 (codes "ExecutableDefinition")
    (codes "a schema must not contain {0}")
    no_words
rule_text rule.SchemaDefinitionCollision = says 2 (codes "SchemaDefinitionCollision")
    (codes "must not have multiple `schema` definitions")
    no_words
rule_text rule.DirectiveDefinitionCollision = says 3 (codes "DirectiveDefinitionCollision")
    (codes "the directive `@{0}` is defined multiple times in the schema")
    no_words
rule_text rule.TypeDefinitionCollision = says 4 (codes "TypeDefinitionCollision")
    (codes "the type `{0}` is defined multiple times in the schema")
    no_words
rule_text rule.BuiltInScalarTypeRedefinition = says 5 (codes "BuiltInScalarTypeRedefinition")
    (codes "built-in scalar definitions must be omitted")
    no_words
rule_text rule.OrphanSchemaExtension = says 6 (codes "OrphanSchemaExtension")
    (codes "schema extension without a schema definition")
    no_words
rule_text rule.OrphanTypeExtension = says 7 (codes "OrphanTypeExtension")
    (codes "type extension for undefined type `{0}`")
    no_words
rule_text rule.TypeExtensionKindMismatch = says 8 (codes "TypeExtensionKindMismatch")
    (codes "type extension of another kind for `{0}`")
    no_words
rule_text rule.DuplicateRootOperation = says 9 (codes "DuplicateRootOperation")
    (codes "duplicate definitions for the `{0}` root operation type")
    no_words
rule_text rule.DuplicateImplementsInterfaceInObject = says 10 (codes "DuplicateImplementsInterfaceInObject")
    (codes "`{0}` implements interface `{1}` more than once")
    no_words
rule_text rule.DuplicateImplementsInterfaceInInterface = says 10 (codes "DuplicateImplementsInterfaceInInterface")
    (codes "`{0}` implements interface `{1}` more than once")
    no_words
rule_text rule.ObjectFieldNameCollision = says 11 (codes "ObjectFieldNameCollision")
    (codes "duplicate definitions for the `{1}` field of `{0}`")
    no_words
rule_text rule.InterfaceFieldNameCollision = says 11 (codes "InterfaceFieldNameCollision")
    (codes "duplicate definitions for the `{1}` field of `{0}`")
    no_words
rule_text rule.InputFieldNameCollision = says 11 (codes "InputFieldNameCollision")
    (codes "duplicate definitions for the `{1}` field of `{0}`")
    no_words
rule_text rule.EnumValueNameCollision = says 12 (codes "EnumValueNameCollision")
    (codes "duplicate definitions for the `{1}` value of enum `{0}`")
    no_words
rule_text rule.UnionMemberNameCollision = says 13 (codes "UnionMemberNameCollision")
    (codes "duplicate definitions for the `{1}` member of union `{0}`")
    no_words
rule_text rule.TypeSystemDefinition = says 14 (codes "TypeSystemDefinition")
    (codes "an executable document must not contain {0}")
    (lacking_words 1 (codes "The schema definition is not executable.")
    (codes "The \"{1}\" definition is not executable."))
rule_text rule.AmbiguousAnonymousOperation = says 15 (codes "AmbiguousAnonymousOperation")
    (codes "anonymous operation cannot be selected when the document contains other operations")
    (words (codes "This anonymous operation must be the only defined operation."))
rule_text rule.OperationNameCollision = says 16 (codes "OperationNameCollision")
    (codes "the operation `{0}` is defined multiple times in the document")
    (words (codes "There can be only one operation named \"{0}\"."))
rule_text rule.FragmentNameCollision = says 17 (codes "FragmentNameCollision")
    (codes "the fragment `{0}` is defined multiple times in the document")
    (words (codes "There can be only one fragment named \"{0}\"."))
rule_text rule.UndefinedRootOperation = says 18 (codes "UndefinedRootOperation")
    (codes "`{0}` root operation type is not defined")
    (words (codes "The schema has no \"{0}\" root type defined"))
rule_text rule.UndefinedField = says 19 (codes "UndefinedField")
    (codes "type `{0}` does not have a field `{1}`")
    (words (codes "Cannot query field \"{1}\" on type \"{0}\"."))
rule_text rule.UndefinedTypeInNamedFragmentTypeCondition = says 20 (codes "UndefinedTypeInNamedFragmentTypeCondition")
    (codes "type condition `{0}` is not a type defined in the schema")
    (words (codes "Unknown type \"{0}\"."))
rule_text rule.UndefinedTypeInInlineFragmentTypeCondition = says 20 (codes "UndefinedTypeInInlineFragmentTypeCondition")
    (codes "type condition `{0}` is not a type defined in the schema")
    (words (codes "Unknown type \"{0}\"."))
rule_text rule.SubselectionOnScalarType = says 21 (codes "SubselectionOnScalarType")
    (codes "field `{1}` of type `{0}` cannot have selections")
    (words (codes "Field \"{1}\" must not have a selection since type \"{0}\" has no subfields"))
rule_text rule.SubselectionOnEnumType = says 21 (codes "SubselectionOnEnumType")
    (codes "field `{1}` of type `{0}` cannot have selections")
    (words (codes "Field \"{1}\" must not have a selection since type \"{0}\" has no subfields"))
rule_text rule.SubscriptionUsesMultipleFields = says 22 (codes "SubscriptionUsesMultipleFields")
    (codes "subscription can only have one root field")
    (lacking_words 0 (codes "Anonymous Subscription must select only one top level field.")
    (codes "Subscription \"{0}\" must select only one top level field."))
rule_text rule.SubscriptionUsesIntrospection = says 23 (codes "SubscriptionUsesIntrospection")
    (codes "subscription must not use an introspection root field")
    (lacking_words 0 (codes "Anonymous Subscription must not select an introspection top level field.")
    (codes "Subscription \"{0}\" must not select an introspection top level field."))
rule_text rule.SubscriptionUsesConditionalSelection = says 24 (codes "SubscriptionUsesConditionalSelection")
    (codes "subscription must not use @skip or @include at its root")
    (lacking_words 0 (codes "Anonymous Subscription can not specify @skip or @include on root fields.")
    (codes "Subscription \"{0}\" can not specify @skip or @include on root fields."))
rule_text rule.UndefinedDefinition = says 25 (codes "UndefinedDefinition")
    (codes "cannot find type `{0}` in this document")
    (words (codes "Unknown type \"{0}\"."))
rule_text rule.UndefinedDirective = says 26 (codes "UndefinedDirective")
    (codes "cannot find directive `@{0}` in this document")
    (words (codes "Unknown directive \"@{0}\"."))
rule_text rule.UnsupportedLocation = says 27 (codes "UnsupportedLocation")
    (codes "`@{0}` is not supported for {1} location")
    (words (codes "Directive \"@{0}\" may not be used on {1}."))
rule_text rule.UniqueDirective = says 28 (codes "UniqueDirective")
    (codes "non-repeatable directive `@{0}` is used more than once")
    (words (codes "The directive \"@{0}\" can only be used once at this location."))
rule_text rule.UniqueArgument = says 29 (codes "UniqueArgument")
    (codes "the argument `{0}` is not unique")
    (words (codes "There can be only one argument named \"{0}\"."))
rule_text rule.UndefinedArgument = says 30 (codes "UndefinedArgument")
    (codes "the argument `{0}` is not supported by `{1}`")
    (words (codes "Unknown argument \"{0}\" on field \"{1}\"."))
rule_text rule.RequiredArgument = says 31 (codes "RequiredArgument")
    (codes "the required argument `{1}` is not provided")
    (argument_words (codes "Directive \"{0}\" argument \"{1}\" of type \"{2}\" is required, but it was not provided.")
    (codes "Field \"{0}\" argument \"{1}\" of type \"{2}\" is required, but it was not provided."))
rule_text rule.UniqueInputValue = says 32 (codes "UniqueInputValue")
    (codes "the value `{0}` is not unique")
    no_words
rule_text rule.OutputType = says 33 (codes "OutputType")
    (codes "`{0}` field must return an output type")
    no_words
rule_text rule.InputType = says 34 (codes "InputType")
    (codes "`{0}` must have an input type")
    no_words
rule_text rule.QueryRootOperationType = says 35 (codes "QueryRootOperationType")
    (codes "missing query root operation type")
    no_words
rule_text rule.RootOperationObjectType = says 36 (codes "RootOperationObjectType")
    (codes "root operation type `{0}` must be an object type")
    no_words
rule_text rule.DuplicateRootOperationType = says 37 (codes "DuplicateRootOperationType")
    (codes "root operation type `{0}` is used twice")
    no_words
rule_text rule.UnionMemberObjectType = says 38 (codes "UnionMemberObjectType")
    (codes "union member `{0}` must be an object type")
    no_words
rule_text rule.MissingInterfaceField = says 39 (codes "MissingInterfaceField")
    (codes "type `{0}` lacks field `{2}` of interface `{1}`")
    no_words
rule_text rule.TransitiveImplementedInterfaces = says 40 (codes "TransitiveImplementedInterfaces")
    (codes "type `{0}` must also implement `{1}`")
    no_words
rule_text rule.InvalidImplementationFieldType = says 41 (codes "InvalidImplementationFieldType")
    (codes "field `{0}.{2}` does not fit interface `{1}`")
    (words (codes "Interface field {1}.{2} expects type {3} but {0}.{2} of type {4} is not a proper subtype."))
rule_text rule.MissingInterfaceFieldArgument = says 42 (codes "MissingInterfaceFieldArgument")
    (codes "field `{0}.{2}` lacks argument `{3}` of `{1}`")
    (words (codes "Interface field argument {1}.{2}({3}:) expected but {0}.{2} does not provide it."))
rule_text rule.InvalidImplementationFieldArgumentType = says 43 (codes "InvalidImplementationFieldArgumentType")
    (codes "argument `{3}` of `{0}.{2}` does not fit `{1}`")
    (words (codes "Interface field {1}.{2}({3}:) expects type {4} but {0}.{2}({3}:) is type {5}."))
rule_text rule.ExtraRequiredImplementationFieldArgument = says 44 (codes "ExtraRequiredImplementationFieldArgument")
    (codes "argument `{3}` of `{0}.{2}` is not in `{1}`")
    (words (codes "Object field {0}.{2} includes required argument {3} that is missing from the Interface field {1}.{2}."))
rule_text rule.EmptyFieldSet = says 45 (codes "EmptyFieldSet")
    (codes "`{0}` must not be empty")
    no_words
rule_text rule.EmptyValueSet = says 45 (codes "EmptyValueSet")
    (codes "`{0}` must not be empty")
    no_words
rule_text rule.EmptyMemberSet = says 45 (codes "EmptyMemberSet")
    (codes "`{0}` must not be empty")
    no_words
rule_text rule.EmptyInputValueSet = says 45 (codes "EmptyInputValueSet")
    (codes "`{0}` must not be empty")
    no_words
rule_text rule.ReservedName = says 46 (codes "ReservedName")
    (codes "`{0}` begins with two underscores")
    no_words
rule_text rule.RecursiveInterfaceDefinition = says 47 (codes "RecursiveInterfaceDefinition")
    (codes "`{0}` interface cannot implement itself")
    no_words
rule_text rule.RecursiveInputObjectDefinition = says 48 (codes "RecursiveInputObjectDefinition")
    (codes "`{0}` input object cannot reference itself")
    no_words
rule_text rule.RecursiveDirectiveDefinition = says 49 (codes "RecursiveDirectiveDefinition")
    (codes "`{0}` directive definition cannot reference itself")
    no_words
rule_text rule.UnsupportedValueType = says 50 (codes "UnsupportedValueType")
    (codes "expected value of type {0}, found {1}")
    (words (codes "{0} cannot represent value: {1}"))
rule_text rule.IntCoercionError = says 51 (codes "IntCoercionError")
    (codes "int cannot represent value `{0}`")
    (words (codes "Int cannot represent non 32-bit signed integer value: {0}"))
rule_text rule.UndefinedEnumValue = says 52 (codes "UndefinedEnumValue")
    (codes "value `{0}` does not exist on `{1}`")
    (words (codes "Value \"{0}\" does not exist in \"{1}\" enum."))
rule_text rule.UndefinedInputValue = says 53 (codes "UndefinedInputValue")
    (codes "field `{0}` does not exist on `{1}`")
    (words (codes "Field \"{0}\" is not defined by type \"{1}\"."))
rule_text rule.RequiredField = says 54 (codes "RequiredField")
    (codes "the required field `{0}` is not provided")
    (words (codes "Field \"{0}\" of required type \"{1}\" was not provided."))
rule_text rule.OneOfField = says 55 (codes "OneOfField")
    (codes "field `{0}.{1}` of a one-of input object must be nullable and have no default")
    no_words
rule_text rule.OneOfValue = says 56 (codes "OneOfValue")
    (codes "one-of input object `{0}` must have exactly one non-null member")
    no_words
rule_text rule.UndefinedFragment = says 57 (codes "UndefinedFragment")
    (codes "cannot find fragment `{0}` in this document")
    (words (codes "Unknown fragment \"{0}\"."))
rule_text rule.RecursiveFragmentDefinition = says 58 (codes "RecursiveFragmentDefinition")
    (codes "`{0}` fragment cannot reference itself")
    (words (codes "Cannot spread fragment \"{0}\" within itself via {1}"))
rule_text rule.UnusedFragment = says 59 (codes "UnusedFragment")
    (codes "fragment `{0}` must be used in an operation")
    (words (codes "Fragment \"{0}\" is never used."))
rule_text rule.InvalidFragmentTarget = says 60 (codes "InvalidFragmentTarget")
    (codes "fragment cannot be applied to type `{1}`")
    (lacking_words 0 (codes "Fragment cannot condition on non composite type \"{1}\".")
    (codes "Fragment \"{0}\" cannot condition on non composite type \"{1}\"."))
rule_text rule.InvalidFragmentSpread = says 61 (codes "InvalidFragmentSpread")
    (codes "fragment on `{2}` cannot be applied to `{1}`")
    (lacking_words 0 (codes "Fragment cannot be spread here as objects of type \"{1}\" can never be of type \"{2}\".")
    (codes "Fragment \"{0}\" cannot be spread here as objects of type \"{1}\" can never be of type \"{2}\"."))
rule_text rule.UniqueVariable = says 62 (codes "UniqueVariable")
    (codes "the variable `${0}` is declared multiple times")
    (words (codes "There can be only one variable named \"${0}\"."))
rule_text rule.UnusedVariable = says 63 (codes "UnusedVariable")
    (codes "unused variable: `${0}`")
    (words (codes "Variable \"${0}\" is never used."))
rule_text rule.UndefinedVariable = says 64 (codes "UndefinedVariable")
    (codes "variable `${0}` is not defined")
    (words (codes "Variable \"${0}\" is not defined."))
rule_text rule.VariableInputType = says 65 (codes "VariableInputType")
    (codes "`${0}` variable must be of an input type")
    (words (codes "Variable \"${0}\" cannot be non-input type \"{1}\"."))
rule_text rule.DisallowedVariableUsage = says 66 (codes "DisallowedVariableUsage")
    (codes "`${0}` cannot be used as {2}")
    (words (codes "Variable \"${0}\" of type \"{1}\" used in position expecting type \"{2}\"."))
rule_text rule.MissingSubselection = says 67 (codes "MissingSubselection")
    (codes "field `{0}` of type `{1}` needs selections")
    (words (codes "Field \"{0}\" of type \"{1}\" must have a selection of subfields. Did you mean \"{0} { ... }\"?"))
rule_text rule.ConflictingFieldType = says 68 (codes "ConflictingFieldType")
    (codes "`{0}` is selected with conflicting types")
    (words (codes "Fields \"{0}\" conflict because they return conflicting types \"{1} and \"{2}\". Use different aliases on the fields to "
    ++ codes "fetch both if this was intentional."))
rule_text rule.ConflictingFieldName = says 68 (codes "ConflictingFieldName")
    (codes "`{0}` is selected with conflicting names")
    (words (codes "Fields \"{0}\" conflict because \"{1}\" and \"{2}\" are different fields. Use different aliases on the fields to fetch "
    ++ codes "both if this was intentional."))
rule_text rule.ConflictingFieldArgument = says 68 (codes "ConflictingFieldArgument")
    (codes "`{0}` is selected with conflicting arguments")
    (words (codes "Fields \"{0}\" conflict because they have differing arguments. Use different aliases on the fields to fetch both if "
    ++ codes "this was intentional."))

abbrev pub rule_name : Rule → List ℕ
rule_name rule = (rule_text rule).name

abbrev pub row : Rule → ℕ
row rule = (rule_text rule).row

abbrev pub message_pattern : Rule → List ℕ
message_pattern rule = (rule_text rule).message

-- the words for these names, where there are any
abbrev pub chosen_words : Compat → List (List ℕ) → Option (List ℕ)
chosen_words no_words names = None
chosen_words (words text) names = Some text
chosen_words (lacking_words number unnamed named) names = Some (if is_lacking number names then unnamed else named)
chosen_words (argument_words directive field) names = Some (if is_directive names then directive else field)

abbrev pub compat_pattern : Rule → List (List ℕ) → Option (List ℕ)
compat_pattern rule names = chosen_words (rule_text rule).compat names
