-- `@deprecated` and the arguments of directives: sections 3.13.3, 3.13.4 and 4.2 of GraphQL October 2021.
use Rattle.std.specs.Prelude.{ℕ, Bool, List, Option, Some, None, is_some, option_and_then, codes}
use Rattle.std.specs.Option.{option_map, option_or}
use Rattle.gql_ast_base.specs.Names.{Named}
use Rattle.gql_ast.specs.declared.field_definition.InputValueDefinition.{InputValueDefinition}
use Rattle.gql_ast.specs.declared.schema_definition.DirectiveDefinition.{DirectiveDefinition}
use Rattle.gql_ast_base.specs.declared.directive.Argument.{Argument}
use Rattle.gql_ast_base.specs.declared.directive.Directive.{Directive}
use Rattle.gql_ast_base.specs.declared.value.Value.{Value}
use Rattle.gql_ast_base.specs.declared.value.ValueKind.{ValueKind, out-ValueKind}
use Rattle.gql_ast_base.specs.declared.value.ValueKind.TheOpen.{ValueKind-F}
use Rattle.gql_schema_types.specs.Called.{argument_name, directive_name}
use Rattle.gql_schema_types.specs.Entries.{entry}
use Rattle.gql_schema_types.specs.declared.schema.Schema.{Schema}

abbrev pub input_name : InputValueDefinition → Named
input_name value = value.name

abbrev pub definition_name : DirectiveDefinition → Named
definition_name definition = definition.name

abbrev pub text_level : ValueKind-F ValueKind Value → Option (List ℕ)
text_level (ValueKind-F.String text) = Some text
text_level _ = None

-- the text of a literal, where it is a string
abbrev pub text_of : Value → Option (List ℕ)
text_of value = text_level (out-ValueKind value.kind)

-- the value that a directive gives an argument
abbrev pub given_value : List ℕ → Directive → Option Value
given_value name directive = option_map (λ (argument : Argument). argument.value) (entry argument_name name directive.arguments)

-- the first `@deprecated`
abbrev pub deprecated : List Directive → Option Directive
deprecated directives = entry directive_name (codes "deprecated") directives

abbrev pub is_deprecated : List Directive → Bool
is_deprecated directives = is_some (deprecated directives)

-- the default value of `reason` in the schema's definition of `@deprecated`
abbrev pub default_in : DirectiveDefinition → Option Value
default_in definition = option_and_then (λ (value : InputValueDefinition). value.default_value) (entry input_name (codes "reason") definition.arguments)

abbrev pub default_reason : Schema → Option Value
default_reason schema = option_and_then default_in (entry definition_name (codes "deprecated") schema.directive_definitions)

abbrev pub reason_of : Schema → Directive → Option (List ℕ)
reason_of schema directive = option_and_then text_of (option_or (given_value (codes "reason") directive) (default_reason schema))

-- why it is deprecated: the `reason` that is given or else its default, where that is a text
abbrev pub deprecation_reason : Schema → List Directive → Option (List ℕ)
deprecation_reason schema directives = option_and_then (reason_of schema) (deprecated directives)

-- the `url` that the first `@specifiedBy` gives, where it is a text
abbrev pub url_in : Directive → Option (List ℕ)
url_in directive = option_and_then text_of (given_value (codes "url") directive)

abbrev pub specified_by : List Directive → Option (List ℕ)
specified_by directives = option_and_then url_in (entry directive_name (codes "specifiedBy") directives)
