-- What is opened to compute the tokens of a text, and what its tree stands for.
use Rattle.std.specs.Prelude.{⊤}
use Rattle.gql_ast.specs.Documents.{definition_of, choice_of, executable_definition_of, schema_definition_of, type_definition_of, extension_of}
use Rattle.gql_ast_base.specs.Kinds.{is_kind}
use Rattle.gql_ast_base.specs.Literals.{description, string_text}
use Rattle.gql_ast_base.specs.NamedTypes.{named_type_in, named_type_of}
use Rattle.gql_ast_base.specs.OperationTypes.{operation_type_of, operation_type_in, root_operation_of}
use Rattle.gql_ast_base.specs.Parts.{location, nth_name, name_of, word, token_text, piece}
use Rattle.gql_ast.specs.Definitions.{interfaces, members, scalar_of, object_of, interface_of, union_of, enum_of, input_object_of}
use Rattle.gql_ast.specs.Extensions.{extends, schema_extension_of, scalar_extension_of, object_extension_of, interface_extension_of}
use Rattle.gql_ast.specs.Extensions.{union_extension_of, enum_extension_of, input_object_extension_of}
use Rattle.gql_ast.specs.Fields.{input_value_of, argument_definitions, field_of, fields}
use Rattle.gql_ast.specs.Schemas.{directive_definition_of, schema_of}
use Rattle.gql_ast.specs.Operations.{operation_of, fragment_of, variables, variable_of}
use Rattle.gql_ast.specs.Selections.{type_condition, spread_of, field_step, inline_step, choice_step, selection_step}
use Rattle.gql_ast_base.specs.Directives.{argument_of, arguments, directive_of, directives}
use Rattle.gql_ast_base.specs.Types.{form_step, type_step}
use Rattle.gql_lexer.specs.Lex.{run_len, blank_len, string_len}
use Rattle.gql_lexer.specs.bridge.Lex.{lex, string, quoted}

unfoldable pub tokens_computed : ⊤
unfolding lex run_len blank_len string_len string quoted
tokens_computed = tt

-- which kinds of definitions there are, and their names
unfoldable pub trees_computed : ⊤
unfolding definition_of choice_of executable_definition_of schema_definition_of type_definition_of extension_of operation_of fragment_of type_condition
    directive_definition_of schema_of scalar_of object_of interface_of union_of enum_of input_object_of extends schema_extension_of scalar_extension_of
    object_extension_of interface_extension_of union_extension_of enum_extension_of input_object_extension_of nth_name name_of word token_text piece is_kind
trees_computed = tt

-- and all that is in them
unfoldable pub parts_computed : ⊤
unfolding description string_text named_type_in named_type_of operation_type_of operation_type_in root_operation_of location interfaces members input_value_of
    argument_definitions field_of fields variables variable_of spread_of field_step inline_step choice_step selection_step argument_of arguments directive_of
    directives form_step type_step
parts_computed = tt
