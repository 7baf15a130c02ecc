-- What a concrete tree stands for as an operation type: sections 2.3 and 3.3.1 of GraphQL October 2021.
use Rattle.std.specs.Prelude.{if◌then◌else◌, Option, Some, None, option_and_then, codes}
use Rattle.std.specs.Option.{option_map}
use Rattle.std.specs.Str.{bytes_eq}
use Rattle.gql_source.specs.declared.file_id.FileId.{FileId}
use Rattle.gql_cst.specs.Forest.{Forest, Plain}
use Rattle.gql_cst.specs.SyntaxKind.TheVariants as kind
use Rattle.gql_ast_base.specs.Names.{Named}
use Rattle.gql_ast_base.specs.declared.operation_type.OperationType.{OperationType}
use Rattle.gql_ast_base.specs.declared.operation_type.OperationType.TheVariants.{Query, Mutation, Subscription}
use Rattle.gql_ast_base.specs.Kinds.{is_kind}
use Rattle.gql_ast_base.specs.NamedTypes.{named_type_in}
use Rattle.gql_ast_base.specs.Parts.{Text, first, nth_text}

-- the operation type that a word names
abbrev pub operation_word : Text → Option OperationType
operation_word found =
    if bytes_eq found (codes "query") then Some Query
    else if bytes_eq found (codes "mutation") then Some Mutation
    else if bytes_eq found (codes "subscription") then Some Subscription
    else None

unfoldable pub operation_type_of : Text → Plain → Option OperationType
operation_type_of text tree =
    if is_kind tree.kind kind.OperationType then option_and_then operation_word (nth_text text 0 tree.children) else None

-- the operation type among the parts of something
unfoldable pub operation_type_in : Text → Forest → Option OperationType
operation_type_in text row = first (operation_type_of text) row

-- an operation type and the type that its operations are on
unfoldable pub root_operation_of : Text → FileId → Plain → Option (OperationType × Named)
root_operation_of text file tree =
    if is_kind tree.kind kind.RootOperationTypeDefinition then
    option_and_then (λ operation. option_map (λ name. (operation, name)) (named_type_in text file tree.children)) (operation_type_in text tree.children)
    else None
