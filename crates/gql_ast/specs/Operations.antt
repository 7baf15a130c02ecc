-- What a concrete tree stands for as an operation or a fragment: sections 2.3, 2.8 and 2.10 of GraphQL October 2021.
use Rattle.std.specs.Prelude.{if◌then◌else◌, List, Option, None, option_and_then, unwrap_or}
use Rattle.std.specs.Option.{option_map}
use Rattle.gql_source.specs.declared.file_id.FileId.{FileId}
use Rattle.gql_ast_base.specs.Forest.{Forest, Plain}
use Rattle.gql_ast_base.specs.SyntaxKind.TheVariants as kind
use Rattle.gql_ast_base.specs.declared.operation_type.OperationType.TheVariants.{Query}
use Rattle.gql_ast.specs.declared.operation.OperationDefinition.{OperationDefinition}
use Rattle.gql_ast.specs.declared.operation.VariableDefinition.{VariableDefinition}
use Rattle.gql_ast.specs.declared.operation.FragmentDefinition.{FragmentDefinition}
use Rattle.gql_ast_base.specs.Kinds.{is_kind}
use Rattle.gql_ast_base.specs.OperationTypes.{operation_type_in}
use Rattle.gql_ast_base.specs.Directives.{directives}
use Rattle.gql_ast_base.specs.Parts.{Text, gather, first, inside, child, nth_name, location}
use Rattle.gql_ast.specs.Selections.{selection_of, type_condition}
use Rattle.gql_ast_base.specs.Types.{type_of}
use Rattle.gql_ast_base.specs.Values.{default_value}

module _ (text : Text) (file : FileId) where
  -- a variable, its type, and a default value and directives or none
  unfoldable pub variable_of : Plain → Option VariableDefinition
  variable_of tree =
      if is_kind tree.kind kind.VariableDefinition then
      option_and_then (λ name. option_map (λ ty. record {
        name = name;
        ty = ty;
        default_value = default_value text file tree.children;
        directives = directives text file tree.children;
        location = location file tree;
      }) (first (type_of text file) tree.children)) (nth_name text file 0 (inside kind.Variable tree.children))
      else None

  unfoldable pub variables : Forest → List VariableDefinition
  variables row = gather variable_of (inside kind.VariableDefinitions row)

  -- selections, and in front of them an operation type, a name, variables and directives or none. Without an operation
  -- type it is a query.
  unfoldable pub operation_of : Plain → Option OperationDefinition
  operation_of tree =
      if is_kind tree.kind kind.OperationDefinition then
      option_map (λ set. record {
        operation_type = unwrap_or (operation_type_in text tree.children) Query;
        name = nth_name text file 0 tree.children;
        variables = variables tree.children;
        directives = directives text file tree.children;
        selection_set = gather (selection_of text file) set.children;
        location = location file tree;
      }) (child kind.SelectionSet tree.children)
      else None

  -- a name, a type and selections, and directives or none
  unfoldable pub fragment_of : Plain → Option FragmentDefinition
  fragment_of tree =
      if is_kind tree.kind kind.FragmentDefinition then
      option_and_then (λ set. option_and_then (λ name. option_map (λ condition. record {
        name = name;
        type_condition = condition;
        directives = directives text file tree.children;
        selection_set = gather (selection_of text file) set.children;
        location = location file tree;
      }) (type_condition text file tree.children)) (nth_name text file 0 (inside kind.FragmentName tree.children))) (child kind.SelectionSet tree.children)
      else None
