-- What a concrete tree stands for as an argument or a directive: sections 2.6 and 2.12 of GraphQL October 2021.
use Rattle.std.specs.Prelude.{if◌then◌else◌, List, Option, None, option_and_then}
use Rattle.std.specs.Option.{option_map}
use Rattle.gql_source.specs.declared.file_id.FileId.{FileId}
use Rattle.gql_ast_base.specs.Forest.{Forest, Plain}
use Rattle.gql_ast_base.specs.SyntaxKind.TheVariants as kind
use Rattle.gql_ast_base.specs.declared.directive.Argument.{Argument}
use Rattle.gql_ast_base.specs.declared.directive.Directive.{Directive}
use Rattle.gql_ast_base.specs.Kinds.{is_kind}
use Rattle.gql_ast_base.specs.Parts.{Text, gather, first, inside, nth_name, location}
use Rattle.gql_ast_base.specs.Values.{value_of}

module _ (text : Text) (file : FileId) where
  -- a name, a colon and a value
  unfoldable pub argument_of : Plain → Option Argument
  argument_of tree =
      if is_kind tree.kind kind.Argument then
      option_and_then (λ name. option_map (λ value. record { name = name; value = value; location = location file tree })
      (first (value_of text file) tree.children))
      (nth_name text file 0 tree.children)
      else None

  -- the arguments among the parts of a field or a directive
  unfoldable pub arguments : Forest → List Argument
  arguments row = gather argument_of (inside kind.Arguments row)

  -- `@`, a name, and arguments or none
  unfoldable pub directive_of : Plain → Option Directive
  directive_of tree =
      if is_kind tree.kind kind.Directive then
      option_map (λ name. record { name = name; arguments = arguments tree.children; location = location file tree }) (nth_name text file 0 tree.children)
      else None

  -- the directives among the parts of something
  unfoldable pub directives : Forest → List Directive
  directives row = gather directive_of (inside kind.Directives row)
