-- What is looked up by name alone: names among others, directives and arguments.
use Rattle.std.specs.Prelude.{ℕ, Bool, List}
use Rattle.std.specs.List.{list_any}
use Rattle.std.specs.Str.{bytes_eq}
use Rattle.gql_ast_base.specs.Names.{Named}
use Rattle.gql_ast_base.specs.declared.directive.Argument.{Argument}
use Rattle.gql_ast_base.specs.declared.directive.Directive.{Directive}

-- is this one of the names?
abbrev pub is_among : List ℕ → List Named → Bool
is_among name names = list_any (λ (other : Named). bytes_eq name other.text) names

abbrev pub directive_name : Directive → Named
directive_name it = it.name

abbrev pub argument_name : Argument → Named
argument_name it = it.name
