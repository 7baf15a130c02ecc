-- Is a selection kept by its `@skip` and `@include`? Sections 3.13.1, 3.13.2 and 6.3.2 of GraphQL October 2021.
use Rattle.std.specs.Prelude.{ℕ, Bool, true, false, not, ◌&&◌, List, Option, Some, None, codes}
use Rattle.std.specs.Option.{unwrap_or, option_and_then}
use Rattle.std.specs.Str.{bytes_eq}
use Rattle.std.specs.Map.{lookup}
use Rattle.jb_tree.specs.declared.value.Value.{Value as JsonValue, Bool as JsonBool}
use Rattle.gql_ast_base.specs.declared.directive.Argument.{Argument}
use Rattle.gql_ast_base.specs.declared.directive.Directive.{Directive}
use Rattle.gql_ast_base.specs.declared.value.Value.{Value}
use Rattle.gql_ast_base.specs.declared.value.ValueKind.{ValueKind, out-ValueKind}
use Rattle.gql_ast_base.specs.declared.value.ValueKind.TheOpen.{ValueKind-F}
use Rattle.gql_schema_types.specs.Called.{argument_name, directive_name}
use Rattle.gql_schema_types.specs.Entries.{entry}

-- the values of an operation's variables, by their names
abbrev pub Variables : Type 0
Variables = List (List ℕ × JsonValue)

-- what a JSON value says, where it is true or false
abbrev pub told : Option JsonValue → Option Bool
told (Some (JsonBool truth)) = Some truth
told _ = None

module _ (variables : Variables) where
  -- what is written as true or false, or is a variable that has such a value
  abbrev pub truth_of : ValueKind-F ValueKind Value → Option Bool
  truth_of (ValueKind-F.Boolean truth) = Some truth
  truth_of (ValueKind-F.Variable name) = told (lookup (bytes_eq name.text) variables)
  truth_of _ = None

  abbrev pub truth : Value → Option Bool
  truth value = truth_of (out-ValueKind value.kind)

  abbrev pub if_of : Directive → Option Bool
  if_of directive = option_and_then (λ (argument : Argument). truth argument.value) (entry argument_name (codes "if") directive.arguments)

  -- the `if` of the first directive of the name; any other value there is as none
  abbrev pub condition : List ℕ → List Directive → Option Bool
  condition name directives = option_and_then if_of (entry directive_name name directives)

  abbrev pub is_kept : List Directive → Bool
  is_kept directives = not (unwrap_or (condition (codes "skip") directives) false) && unwrap_or (condition (codes "include") directives) true
