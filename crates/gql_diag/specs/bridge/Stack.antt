-- What only private clauses and proofs cite, beside `Stack`.
use Rattle.std.specs.Prelude.{ℕ, Bool, nat_eq, [], ◌∷◌, ◌++◌, take, Option, Some, None}
use Rattle.std.specs.List.{list_any}
use Rattle.std.specs.Cmp.Lexicographic.{pointwise}
use Rattle.gql_ast_base.specs.Names.{Named}
use Rattle.gql_diag.specs.Stack.{Stack}

-- one name more
abbrev pub with_name : Named → Stack → Stack
with_name name stack = record stack { names = stack.names ++ name ∷ [] }

-- names are told apart by their texts
abbrev pub has_name : Named → Stack → Bool
has_name name stack = list_any (λ other. pointwise nat_eq name.text other.text) stack.names

-- what dropping a guard leaves: the names that were open before the step that gave it, or all as it is
abbrev pub popped : Option ℕ → Stack → Stack
popped None stack = stack
popped (Some count) stack = record stack { names = take count stack.names }
