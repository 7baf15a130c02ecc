-- Values in lists of their own: section 3.11 of GraphQL October 2021.
use Rattle.std.specs.Prelude.{[], ◌∷◌}
use Rattle.jb_tree.specs.declared.value.Value.{Value, Array}
use Rattle.gql_ast_base.specs.declared.type_ref.TypeRef.{TypeRef, fold-TypeRef}
use Rattle.gql_ast_base.specs.declared.type_ref.TypeRef.TheOpen.{TypeRef-F}

abbrev pub wrap_step : TypeRef-F (Value → Value) → Value → Value
wrap_step (TypeRef-F.Named name) value = value
wrap_step (TypeRef-F.NonNullNamed name) value = value
wrap_step (TypeRef-F.List inner) value = Array (inner value ∷ [])
wrap_step (TypeRef-F.NonNullList inner) value = Array (inner value ∷ [])

-- a value in a list of its own for each list of the type
abbrev pub wrap : TypeRef → Value → Value
wrap = fold-TypeRef (Value → Value) wrap_step
