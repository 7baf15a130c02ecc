-- What is left of an operation.
use Rattle.std.specs.Prelude.{◌≡◌, ◌≢◌, List, [], Option, Some, None}
use Rattle.gql_gateway.specs.Concrete.{concrete, concrete_operation}
use Rattle.gql_document_types.specs.declared.operation.Operation.{Operation}

-- what it asks of its root type itself, or nothing
abbrev pub IsConcretePart : Operation → Option Operation → Type 0
IsConcretePart operation (Some part) = (part ≡ concrete_operation operation) × (concrete operation.selection_set.selections ≢ [])
IsConcretePart operation None = concrete operation.selection_set.selections ≡ []
