use Rattle.std.proofs.Common.{◌≡◌, ℕ, List, take}
use Rattle.std.specs.Map.{lookup}
use Rattle.std.specs.Str.{bytes_eq}
use Rattle.gql_schema_types.specs.Implementers.{implementers_of}
use Rattle.gql_schema_types.proofs.schema.Schema.implementers_map.Given as goal

-- the implementers among the types so far
abbrev pub invariant-loop-ty : goal.invariant-loop-ty
invariant-loop-ty l = (name : List ℕ) → lookup (bytes_eq name) l.found ≡ implementers_of name (take l.ty-index l.ty-items)
