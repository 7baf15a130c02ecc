-- Which types implement an interface: sections 3.6 and 3.7 of GraphQL October 2021.
use Rattle.std.specs.Prelude.{ℕ, Bool, true, false, ◌&&◌, if◌then◌else◌, Option, Some, None}
use Rattle.std.specs.Prelude.{List, map, filter}
use Rattle.std.specs.List.{list_any}
use Rattle.std.specs.Str.{bytes_eq}
use Rattle.gql_ast_base.specs.Names.{Named}
use Rattle.gql_schema_types.specs.Types.{type_name, interfaces_of}
use Rattle.gql_schema_types.specs.declared.implementers.Implementers.{Implementers}
use Rattle.gql_schema_types.specs.declared.types.ExtendedType.{ExtendedType}
use Rattle.gql_schema_types.specs.declared.types.ExtendedType.TheVariants.{Object, Interface}

-- does the type say that it implements the interface?
abbrev pub implements : List ℕ → ExtendedType → Bool
implements name ty = list_any (λ (interface : Named). bytes_eq name interface.text) (interfaces_of ty)

abbrev pub is_object : ExtendedType → Bool
is_object (Object _) = true
is_object _ = false

abbrev pub is_interface : ExtendedType → Bool
is_interface (Interface _) = true
is_interface _ = false

-- the object types and the interface types that implement it, each once, in the schema's order
abbrev pub implementers_in : List ℕ → List ExtendedType → Implementers
implementers_in name types = record {
  objects = map type_name (filter (λ ty. is_object ty && implements name ty) types);
  interfaces = map type_name (filter (λ ty. is_interface ty && implements name ty) types);
}

-- those of an interface that some type implements
abbrev pub implementers_of : List ℕ → List ExtendedType → Option Implementers
implementers_of name types = if list_any (implements name) types then Some (implementers_in name types) else None

-- ---- one type more

abbrev pub Found : Type 0
Found = List (List ℕ × Implementers)
