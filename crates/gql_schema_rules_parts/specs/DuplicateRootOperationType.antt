-- The root types differ from each other: section 3.3.1 of GraphQL October 2021. Of two that do not, the one that stands later in
-- the text is told. Nothing is asked of a type that is not defined.
use Rattle.std.specs.Prelude.{ℕ, Bool, true, false, ◌&&◌, ◌||◌, ◌==◌, nat_lt}
use Rattle.std.specs.Prelude.{List, [], ◌∷◌, ◌++◌, Option, Some, None, if◌then◌else◌}
use Rattle.std.specs.Option.{option_map_or}
use Rattle.std.specs.Str.{bytes_eq}
use Rattle.gql_source.specs.Span.{Span}
use Rattle.gql_ast_base.specs.Names.{Named}
use Rattle.gql_ast_base.specs.declared.operation_type.OperationType.{OperationType}
use Rattle.gql_ast_base.specs.declared.operation_type.OperationType.TheVariants.{Query, Mutation, Subscription}
use Rattle.gql_diag_messages.specs.declared.rule.Rule.TheVariants.{DuplicateRootOperationType}
use Rattle.gql_diag_messages.specs.declared.diagnostic_data.DiagnosticData.{DiagnosticData}
use Rattle.gql_rules_values.specs.Faults.{fault}
use Rattle.gql_rules_values.specs.Known.{is_known}
use Rattle.gql_schema_types.specs.Schemas.{root_of}
use Rattle.gql_schema_types.specs.declared.schema.SchemaDefinition.{SchemaDefinition}
use Rattle.gql_schema_types.specs.declared.types.ExtendedType.{ExtendedType}

-- by file and offset; what has no place comes first
abbrev pub is_before : Option Span → Option Span → Bool
is_before None None = false
is_before None (Some b) = true
is_before (Some a) None = false
is_before (Some a) (Some b) = nat_lt a.file_id.number b.file_id.number || ((a.file_id.number == b.file_id.number) && nat_lt a.offset b.offset)

-- a name before another, and each name before none
abbrev pub comes_first : Option Named → Option Named → Bool
comes_first None b = false
comes_first (Some a) None = true
comes_first (Some a) (Some b) = is_before a.location b.location

-- a name, with the place of the first
abbrev pub second : Named → Option Named → List DiagnosticData
second name None = []
second name (Some first) = fault DuplicateRootOperationType (name.text ∷ []) name.location first.location ∷ []

module _ (d : SchemaDefinition) where
  -- two operation types in the order of their root types in the text
  abbrev pub ordered : OperationType → OperationType → OperationType × OperationType
  ordered a b = if comes_first (root_of b d) (root_of a d) then (b, a) else (a, b)

  -- the first of these operation types whose root type has the name
  abbrev pub first_same : List ℕ → List OperationType → Option Named
  first_same name [] = None
  first_same name (a ∷ rest) = if option_map_or (λ (root : Named). bytes_eq name root.text) (root_of a d) false then root_of a d else first_same name rest

module _ (types : List ExtendedType) (d : SchemaDefinition) where
  -- a root type that is defined and one of those of the earlier operation types
  abbrev pub duplicate : OperationType → List OperationType → List DiagnosticData
  duplicate a earlier =
      option_map_or (λ (name : Named). if is_known types name.text then second name (first_same d name.text earlier) else []) (root_of a d) []

  -- of three operation types in the order of the text
  abbrev pub duplicates : OperationType → OperationType → OperationType → List DiagnosticData
  duplicates a b c = duplicate b (a ∷ []) ++ duplicate c (a ∷ b ∷ [])

  abbrev pub duplicate_root_operation_type : List DiagnosticData
  duplicate_root_operation_type =
      let x = ordered d Query Mutation in
      let y = ordered d x.1 Subscription in
      let z = ordered d x.0 y.0 in
      duplicates z.0 z.1 y.1
