-- Faults of building a schema, as diagnostics.
use Rattle.std.specs.Prelude.{ℕ, List, [], ◌∷◌, map, Option}
use Rattle.gql_source.specs.Span.{Span}
use Rattle.gql_ast_base.specs.Names.{Named}
use Rattle.gql_diag_messages.specs.declared.rule.Rule.{Rule}
use Rattle.gql_diag_messages.specs.declared.diagnostic_data.DiagnosticData.{DiagnosticData}
pub use Rattle.gql_diag_messages.specs.Family.{fault}
use Rattle.gql_schema_types.specs.Entries.{joined, repeats}

-- what has this name breaks a rule
abbrev pub name_fault : Rule → Named → Option Span → DiagnosticData
name_fault rule name other = fault rule (name.text ∷ []) name.location other

-- a part of an owner has the name of one that came before
abbrev pub collision : Rule → List ℕ → Named → Named → DiagnosticData
collision rule owner second first = fault rule (owner ∷ second.text ∷ []) second.location first.location

abbrev pub collision_of : {X : Type 0} → (X → Named) → Rule → List ℕ → X × X → DiagnosticData
collision_of own rule owner pair = collision rule owner (own pair.0) (own pair.1)

-- one for each part of an owner that has the name of one that came before
abbrev pub collisions : {X : Type 0} → (X → Named) → Rule → List ℕ → List X → List DiagnosticData
collisions own rule owner xs = map (collision_of own rule owner) (repeats own [] xs)

-- ---- parts that are names themselves

abbrev pub itself : Named → Named
itself name = name

-- each name once, where it comes first
abbrev pub names_once : List Named → List Named
names_once names = joined itself [] names

abbrev pub name_collisions : Rule → List ℕ → List Named → List DiagnosticData
name_collisions rule owner names = collisions itself rule owner names
