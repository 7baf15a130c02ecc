-- What has the name of one that came before it in a list: one diagnostic for each, with the place of the first of its name.
use Rattle.std.specs.Prelude.{ℕ, Bool, List, [], ◌∷◌, ◌++◌, Option, is_some, if◌then◌else◌}
use Rattle.std.specs.Option.{option_map_or}
use Rattle.std.specs.Map.{lookup}
use Rattle.std.specs.Str.{bytes_eq}
use Rattle.gql_source.specs.Span.{Span}
use Rattle.gql_ast_base.specs.Names.{Named}
use Rattle.gql_diag_messages.specs.declared.rule.Rule.{Rule}
use Rattle.gql_diag_messages.specs.declared.diagnostic_data.DiagnosticData.{DiagnosticData}
use Rattle.gql_rules_values.specs.Faults.{fault, only_if}

-- the names that came before, each with the place where it came first
abbrev pub Seen : Type 0
Seen = List (List ℕ × Option Span)

module _ {X : Type 0} (name_of : X → Named) (place_of : X → Option Span) where
  -- a name that was seen keeps its place
  abbrev pub with_seen : Seen → X → Seen
  with_seen seen x = if is_some (lookup (bytes_eq (name_of x).text) seen) then seen else seen ++ ((name_of x).text, place_of x) ∷ []

  -- only some names may not come twice
  module _ (counts : Named → Bool) (rule : Rule) where
    abbrev pub second : X → Option Span → List DiagnosticData
    second x first = only_if (counts (name_of x)) (fault rule ((name_of x).text ∷ []) (place_of x) first)

    abbrev pub second_here : Seen → X → List DiagnosticData
    second_here seen x = option_map_or (second x) (lookup (bytes_eq (name_of x).text) seen) []

    abbrev pub seconds_after : Seen → List X → List DiagnosticData
    seconds_after seen [] = []
    seconds_after seen (x ∷ xs) = second_here seen x ++ seconds_after (with_seen seen x) xs

    abbrev pub seconds : List X → List DiagnosticData
    seconds xs = seconds_after [] xs
