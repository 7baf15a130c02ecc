-- What the full query asks for, selection by selection, with the places of its text: sections 2.4, 2.5, 2.6 and 2.8 of GraphQL October 2021.
use Rattle.std.specs.Prelude.{ℕ, ◌+◌, Bool, true, false, List, [], ◌∷◌, length, Option, Some, None, codes}
use Rattle.gql_ast_base.specs.Names.{Named}
use Rattle.gql_ast_base.specs.declared.directive.Argument.{Argument}
use Rattle.gql_ast_base.specs.declared.value.ValueKind.TheVariants.{Boolean}
use Rattle.gql_ast.specs.declared.selection.Selection.{Selection}
use Rattle.gql_ast.specs.declared.selection.Selection.TheVariants as selection
use Rattle.gql_source.specs.Span.{Span}
use Rattle.gql_source.specs.declared.file_id.FileId.{FileId}

-- Selections, one after the other. A field begins and ends at an offset of the text, and is asked for with its deprecated parts or without
-- arguments.
pub data Asked : Type 0 where
  asks_nothing : Asked
  asks_field : ℕ → ℕ → List ℕ → Bool → Asked → Asked → Asked
  asks_fragment : ℕ → List ℕ → Asked → Asked

-- the number of the query's file
abbrev pub query_file : FileId
query_file = record { number = 4 }

abbrev pub place : ℕ → ℕ → Option Span
place start end = Some (record { file_id = query_file; offset = start; end_offset = end })

-- a name from an offset on
abbrev pub name_at : ℕ → List ℕ → Named
name_at start text = record { text = text; location = place start (start + length text) }

-- `includeDeprecated: true` from an offset on
abbrev pub deprecated_too : ℕ → Argument
deprecated_too start = record {
  name = name_at start (codes "includeDeprecated");
  value = record { kind = Boolean true; location = place (start + 19) (start + 23) };
  location = place start (start + 23);
}

abbrev pub arguments_at : ℕ → Bool → List Argument
arguments_at start false = []
arguments_at start true = deprecated_too start ∷ []

-- ---- the selections as they are written

abbrev pub written : Asked → List Selection
written asks_nothing = []
written (asks_field start end name deprecated within rest) =
    selection.Field (record {
      alias = None;
      name = name_at start name;
      arguments = arguments_at (start + length name + 1) deprecated;
      directives = [];
      selection_set = written within;
      location = place start end;
    }) ∷ written rest
written (asks_fragment start name rest) =
    selection.FragmentSpread (record { fragment_name = name_at (start + 3) name; directives = []; location = place start (start + 3 + length name) })
    ∷ written rest
