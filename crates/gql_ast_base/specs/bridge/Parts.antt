-- What only private clauses and proofs cite, beside `Parts`.
use Rattle.std.specs.Prelude.{ℕ, ◌+◌, if◌then◌else◌}
use Rattle.std.specs.Prelude.{Option, Some, None}
use Rattle.std.specs.Prelude.{option_and_then}
use Rattle.gql_source.specs.declared.file_id.FileId.{FileId}
use Rattle.gql_ast_base.specs.Names.{Named, is_name}
use Rattle.gql_cst.specs.Forest.{Forest, nothing, tree_then}
use Rattle.gql_ast_base.specs.Parts.{Text, piece}

-- how many trees stand in a row, at all levels
abbrev pub size : Forest → ℕ
size nothing = 0
size (tree_then kind start end children rest) = 1 + (size children + size rest)

-- the name that stands in this range of a text, if one does
unfoldable pub name_in : Text → FileId → ℕ → ℕ → Option Named
name_in text file start end =
    option_and_then (λ found. if is_name found then Some (record {
      text = found;
      location = Some (record { file_id = file; offset = start; end_offset = end });
    }) else None) (piece text start end)
