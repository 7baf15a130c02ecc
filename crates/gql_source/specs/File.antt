-- What contracts see of a source file, and of a list of files.
use Rattle.std.specs.Prelude.{ℕ, Bool, true, not, ◌&&◌, ◌==◌, cond, List, [], ◌∷◌, is_some, if◌then◌else◌}
use Rattle.std.specs.List.{list_any}
use Rattle.std.specs.Map.{lookup}
use Rattle.gql_source.specs.declared.file_id.FileId.{FileId}

-- a path and a text, as their bytes
pub record File : Type 0 where
  pub path : List ℕ
  pub source_text : List ℕ

-- files with their numbers
abbrev pub Files : Type 0
Files = List (FileId × File)

abbrev pub is_file : FileId → FileId → Bool
is_file id other = id.number == other.number

-- the files with this one under its number: in the place of the one that has the number, or else at the end
abbrev pub put : FileId → File → Files → Files
put id file [] = (id, file) ∷ []
put id file (entry ∷ entries) = cond (is_file id entry.0) ((id, file) ∷ entries) (entry ∷ put id file entries)

-- the same where no file has the number yet, and else the files as they are
abbrev pub put_absent : FileId → File → Files → Files
put_absent id file files = if is_some (lookup (is_file id) files) then files else put id file files

-- the files with each of the others, in turn, whose number none of them has
abbrev pub joined : Files → Files → Files
joined files [] = files
joined files (other ∷ others) = joined (put_absent other.0 other.1 files) others

-- whether a file has the number
abbrev pub has_file : FileId → Files → Bool
has_file id files = list_any (λ entry. is_file id entry.0) files

-- no two files have one number
abbrev pub are_distinct : Files → Bool
are_distinct [] = true
are_distinct (entry ∷ entries) = not (has_file entry.0 entries) && are_distinct entries
