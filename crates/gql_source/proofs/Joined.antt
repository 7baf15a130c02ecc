-- The first files of a list, and files put behind others.
use Rattle.std.proofs.Common.{◌≡◌, ℕ, zero, suc, true, false, not, [], ◌∷◌, ◌++◌, length, take, Some, None, is_some, cond, refl, ◌∙◌, ap, arith}
use Rattle.std.specs.Map.{lookup}
use Rattle.gql_source.specs.declared.file_id.FileId.{FileId}
use Rattle.gql_source.specs.File.{File, Files, is_file, put, put_absent, joined, has_file, are_distinct}
use Rattle.std.proofs.lemmas.Bool.{and_parts, or_parts, not-true}
use Rattle.std.proofs.lemmas.List.{take-append-le, length-take}

has_file-take : (id : FileId) (n : ℕ) (files : Files) → has_file id files ≡ false → has_file id (take n files) ≡ false
has_file-take id zero files h = refl
has_file-take id (suc n) [] h = refl
has_file-take id (suc n) (entry ∷ files) h =
    let p = or_parts (is_file id entry.0) (has_file id files) h in rw p.0 (has_file-take id n files p.1)

pub are_distinct-take : (n : ℕ) (files : Files) → are_distinct files ≡ true → are_distinct (take n files) ≡ true
are_distinct-take zero files h = refl
are_distinct-take (suc n) [] h = refl
are_distinct-take (suc n) (entry ∷ files) h =
    let p = and_parts (not (has_file entry.0 files)) (are_distinct files) h in
    let q = has_file-take entry.0 n files (not-true (has_file entry.0 files) p.0) in rw q (are_distinct-take n files p.1)

pub joined-append : (files others : Files) (other : FileId × File) → joined files (others ++ other ∷ []) ≡ put_absent other.0 other.1 (joined files others)
joined-append files [] other = refl
joined-append files (first ∷ others) other = joined-append (put_absent first.0 first.1 files) others other

put-behind : (id : FileId) (file : File) (files : Files) → lookup (is_file id) files ≡ None → put id file files ≡ files ++ (id, file) ∷ []
put-behind id file [] h = refl
put-behind id file (entry ∷ files) h =
    elim (is_file id entry.0) as (λ b. cond b (Some entry.1) (lookup (is_file id) files) ≡ None → cond b ((id, file) ∷ files) (entry ∷ put id file files) ≡ entry ∷ (files ++ (id, file) ∷ [])) [
      | true ↦ λ g. absurd (let f : Some entry.1 ≡ None = g in cc)
      | false ↦ λ g. ap (λ es. entry ∷ es) (put-behind id file files g)
    ] h

pub put_absent-front : (id : FileId) (file : File) (front files : Files) → take (length front) files ≡ front → take (length front) (put_absent id file files) ≡ front
put_absent-front id file front files h = elim (lookup (is_file id) files) as (λ found. lookup (is_file id) files ≡ found → take (length front) (cond (is_some found) files (put id file files)) ≡ front) [
  | None ↦ λ e. ap (take (length front)) (put-behind id file files e) ∙ take-append-le (length front) files ((id, file) ∷ []) (omega (arith, ap length h, length-take (length front) files)) ∙ h
  | Some found ↦ λ e. h
] refl
