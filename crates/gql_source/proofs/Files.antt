-- Looking a file up by the place of its number, and putting one there.
use Rattle.std.proofs.Common.{◌≡◌, ℕ, suc, ◌+◌, ◌<◌, ◌≤◌, inl, inr, true, false, not, ◌||◌, cond, ltb, [], ◌∷◌, ◌++◌, length, get_or, set, Option, Some, None, position, refl, sym, ◌∙◌, ap, arith}
use Rattle.std.specs.List.{position_or_len}
use Rattle.std.specs.Map.{lookup}
use Rattle.std.proofs.lemmas.Bool.{eqb-true, cases_Bool, and_parts}
use Rattle.std.proofs.lemmas.Bool.Decides.{leb_tells, nat_tests}
use Rattle.gql_source.specs.declared.file_id.FileId.{FileId}
use Rattle.gql_source.specs.File.{File, Files, is_file, put, has_file, are_distinct}

abbrev place : FileId → Files → ℕ
place id entries = position_or_len (λ entry. is_file id entry.0) entries

abbrev at_place : FileId → Files → Option ℕ
at_place id entries = position (λ entry. is_file id entry.0) entries

some-from : (m n at : ℕ) → Some at ≡ cond (ltb m n) (Some m) None → (at ≡ m) × (m < n)
some-from m n at = elim (leb_tells (suc m) n) as (λ _. Some at ≡ cond (ltb m n) (Some m) None → (at ≡ m) × (m < n)) [
  | inl w ↦ λ e. (let f : Some at ≡ Some m = cc in cc, w.1)
  | inr w ↦ λ e. absurd (let f : Some at ≡ None = cc in cc)
]

none-from : (m n : ℕ) → None ≡ cond (ltb m n) (Some m) None → n ≤ m
none-from m n = elim (leb_tells (suc m) n) as (λ _. None ≡ cond (ltb m n) (Some m) None → n ≤ m) [
  | inl w ↦ λ e. absurd (let f : None ≡ Some m = cc in cc)
  | inr w ↦ λ e. omega arith
]

lookup-place : (id : FileId) (entries : Files) (d : FileId × File) → place id entries < length entries → lookup (is_file id) entries ≡ Some (get_or entries (place id entries) d).1
lookup-place id [] d h = absurd (omega arith)
lookup-place id (entry ∷ entries) d h =
    elim (is_file id entry.0) as (λ b. cond (not b) (1 + place id entries) 0 < suc (length entries) → cond b (Some entry.1) (lookup (is_file id) entries) ≡ Some (get_or (entry ∷ entries) (cond (not b) (1 + place id entries) 0) d).1) [
      | true ↦ λ h. refl
      | false ↦ λ h. let e : 1 + place id entries ≡ suc (place id entries) = omega arith in rw e (lookup-place id entries d (omega arith))
    ] h

lookup-past : (id : FileId) (entries : Files) → length entries ≤ place id entries → lookup (is_file id) entries ≡ None
lookup-past id [] h = refl
lookup-past id (entry ∷ entries) h =
    elim (is_file id entry.0) as (λ b. suc (length entries) ≤ cond (not b) (1 + place id entries) 0 → cond b (Some entry.1) (lookup (is_file id) entries) ≡ None) [
      | true ↦ λ h. absurd (omega arith)
      | false ↦ λ h. lookup-past id entries (omega arith)
    ] h

put-place : (id : FileId) (file : File) (entries : Files) → place id entries < length entries → put id file entries ≡ set entries (place id entries) (id, file)
put-place id file [] h = absurd (omega arith)
put-place id file (entry ∷ entries) h =
    elim (is_file id entry.0) as (λ b. cond (not b) (1 + place id entries) 0 < suc (length entries) → cond b ((id, file) ∷ entries) (entry ∷ put id file entries) ≡ set (entry ∷ entries) (cond (not b) (1 + place id entries) 0) (id, file)) [
      | true ↦ λ h. refl
      | false ↦ λ h. let e : 1 + place id entries ≡ suc (place id entries) = omega arith in rw e (ap (λ es. entry ∷ es) (put-place id file entries (omega arith)))
    ] h

put-past : (id : FileId) (file : File) (entries : Files) → length entries ≤ place id entries → put id file entries ≡ entries ++ (id, file) ∷ []
put-past id file [] h = refl
put-past id file (entry ∷ entries) h =
    elim (is_file id entry.0) as (λ b. suc (length entries) ≤ cond (not b) (1 + place id entries) 0 → cond b ((id, file) ∷ entries) (entry ∷ put id file entries) ≡ entry ∷ (entries ++ (id, file) ∷ [])) [
      | true ↦ λ h. absurd (omega arith)
      | false ↦ λ h. ap (λ es. entry ∷ es) (put-past id file entries (omega arith))
    ] h

pub lookup-found : (id : FileId) (entries : Files) (at : ℕ) (d : FileId × File) → Some at ≡ at_place id entries → d ≡ get_or entries at d → Some d.1 ≡ lookup (is_file id) entries
lookup-found id entries at d found is =
    let p = some-from (place id entries) (length entries) at found in
    ap (λ (e : FileId × File). Some e.1) (is ∙ ap (λ i. get_or entries i d) p.0) ∙ sym (lookup-place id entries d p.1)

pub lookup-absent : (id : FileId) (entries : Files) → None ≡ at_place id entries → None ≡ lookup (is_file id) entries
lookup-absent id entries none = sym (lookup-past id entries (none-from (place id entries) (length entries) none))

pub put-found : (id : FileId) (file : File) (entries : Files) (at : ℕ) → Some at ≡ at_place id entries → set entries at (id, file) ≡ put id file entries
put-found id file entries at found =
    let p = some-from (place id entries) (length entries) at found in
    ap (λ i. set entries i (id, file)) p.0 ∙ sym (put-place id file entries p.1)

pub put-absent : (id : FileId) (file : File) (entries : Files) → None ≡ at_place id entries → entries ++ (id, file) ∷ [] ≡ put id file entries
put-absent id file entries none = sym (put-past id file entries (none-from (place id entries) (length entries) none))

same_file : (id other : FileId) → is_file id other ≡ true → id ≡ other
same_file id other h = ap (λ n. let made : FileId = record { number = n } in made) (eqb-true id.number other.number h)

other_file : (id other : FileId) → is_file id other ≡ false → is_file other id ≡ false
other_file id other h = grind (arith, nat_tests)

has_file-put : (other id : FileId) (file : File) (entries : Files) → is_file other id ≡ false → has_file other (put id file entries) ≡ has_file other entries
has_file-put other id file [] h = rw h refl
has_file-put other id file (entry ∷ entries) h =
    elim (cases_Bool (is_file id entry.0)) [
      | inl same ↦ rw (same, h) (let f : is_file other entry.0 ≡ false = ap (is_file other) (sym (same_file id entry.0 same)) ∙ h in rw f refl)
      | inr differs ↦ rw differs (ap (λ b. is_file other entry.0 || b) (has_file-put other id file entries h))
    ]

pub are_distinct-put : (id : FileId) (file : File) (entries : Files) → are_distinct entries ≡ true → are_distinct (put id file entries) ≡ true
are_distinct-put id file [] h = refl
are_distinct-put id file (entry ∷ entries) h =
    let p = and_parts (not (has_file entry.0 entries)) (are_distinct entries) h in
    elim (cases_Bool (is_file id entry.0)) [
      | inl same ↦ rw same (let e = same_file id entry.0 same in rw e h)
      | inr differs ↦ rw differs (let e = has_file-put entry.0 id file entries (other_file id entry.0 differs) in rw (e, p.0) (are_distinct-put id file entries p.1))
    ]
