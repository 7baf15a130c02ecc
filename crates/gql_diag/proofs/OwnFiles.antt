-- What is found among files that are joined.
use Rattle.std.proofs.Common.{◌≡◌, ℕ, Bool, true, false, cond, ◌==◌, [], ◌∷◌, Option, Some, None, is_some, if◌then◌else◌, refl, ◌∙◌, ap}
use Rattle.std.proofs.lemmas.Bool.{eqb-true}
use Rattle.std.specs.Option.{option_or}
use Rattle.std.specs.Map.{lookup}
use Rattle.gql_source.specs.declared.file_id.FileId.{FileId}
use Rattle.gql_source.specs.File.{File, Files, is_file, put, put_absent, joined}

abbrev found : FileId → Files → Option File
found id files = lookup (is_file id) files

-- a file that is put where no file has its number stands behind all others
put-found : (id new : FileId) (file : File) (files : Files) → is_some (found new files) ≡ false
    → found id (put new file files) ≡ option_or (found id files) (cond (is_file id new) (Some file) None)
put-found id new file [] absent = refl
put-found id new file (entry ∷ entries) absent =
    elim (is_file new entry.0) as (λ b. is_some (cond b (Some entry.1) (found new entries)) ≡ false
    → found id (cond b ((new, file) ∷ entries) (entry ∷ put new file entries)) ≡ option_or (found id (entry ∷ entries)) (cond (is_file id new) (Some file) None)) [
      | true ↦ λ h. cc
      | false ↦ λ h. behind (is_file id entry.0) (put-found id new file entries h)
    ] absent
  where
    behind : (b : Bool) → found id (put new file entries) ≡ option_or (found id entries) (cond (is_file id new) (Some file) None)
        → cond b (Some entry.1) (found id (put new file entries)) ≡ option_or (cond b (Some entry.1) (found id entries)) (cond (is_file id new) (Some file) None)
    behind true h = refl
    behind false h = h

or-none : (x : Option File) → x ≡ option_or x None
or-none None = refl
or-none (Some file) = refl

or-some : (x a b : Option File) → is_some x ≡ true → option_or x a ≡ option_or x b
or-some None a b h = cc
or-some (Some file) a b h = refl

or-or : (x : Option File) (b : Bool) (file : File) (y : Option File) → option_or (option_or x (cond b (Some file) None)) y ≡ option_or x (cond b (Some file) y)
or-or (Some own) b file y = refl
or-or None true file y = refl
or-or None false file y = refl

-- one number finds one file
same_number : (id other : FileId) (files : Files) → is_file id other ≡ true → found id files ≡ found other files
same_number id other files same =
    ap (λ (n : ℕ). lookup (λ (it : FileId). n == it.number) files) (eqb-true id.number other.number same)

present : (id new : FileId) (file : File) (own : Files) (rest : Option File) (b : Bool) → is_file id new ≡ b → is_some (found new own) ≡ true
    → option_or (found id own) rest ≡ option_or (found id own) (cond b (Some file) rest)
present id new file own rest true same there = or-some (found id own) rest (Some file) (ap (λ (x : Option File). is_some x) (same_number id new own same) ∙ there)
present id new file own rest false apart there = refl

added-found : (id new : FileId) (file : File) (own : Files) (rest : Option File) (b : Bool) → is_some (found new own) ≡ b
    → option_or (found id (if b then own else put new file own)) rest ≡ option_or (found id own) (cond (is_file id new) (Some file) rest)
added-found id new file own rest true there = present id new file own rest (is_file id new) refl there
added-found id new file own rest false absent =
    ap (λ (x : Option File). option_or x rest) (put-found id new file own absent) ∙ or-or (found id own) (is_file id new) file rest

pub joined-found : (own others : Files) (id : FileId) → found id (joined own others) ≡ option_or (found id own) (found id others)
joined-found own [] id = or-none (found id own)
joined-found own (other ∷ others) id =
    joined-found (put_absent other.0 other.1 own) others id ∙ added-found id other.0 other.1 own (found id others) (is_some (found other.0 own)) refl
