-- What is asked for in one round.
use Rattle.std.specs.Prelude.{◌≡◌, ◌⊎◌, ℕ, List, [], ◌∷◌, true}
use Rattle.std.specs.List.{AllByRecursion, IsDistinct}
use Rattle.std.specs.Map.{keys_of}
use Rattle.std.specs.Str.{bytes_eq}
use Rattle.gql_document_types.specs.declared.selection.Selection.{Selection}
use Rattle.gql_exec.specs.Request.{Request}
use Rattle.gql_exec.specs.RequestWorld.{plain_world}
use Rattle.gql_schema_types.specs.declared.types.ObjectType.{ObjectType}
use Rattle.gql_rounds.specs.Known.{Known}
use Rattle.gql_rounds.specs.Levels.{level}
use Rattle.gql_rounds.specs.Table.{has_key}
use Rattle.gql_rounds.specs.Wanted.{key_of, root_stand, wanted}
use Rattle.gql_rounds.specs.declared.ask.Ask.{Ask}

abbrev pub IsOneOf : {A : Type 0} → A → List A → Type 0
IsOneOf x [] = ⊥
IsOneOf x (y ∷ ys) = (x ≡ y) ⊎ IsOneOf x ys

module _ (r : Request Known) (root : ObjectType) (selections : List Selection) where
  -- what the objects so many levels below the root ask for
  abbrev pub wanted_on : ℕ → List Ask
  wanted_on n = wanted r (level (plain_world r) (root_stand root selections) n)

  -- it stands under its key, and is what an object asks for that is reached
  pub record IsWanted (entry : List ℕ × Ask) : Type 0 where
    pub key : entry.0 ≡ key_of entry.1
    pub depth : ℕ
    pub among : IsOneOf entry.1 (wanted_on depth)

  -- These are asked for: all that objects ask for that are reached, at any level, nothing else, and each once.
  pub record AreAsked (asks : List (List ℕ × Ask)) : Type 0 where
    pub whole : (depth : ℕ) → AllByRecursion (λ (ask : Ask). has_key (key_of ask) asks ≡ true) (wanted_on depth)
    pub wanted : AllByRecursion IsWanted asks
    pub distinct : IsDistinct bytes_eq (keys_of asks)
