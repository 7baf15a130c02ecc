-- What objects ask for that was not told.
use Rattle.std.specs.Prelude.{ℕ, Bool, true, false, if◌then◌else◌, List, [], ◌∷◌, Result, Ok, Err}
use Rattle.std.specs.List.{flat_map}
use Rattle.gql_coerce.specs.declared.told.ArgumentFault.{ArgumentFault}
use Rattle.gql_document_types.specs.declared.document.ExecutableDocument.{ExecutableDocument}
use Rattle.gql_document_types.specs.declared.selection.Field.{Field}
use Rattle.gql_document_types.specs.declared.selection.Selection.{Selection}
use Rattle.gql_exec.specs.Asks.{arguments_at, definition_on}
use Rattle.gql_exec.specs.Executing.{request_by}
use Rattle.gql_exec.specs.Group.{Group}
use Rattle.gql_exec.specs.Request.{Members, Request}
use Rattle.gql_exec.specs.RequestWorld.{plain_world}
use Rattle.gql_resolvers.specs.Resolved.{Meaning, gives_leaf, gives_object, gives_list, gives_skip, fails_with, Outcome, answered, refused}
use Rattle.gql_schema_types.specs.declared.schema.Schema.{Schema}
use Rattle.gql_schema_types.specs.declared.types.ObjectType.{ObjectType}
use Rattle.gql_rounds.specs.Key.{key}
use Rattle.gql_rounds.specs.Known.{Known, type_of}
use Rattle.gql_rounds.specs.Levels.{Stand}
use Rattle.gql_rounds.specs.Table.{Table}
use Rattle.gql_rounds.specs.ToldMeaning.{told_by}
use Rattle.gql_rounds.specs.declared.ask.Ask.{Ask}

abbrev pub is_skip : {X : Type 0} → Meaning X → Bool
is_skip gives_skip = true
is_skip (gives_leaf v) = false
is_skip (gives_object x) = false
is_skip (gives_list ms) = false
is_skip (fails_with text) = false

-- the field was not told: it is left out
abbrev pub is_left_out : {X : Type 0} → Outcome X → Bool
is_left_out (answered m) = is_skip m
is_left_out (refused fault) = false

-- The request that the caller's objects answer by a table. Fields that tell of the schema are none of theirs.
abbrev pub request_by_table : Schema → ExecutableDocument → Members → Table → Request Known
request_by_table schema document variables table = request_by false schema document variables type_of (told_by table)

abbrev pub KnownStand : Type 0
KnownStand = Stand Known ObjectType (List (List Selection))

-- the root of an operation is the object 0, whose type is that of the operation
abbrev pub root_stand : ObjectType → List Selection → KnownStand
root_stand root selections = record { type = root; object = record { number = 0; type_name = [] }; selection = selections ∷ [] }

module _ (r : Request Known) where
  abbrev pub ask_with : ObjectType → Known → Field → Result Members ArgumentFault → List Ask
  ask_with U x f (Ok arguments) = record { object = x.number; type_name = U.name.text; field = f.name.text; arguments = arguments } ∷ []
  ask_with U x f (Err fault) = []

  -- what an object asks for by a group's first field
  abbrev pub ask_for : ObjectType → Known → Field → List Ask
  ask_for U x f = ask_with U x f (arguments_at r (definition_on r.schema U f) f)

  -- unless it was told
  abbrev pub wanted_by_group : ObjectType → Known → Group → List Ask
  wanted_by_group U x g = if is_left_out ((plain_world r).asks U x g) then ask_for U x g.first else []

  abbrev pub wanted_by_groups : ObjectType → Known → List Group → List Ask
  wanted_by_groups U x gs = flat_map (wanted_by_group U x) gs

  abbrev pub wanted_at : KnownStand → List Ask
  wanted_at at = wanted_by_groups at.type at.object ((plain_world r).groups at.type at.selection)

  abbrev pub wanted : List KnownStand → List Ask
  wanted stands = flat_map wanted_at stands

abbrev pub key_of : Ask → List ℕ
key_of ask = key ask.object ask.field ask.arguments
