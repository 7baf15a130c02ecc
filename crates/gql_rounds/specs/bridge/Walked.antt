-- What only private clauses and proofs cite, beside `Walked`.
use Rattle.std.specs.Prelude.{◌≡◌, List, [], ◌∷◌, ◌++◌, map}
use Rattle.std.specs.List.{AllByRecursion}
use Rattle.gql_collect.specs.Collected.{sets_of}
use Rattle.gql_collect.specs.bridge.Plan.{IsWithin}
use Rattle.gql_collect.specs.Same.{SameFirst}
use Rattle.gql_exec.specs.Mapped.{mapped}
use Rattle.gql_exec.specs.bridge.Planning.{ground_in}
use Rattle.gql_exec.specs.Request.{Request}
use Rattle.gql_exec.specs.RequestWorld.{plain_world}
use Rattle.gql_exec.specs.declared.executing.Executing.{Executing}
use Rattle.gql_resolvers.specs.Meaning.{meaning_by}
use Rattle.gql_resolvers.specs.Resolved.{Meaning}
use Rattle.gql_resolvers.specs.declared.resolved_value.ResolvedValue.{ResolvedValue}
use Rattle.gql_rounds.specs.Known.{Entity, Known, entity_of}
use Rattle.gql_rounds.specs.Wanted.{KnownStand}
use Rattle.gql_rounds.specs.bridge.Wanted.{KnownWorld}
use Rattle.gql_rounds.specs.declared.told.Told.{Told}
use Rattle.gql_rounds.specs.declared.walk.Visit.{Visit}
use Rattle.gql_rounds.specs.declared.walk.Walk.{Walk}
use Rattle.gql_rounds.specs.Walked.{request_in}

abbrev pub stand_of : Visit → KnownStand
stand_of visit = record {
  type = visit.object_type.now;
  object = record { number = visit.number; type_name = visit.type_name.now };
  selection = sets_of visit.pieces;
}

abbrev pub stands_of : List Visit → List KnownStand
stands_of visits = map stand_of visits

-- the same once repeated sets are left out
abbrev pub SameStand : KnownStand → KnownStand → Type 0
SameStand one other = (one.type ≡ other.type) × (one.object ≡ other.object) × SameFirst one.selection other.selection

abbrev pub SameStands : List KnownStand → List KnownStand → Type 0
SameStands [] [] = Unit {0}
SameStands [] (other ∷ others) = ⊥
SameStands (one ∷ ones) [] = ⊥
SameStands (one ∷ ones) (other ∷ others) = SameStand one other × SameStands ones others

-- whatever the old ones are the same as, the new ones are the same as that and more
abbrev pub Grows : (old new more : List KnownStand) → Type 0
Grows old new more = (others : List KnownStand) → SameStands old others → SameStands new (others ++ more)

abbrev pub request_of : Walk → Request Known
request_of walk = request_in walk.executing walk.answers.now

abbrev pub world_of : Walk → KnownWorld
world_of walk = plain_world (request_of walk)

-- each is collected within what the operation and the fragments have
abbrev pub AreWithin : Executing → List KnownStand → Type 0
AreWithin executing stands = AllByRecursion (λ (stand : KnownStand). IsWithin (ground_in executing) stand.selection) stands

abbrev pub known_in : Entity → Known
known_in entity = entity.known

-- what a value means, of objects as the caller knows them
abbrev pub known_meaning : ResolvedValue Told → Meaning Known
known_meaning resolved = mapped known_in (meaning_by entity_of resolved)
