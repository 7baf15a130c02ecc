-- Objects as the caller knows them.
use Rattle.std.specs.Prelude.{ℕ, List}
use Rattle.gql_rounds.specs.Table.{Table}
use Rattle.gql_rounds.specs.declared.told.Told.{Told}

-- an object by its number, and the name of its type
pub record Known : Type 0 where
  pub number : ℕ
  pub type_name : List ℕ

-- an object beside all that was told
pub record Entity : Type 0 where
  pub table : Table
  pub known : Known

abbrev pub beside : Table → Known → Entity
beside table known = record { table = table; known = known }

-- what contracts see of an object of the resolver
abbrev pub entity_of : Told → Entity
entity_of told = beside told.answers.now (record { number = told.number; type_name = told.type_name.now })

abbrev pub type_of : Known → List ℕ
type_of known = known.type_name

abbrev pub type_of_entity : Entity → List ℕ
type_of_entity entity = entity.known.type_name
