-- What only private clauses and proofs cite, beside `AtHand`.
use Rattle.std.specs.Prelude.{ℕ, List}
use Rattle.gql_parser.specs.SchemaText.{SchemaText}
use Rattle.gql_rules_nodes.specs.PossibleTable.{ArePossibleIn}
use Rattle.gql_rules_nodes.specs.declared.possible_types.PossibleTypes.{PossibleTypes}
use Rattle.gql_schema_types.specs.declared.schema.Schema.{Schema}

-- the text means this schema, and these types are possible in it
pub record IsAtHand (text : List ℕ) (schema : Schema) (possible : PossibleTypes) : Type 0 where
  pub means : SchemaText text schema
  pub are_possible : ArePossibleIn schema.types possible
