-- What is wanted of the texts of a schema and a query.
use Rattle.std.specs.Prelude.{ℕ, Bool, List, Option}
use Rattle.jb_tree.specs.declared.value.Value.{Value}
use Rattle.gql_document_types.specs.ChosenOperation.{text_of}
use Rattle.gql_engine.specs.declared.wanted.Wanted.{Wanted as WantedHere}

abbrev pub Members : Type 0
Members = List (List ℕ × Value)

-- the response to the operation of a name, or to the only one, with these values of its variables, with introspection or without it
pub record Wanted : Type 0 where
  pub schema : List ℕ
  pub query : List ℕ
  pub operation_name : Option (List ℕ)
  pub variables : Members
  pub introspection : Bool

-- what is wanted of these texts
abbrev pub wanted_over : (schema query : List ℕ) → WantedHere → Wanted
wanted_over schema query wanted = record {
  schema = schema;
  query = query;
  operation_name = text_of wanted.operation_name;
  variables = wanted.variables.now;
  introspection = wanted.introspection;
}
