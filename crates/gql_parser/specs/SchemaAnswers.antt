-- What is answered of the text of a schema. Want of memory alone is free.
use Rattle.std.specs.Prelude.{ℕ, List, Result, Ok, Err}
use Rattle.jb_text.specs.declared.refused.Refused.{Refused}
use Rattle.jb_text.specs.declared.refused.Refused.TheVariants.{Fault, Memory}
use Rattle.gql_diag.specs.List.{Diagnostics}
use Rattle.gql_schema_types.specs.declared.schema.Schema.{Schema}
use Rattle.gql_parser.specs.SchemaText.{SchemaText}
use Rattle.gql_parser.specs.SchemaFaults.{SchemaFaults}

-- the schema that the text means, or what is wrong with it
abbrev pub IsSchemaRead : List ℕ → Result Schema (Refused Diagnostics) → Type 0
IsSchemaRead text (Ok schema) = SchemaText text schema
IsSchemaRead text (Err (Fault list)) = SchemaFaults text list
IsSchemaRead text (Err Memory) = Unit {0}
