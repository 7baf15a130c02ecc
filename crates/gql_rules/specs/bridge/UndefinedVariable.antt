-- What only private clauses and proofs cite, beside `UndefinedVariable`.
use Rattle.std.specs.Prelude.{List, []}
use Rattle.gql_ast.specs.declared.operation.VariableDefinition.{VariableDefinition}
use Rattle.gql_schema_types.specs.Entries.{joined}
use Rattle.gql_rules.specs.UndefinedVariable.{variable_name}

-- of each name the first: that is the one by which a use is judged
abbrev pub first_variables : List VariableDefinition → List VariableDefinition
first_variables variables = joined variable_name [] variables
