use Rattle.std.proofs.Common.{◌≡◌}
use Rattle.gql_schema_build.specs.SchemaDefinitions.{extended_by}
use Rattle.gql_schema_build.proofs.schema_definition.add_extensions.Given as goal

-- what is added and what is left make the whole
abbrev pub invariant-loop-extension : goal.invariant-loop-extension
invariant-loop-extension l = extended_by l.extension-iterator l.beginning ≡ extended_by l.fn.extensions l.fn.beginning
