use Rattle.std.proofs.Common.{◌≡◌, fold}
use Rattle.gql_schema_types.specs.Entries.{put}
use Rattle.gql_schema_build.specs.DirectiveDefinitionCollision.{directive_name}
use Rattle.gql_schema_build.proofs.directive_table.put_all.Given as goal

-- what is put and what is left make the whole
abbrev pub invariant-loop-definition : goal.invariant-loop-definition
invariant-loop-definition l = fold (put directive_name) l.table l.definition-iterator ≡ fold (put directive_name) l.fn.table l.fn.definitions
