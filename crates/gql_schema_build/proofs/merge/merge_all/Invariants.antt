use Rattle.std.proofs.Common.{◌≡◌, fold}
use Rattle.gql_schema_build.specs.bridge.Merged.{with_extension}
use Rattle.gql_schema_build.proofs.merge.merge_all.Given as goal

-- what is merged and what is left make the whole
abbrev pub invariant-loop-extension : goal.invariant-loop-extension
invariant-loop-extension l = fold with_extension l.types l.extension-iterator ≡ fold with_extension l.fn.types l.fn.extensions
