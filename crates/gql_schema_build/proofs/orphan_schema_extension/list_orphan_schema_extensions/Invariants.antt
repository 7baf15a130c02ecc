use Rattle.std.proofs.Common.{◌≡◌, ◌++◌, drop}
use Rattle.gql_schema_build.specs.OrphanSchemaExtension.{orphan_schema_extensions}
use Rattle.gql_schema_build.proofs.orphan_schema_extension.list_orphan_schema_extensions.Given as goal

-- what is listed and what is left make the whole
abbrev pub invariant-loop-extension : goal.invariant-loop-extension
invariant-loop-extension l =
    l.faults ++ orphan_schema_extensions (drop l.extension-index l.extension-items) ≡ l.fn.faults ++ orphan_schema_extensions l.extension-items
