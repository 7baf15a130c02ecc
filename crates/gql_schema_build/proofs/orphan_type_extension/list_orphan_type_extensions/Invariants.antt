use Rattle.std.proofs.Common.{◌≡◌, ◌++◌, drop}
use Rattle.std.specs.List.{flat_map}
use Rattle.gql_schema_build.specs.OrphanTypeExtension.{orphan_type_extension}
use Rattle.gql_schema_build.proofs.orphan_type_extension.list_orphan_type_extensions.Given as goal

-- what is listed and what is left make the whole
abbrev pub invariant-loop-extension : goal.invariant-loop-extension
invariant-loop-extension l =
    l.faults ++ flat_map (orphan_type_extension l.types) (drop l.extension-index l.extension-items) ≡ l.fn.faults ++ flat_map (orphan_type_extension l.types) l.extension-items
