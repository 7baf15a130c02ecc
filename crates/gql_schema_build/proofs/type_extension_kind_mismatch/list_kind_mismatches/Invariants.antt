use Rattle.std.proofs.Common.{◌≡◌, ◌++◌, drop}
use Rattle.std.specs.List.{flat_map}
use Rattle.gql_schema_build.specs.TypeExtensionKindMismatch.{type_extension_kind_mismatch}
use Rattle.gql_schema_build.proofs.type_extension_kind_mismatch.list_kind_mismatches.Given as goal

-- what is listed and what is left make the whole
abbrev pub invariant-loop-extension : goal.invariant-loop-extension
invariant-loop-extension l =
    l.faults ++ flat_map (type_extension_kind_mismatch l.types) (drop l.extension-index l.extension-items) ≡ l.fn.faults ++ flat_map (type_extension_kind_mismatch l.types) l.extension-items
