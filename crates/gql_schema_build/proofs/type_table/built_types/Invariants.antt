use Rattle.std.proofs.Common.{◌≡◌, ◌++◌, [], fold, map}
use Rattle.std.specs.List.{flat_map}
use Rattle.std.specs.Map.{values_of}
use Rattle.gql_schema_types.specs.Entries.{put}
use Rattle.gql_schema_build.specs.Built.{built, part_faults}
use Rattle.gql_schema_types.specs.Types.{type_name}
use Rattle.gql_schema_build.proofs.type_table.built_types.Given as goal

-- what is made and what is left make the whole
abbrev pub invariant-loop-name : goal.invariant-loop-name
invariant-loop-name l = record {
  table : fold (put type_name) l.table (map built (values_of l._name-iterator)) ≡ fold (put type_name) [] (map built (values_of l.fn.types));
  faults : l.faults ++ flat_map part_faults (values_of l._name-iterator) ≡ l.fn.faults ++ flat_map part_faults (values_of l.fn.types);
}
