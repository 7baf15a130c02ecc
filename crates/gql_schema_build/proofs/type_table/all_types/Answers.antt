use Rattle.std.proofs.Common.{◌≡◌, [], fold, map, ap, ◌∙◌}
use Rattle.std.specs.Map.{values_of}
use Rattle.std.proofs.lemmas.Result.{IfOk-weaker, on_ok_weaker}
use Rattle.gql_schema_types.specs.Entries.{put}
use Rattle.gql_schema_build.specs.Built.{built}
use Rattle.gql_schema_build.specs.Merged.{named, firsts}
use Rattle.gql_schema_build.specs.bridge.Merged.{with_extension}
use Rattle.gql_schema_types.specs.Types.{type_name}
use Rattle.gql_schema_build.specs.TypeTable as spec
use Rattle.gql_schema_build.proofs.Whole.{whole, whole_faults}
use Rattle.gql_schema_build.proofs.type_table.all_types.Goals as goal

pub returns-clause-table : goal.returns-clause-table
returns-clause-table c =
    let ds = c.args.definitions in
    let es = c.args.extensions in
    let m = c.merge_all.new.types in
    let is : m ≡ fold with_extension (map named (firsts ds)) es = c.in_ok-merge_all.ensures ∙ ap (λ ts. fold with_extension ts es) c.in_ok-firsts.ensures.types in
    IfOk-weaker c.built_types.result (λ table. table ≡ fold (put type_name) [] (map built (values_of m))) (λ table. table ≡ spec.types ds es)
    (λ table made. made ∙ whole ds es m is) c.built_types.ensures.table

pub returns-clause-faults : goal.returns-clause-faults
returns-clause-faults c =
    let ds = c.args.definitions in
    let es = c.args.extensions in
    let m = c.merge_all.new.types in
    let is : m ≡ fold with_extension (map named (firsts ds)) es = c.in_ok-merge_all.ensures ∙ ap (λ ts. fold with_extension ts es) c.in_ok-firsts.ensures.types in
    on_ok_weaker c.built_types.result
    (λ told. whole_faults ds es m is c.args.faults.now c.first_types.new.faults c.list_orphan_type_extensions.new.faults c.list_kind_mismatches.new.faults c.built_types.new.faults c.in_ok-firsts.firsts
    c.in_ok-firsts.ensures.types c.in_ok-firsts.ensures.faults c.in_ok-list_orphan_type_extensions.ensures c.in_ok-list_kind_mismatches.ensures told)
    c.built_types.ensures.faults
