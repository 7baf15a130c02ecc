use Rattle.std.proofs.Common.{sym, ap, ◌∙◌, subst}
use Rattle.std.specs.List.{IsDistinct}
use Rattle.std.specs.Map.{lookup}
use Rattle.std.specs.Str.{bytes_eq}
use Rattle.gql_schema_types.specs.Entries.{texts}
use Rattle.gql_schema_types.specs.Types.{type_name}
use Rattle.gql_schema_types.proofs.Implementing.{found-step}
use Rattle.gql_schema_types.proofs.schema.Schema.implementers_map.Goals as goal

pub loop-ty-preserved : goal.loop-ty-preserved
loop-ty-preserved c =
    let ts = c.as_slice-ty-items.result.now in
    let t = c.ty-item.result in
    let distinct = subst (λ l. IsDistinct bytes_eq (texts type_name l)) (sym c.as_slice-ty-items.ensures.entries) c.as_slice-ty-items.ensures.distinct in
    λ name. ap (lookup (bytes_eq name)) c.in_ok-add_type.ensures ∙ found-step c.loop-ty.found ts c.loop-ty.ty-index t name c.loop-ty-test.true c.ty-item.is distinct (c.loop-ty.invariant name)
