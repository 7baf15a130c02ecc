use Rattle.std.proofs.Common.{◌≡◌, fold, drop}
use Rattle.gql_schema_types.specs.bridge.Implementers.{with_listing}
use Rattle.gql_schema_types.specs.Types.{interfaces_of}
use Rattle.gql_schema_types.proofs.implementers.add_type.Given as goal

-- what is there and what is left make the whole
abbrev pub invariant-loop-interface : goal.invariant-loop-interface
invariant-loop-interface l =
    fold (with_listing l.ty) l.found (drop l.interface-index l.interface-items) ≡ fold (with_listing l.ty) l.fn.found (interfaces_of l.ty)
