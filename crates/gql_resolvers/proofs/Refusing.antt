-- A refusal tells what is wrong.
use Rattle.std.proofs.Common.{◌≡◌, Option, Some, Result, Ok, Err, sym, ap, ◌∙◌, Bor}
use Rattle.jb_text.specs.declared.refused.Refused.{Refused}
use Rattle.jb_text.specs.declared.refused.Refused.TheVariants.{Fault, Memory}
use Rattle.gql_schema_types.specs.declared.types.ObjectType.{ObjectType}
use Rattle.gql_resolvers.specs.Resolved.{Misfit as Wrong}
use Rattle.gql_resolvers.specs.bridge.Seen.{Refuses, IsFitOf}
use Rattle.gql_resolvers.specs.declared.misfit.Misfit.{Misfit}

pub refused : (object : Option ObjectType) (wanted : Option Wrong) (wrong : Wrong) (result : Result (Bor ObjectType) (Refused Misfit))
    → wanted ≡ Some wrong → Refuses wrong result → IsFitOf object wanted result
refused object wanted wrong (Ok found) is told = absurd told
refused object wanted wrong (Err (Fault misfit)) is told = is ∙ ap Some (sym told)
refused object wanted wrong (Err Memory) is told = tt
