use Rattle.std.proofs.Common.{◌≡◌, drop}
use Rattle.gql_coerce.specs.Arguments.{first_named}
use Rattle.gql_coerce.proofs.given_arguments.first_named.Given as goal

abbrev pub invariant-loop-argument : goal.invariant-loop-argument
invariant-loop-argument l = first_named l.name (drop l.argument-index l.arguments) ≡ first_named l.name l.arguments
