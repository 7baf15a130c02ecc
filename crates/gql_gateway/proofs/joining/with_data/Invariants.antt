use Rattle.std.proofs.Common.{List}
use Rattle.gql_resolvers.specs.Execute.{Member}
use Rattle.gql_response.specs.declared.graphql_error.GraphQLError.{GraphQLError}
use Rattle.gql_gateway.specs.Joined.{AreApart}
use Rattle.gql_gateway.specs.bridge.Joining.{AreAbsent}
use Rattle.gql_gateway.specs.bridge.Sides.{IsSideOf}
use Rattle.gql_gateway.proofs.Adding.{IsSoFar}
use Rattle.gql_gateway.proofs.joining.with_data.Given as goal

-- what is joined, and what the sides have under the keys that are left, make the whole
abbrev pub invariant-loop-key : goal.invariant-loop-key
invariant-loop-key l = record {
  apart : AreApart l.key-iterator;
  absent : AreAbsent l.key-iterator l.joined.members;
  so_far : (ms ns : List Member) (es fs : List GraphQLError) → IsSideOf ms es l.fn.here → IsSideOf ns fs l.fn.there
      → IsSoFar l.fn.keys l.key-iterator l.here l.there l.joined ms ns es fs;
}
