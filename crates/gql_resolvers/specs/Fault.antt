-- Why a place has no value of its type, and the error that tells it: sections 6.4.4 and 7.1.2 of GraphQL October 2021.
use Rattle.std.specs.Prelude.{[], Option, Some, None, if◌then◌else◌}
use Rattle.gql_source.specs.Span.{Span}
use Rattle.gql_response.specs.declared.graphql_error.GraphQLError.{GraphQLError}
use Rattle.gql_response.specs.ErrorAt.{error_at}
use Rattle.gql_response.specs.RequestFault.{suspected_bug}
use Rattle.gql_resolvers.specs.Resolved.{Misfit, Fault, Outcome, answered, refused}
use Rattle.gql_resolvers.specs.World.{World}
use Rattle.gql_resolvers.specs.Trail.{path_of}
use Rattle.gql_resolvers.specs.Spot.{Spot, trail}

-- a misfit, told at this place of the document
abbrev pub told_at : Option Span → Misfit → Fault
told_at span misfit = record { message = misfit.message; span = span; marked = misfit.marked }

abbrev pub placed : Option Span → Option Misfit → Option Fault
placed span None = None
placed span (Some misfit) = Some (told_at span misfit)

module _ {X T G S : Type 0} (w : World X T G S) where
  -- a misfit is told at the name of the group's first field
  abbrev pub fault_at : Spot G → Outcome X → Option Fault
  fault_at spot (refused fault) = Some fault
  fault_at spot (answered m) = placed (w.span_of spot.group) (w.misfit spot.type m)

  -- the error: the message, the line and column where the sources have the place, the path, and the mark
  abbrev pub fault_error : Spot G → Fault → GraphQLError
  fault_error spot fault =
      record (error_at fault.message fault.span w.sources) { path = path_of (trail spot); extensions = if fault.marked then suspected_bug else [] }
