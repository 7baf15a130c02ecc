-- What the code keeps, as the walk has it.
use Rattle.std.specs.Prelude.{Bool, false, not, ◌&&◌, List, Option, Some, None, map}
use Rattle.std.specs.Option.{option_copied}
use Rattle.jb_tree.specs.Value.{is_null}
use Rattle.jb_tree.specs.declared.value.Value.{Value}
use Rattle.gql_resolvers.specs.Resolved.{Fault}
use Rattle.gql_response.specs.declared.request_error.RequestError.{RequestError}
use Rattle.gql_checker_laws.specs.Claims.{Claim}
use Rattle.gql_checker_laws.specs.Findings.{Findings}
use Rattle.gql_response_check.specs.declared.claim.Claim.{Claim as HeldClaim}
use Rattle.gql_response_check.specs.declared.findings.Findings.{Findings as HeldFindings}
use Rattle.gql_response_check.specs.declared.reported.Reported.{Reported}

abbrev pub claim_of : HeldClaim → Claim
claim_of held = record { number = held.number; error = held.error.now; rest = held.rest.now }

abbrev pub claims_of : List HeldClaim → List Claim
claims_of claims = map claim_of claims

abbrev pub findings_of : HeldFindings → Findings
findings_of held = record { told = held.told; bad = held.bad }

-- the value that a response has at a place
abbrev pub value_in : Reported → Option Value
value_in reported = option_copied reported.value

-- the listed errors whose paths go to the place or through it
abbrev pub claims_in : Reported → List Claim
claims_in reported = claims_of reported.claims.now

-- a value is neither as it is given nor a null that is held
abbrev pub is_bad : (held given : Bool) → Option Value → Bool
is_bad held given None = false
is_bad held given (Some v) = not given && not (held && is_null v)

-- a fault, as errors of requests tell it
abbrev pub fault_in : RequestError → Fault
fault_in it = record { message = it.message; span = it.location; marked = it.is_suspected_validation_bug }
