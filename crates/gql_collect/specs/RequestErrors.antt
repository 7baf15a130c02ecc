-- A fault of coercion as the error of a request.
use Rattle.gql_coerce.specs.declared.fault.CoercionFault.{CoercionFault}
use Rattle.gql_response.specs.declared.request_error.RequestError.{RequestError}

-- with the same message, place and mark
abbrev pub request_error : CoercionFault → RequestError
request_error fault = record { message = fault.message; location = fault.location; is_suspected_validation_bug = fault.suspected }
