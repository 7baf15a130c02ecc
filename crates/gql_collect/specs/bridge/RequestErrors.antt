-- What only private clauses and proofs cite, beside `RequestErrors`.
use Rattle.std.specs.Prelude.{true, false}
use Rattle.gql_coerce.specs.declared.told.InputCoercionError.{InputCoercionError}
use Rattle.gql_coerce.specs.declared.told.InputCoercionError.TheVariants.{SuspectedValidationBug, ValueError}
use Rattle.gql_response.specs.declared.request_error.RequestError.{RequestError}

-- ---- the same of a fault as callers of the coercion are told it

abbrev pub error_told : InputCoercionError → RequestError
error_told (SuspectedValidationBug message location) = record { message = message; location = location; is_suspected_validation_bug = true }
error_told (ValueError message location) = record { message = message; location = location; is_suspected_validation_bug = false }
