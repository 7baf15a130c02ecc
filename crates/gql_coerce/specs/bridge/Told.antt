-- What only private clauses and proofs cite, beside `Told`.
use Rattle.std.specs.Prelude.{if◌then◌else◌}
use Rattle.gql_coerce.specs.declared.fault.CoercionFault.{CoercionFault}
use Rattle.gql_coerce.specs.declared.told.InputCoercionError.{InputCoercionError}
use Rattle.gql_coerce.specs.declared.told.InputCoercionError.TheVariants.{SuspectedValidationBug, ValueError}

-- of variables
abbrev pub input_error : CoercionFault → InputCoercionError
input_error fault = if fault.suspected then SuspectedValidationBug fault.message fault.location else ValueError fault.message fault.location
