-- Faults as callers are told them.
use Rattle.gql_coerce.specs.declared.fault.CoercionFault.{CoercionFault}
use Rattle.gql_coerce.specs.declared.told.ArgumentFault.{ArgumentFault}

-- of arguments
abbrev pub argument_fault : CoercionFault → ArgumentFault
argument_fault fault = record { message = fault.message; location = fault.location; suspected = fault.suspected }
