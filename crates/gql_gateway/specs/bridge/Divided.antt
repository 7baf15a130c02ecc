-- What only private clauses and proofs cite, beside `Divided`.
use Rattle.std.specs.Prelude.{Result, Ok, Err}
use Rattle.jb_text.specs.declared.refused.Refused.{Refused}
use Rattle.jb_text.specs.declared.refused.Refused.TheVariants as refused
use Rattle.gql_document_types.specs.declared.document.ExecutableDocument.{ExecutableDocument}
use Rattle.gql_document_types.specs.declared.operation.Operation.{Operation}
use Rattle.gql_exec.specs.Request.{Members}
use Rattle.gql_response.specs.declared.execution_response.ExecutionResponse.{ExecutionResponse}
use Rattle.gql_schema_types.specs.declared.schema.Schema.{Schema}
use Rattle.gql_gateway.specs.Remote.{Telling}
use Rattle.gql_gateway.specs.declared.dividing.DivideFault.{DivideFault}
use Rattle.gql_gateway.specs.declared.dividing.DivideFault.TheVariants.{TooLarge, Remote, MissingKey}
use Rattle.gql_gateway.specs.Divided.{IsOfThere, IsDivided}

-- ---- on the way

-- the same of an operation that names no fragments
abbrev pub JoinsTo : Telling → Type 0 → Schema → ExecutableDocument → Operation → Members → Result ExecutionResponse (Refused DivideFault)
    → Type 0
JoinsTo tells Failed schema document operation variables (Ok response) = IsDivided tells schema document operation variables (Ok response)
JoinsTo tells Failed schema document operation variables (Err (refused.Fault TooLarge)) = ⊥
JoinsTo tells Failed schema document operation variables (Err (refused.Fault Remote)) = Failed
JoinsTo tells Failed schema document operation variables (Err (refused.Fault (MissingKey key))) =
    IsDivided tells schema document operation variables (Err key)
JoinsTo tells Failed schema document operation variables (Err refused.Memory) = Unit {0}

-- the response of the other place, or that it met a fault
abbrev pub AsksFor : Telling → Type 0 → Schema → ExecutableDocument → Operation → Members → Result ExecutionResponse (Refused DivideFault)
    → Type 0
AsksFor tells Failed schema document operation variables (Ok there) = IsOfThere tells schema document operation variables there
AsksFor tells Failed schema document operation variables (Err (refused.Fault Remote)) = Failed
AsksFor tells Failed schema document operation variables (Err (refused.Fault fault)) = ⊥
AsksFor tells Failed schema document operation variables (Err refused.Memory) = Unit {0}
