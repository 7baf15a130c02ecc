-- What only private clauses and proofs cite, beside `Reading`.
use Rattle.std.specs.Prelude.{◌≡◌}
use Rattle.jb_text.specs.declared.refused.Refused.{Refused}
use Rattle.jb_text.specs.declared.refused.Refused.TheVariants.{Fault, Memory}
use Rattle.gql_client_schema.specs.Reading.{Steps}

-- this path, or want of memory
abbrev pub IsPath : Steps → Refused Steps → Type 0
IsPath path (Fault at) = path ≡ at
IsPath path Memory = Unit {0}
