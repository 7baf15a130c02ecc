-- What only private clauses and proofs cite, beside `Seen`.
use Rattle.std.specs.Prelude.{◌≡◌, Option, Result, Ok, Err}
use Rattle.std.specs.Option.{option_map}
use Rattle.std.specs.declared.alloc.AllocError.{AllocError}
use Rattle.gql_resolvers.specs.Resolved.{Meaning}
use Rattle.gql_resolvers.specs.Meaning.{meaning_by}
use Rattle.gql_resolvers.specs.declared.resolved_value.ResolvedValue.{ResolvedValue}
use Rattle.gql_introspection.specs.Meta.{Meta}
use Rattle.gql_introspection.specs.declared.meta_object.MetaObject.{MetaObject}
use Rattle.gql_introspection.specs.Seen.{stands_for}

-- this answer, unless memory runs out
abbrev pub Gives : Result (ResolvedValue MetaObject) AllocError → Meaning Meta → Type 0
Gives (Ok resolved) answer = meaning_by stands_for resolved ≡ answer
Gives (Err _) answer = Unit {0}

-- this field, unless memory runs out
abbrev pub GivesField : Result (Option (ResolvedValue MetaObject)) AllocError → Option (Meaning Meta) → Type 0
GivesField (Ok resolved) field = option_map (meaning_by stands_for) resolved ≡ field
GivesField (Err _) field = Unit {0}
