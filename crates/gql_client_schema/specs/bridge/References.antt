-- What only private clauses and proofs cite, beside `References`.
use Rattle.std.specs.Prelude.{ℕ, Option}
use Rattle.jb_tree.specs.declared.value.Value.{Value}
use Rattle.gql_ast_base.specs.declared.type_ref.TypeRef.{TypeRef}
use Rattle.gql_client_schema.specs.Members.{there}
use Rattle.gql_client_schema.specs.Reading.{Reading}
use Rattle.gql_client_schema.specs.References.{link_of, nested, inner}

-- the value of `ofType`, above so many levels
abbrev pub inside : ℕ → Option Value → Reading (Option TypeRef)
inside left = there (nested (link_of (inner left)))
