-- What only private clauses and proofs cite, beside `Joined`.
use Rattle.std.specs.Prelude.{List, [], ◌∷◌, Option, Some, None}
use Rattle.gql_ast_base.specs.Names.{Named}
use Rattle.gql_resolvers.specs.Trail.{Segment}
use Rattle.gql_response.specs.declared.path.ResponseDataPathSegment.TheVariants.{Field, ListIndex}

-- the key that a path begins with, if it begins with one
abbrev pub first_key : List Segment → Option Named
first_key [] = None
first_key (Field name ∷ path) = Some name
first_key (ListIndex index ∷ path) = None
