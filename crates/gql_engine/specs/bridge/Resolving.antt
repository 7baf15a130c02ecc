-- What only private clauses and proofs cite, beside `Resolving`.
use Rattle.std.specs.Prelude.{ℕ, Bool, List, Option, option_and_then}
use Rattle.std.specs.Map.{lookup}
use Rattle.std.specs.Str.{bytes_eq}
use Rattle.jb_tree.specs.Value.{truth_value}
use Rattle.gql_resolvers.specs.Meaning.{Members}
use Rattle.gql_resolvers.specs.Meaning.{Members}

-- where it is true or false
abbrev pub truth_argument : List ℕ → Members → Option Bool
truth_argument name arguments = option_and_then truth_value (lookup (bytes_eq name) arguments)
