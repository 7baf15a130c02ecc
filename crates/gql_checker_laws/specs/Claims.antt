-- Listed errors on the way to their places: each with the steps of its path that are left.
use Rattle.std.specs.Prelude.{ℕ, suc, ◌+◌, List, [], ◌∷◌, ◌++◌, Bool, true, false, if◌then◌else◌, Option, Some, None, ◌||◌, slice_set}
use Rattle.gql_response.specs.declared.graphql_error.GraphQLError.{GraphQLError}
use Rattle.gql_resolvers.specs.Trail.{Segment}
use Rattle.gql_checker_laws.specs.Shows.{same_segment}

pub record Claim : Type 0 where
  pub number : ℕ
  pub error : GraphQLError
  pub rest : List Segment

-- each listed error, from a number on
abbrev pub claims_from : ℕ → List GraphQLError → List Claim
claims_from n [] = []
claims_from n (e ∷ es) = record { number = n; error = e; rest = e.path } ∷ claims_from (n + 1) es

-- what was found at a place, and inside it: whether the null of a listed fault passes out of it, the numbers of the errors that are
-- true, and the first bad path
pub record Found : Type 0 where
  pub passes : Bool
  pub told : List ℕ
  pub bad : Option (List Segment)

abbrev pub first_of : Option (List Segment) → Option (List Segment) → Option (List Segment)
first_of None other = other
first_of (Some path) other = Some path

abbrev pub nothing : Found
nothing = record { passes = false; told = []; bad = None }

abbrev pub both : Found → Found → Found
both a b = record { passes = a.passes || b.passes; told = a.told ++ b.told; bad = first_of a.bad b.bad }

abbrev pub share_one : Segment → Claim → List Segment → List Claim
share_one s c [] = []
share_one s c (t ∷ rest) = if same_segment s t then record c { rest = rest } ∷ [] else []

-- the claims that go on by a step, one step further
abbrev pub share : Segment → List Claim → List Claim
share s [] = []
share s (c ∷ cs) = share_one s c c.rest ++ share s cs

-- truth values with these set
abbrev pub marked : List ℕ → List Bool → List Bool
marked [] marks = marks
marked (n ∷ ns) marks = marked ns (slice_set marks n true)

-- the index of the first that is not set
abbrev pub one_later : Option ℕ → Option ℕ
one_later None = None
one_later (Some n) = Some (suc n)

abbrev pub first_missing : List Bool → Option ℕ
first_missing [] = None
first_missing (true ∷ marks) = one_later (first_missing marks)
first_missing (false ∷ marks) = Some 0
