-- What is said of a response that was read.
use Rattle.std.specs.Prelude.{ℕ, zero, suc, Bool, List, [], ◌∷◌}
use Rattle.std.specs.Bool.{Decides}
use Rattle.std.specs.List.{AllByRecursion}
use Rattle.gql_response.specs.declared.execution_response.ExecutionResponse.{ExecutionResponse}
use Rattle.gql_response.specs.declared.graphql_error.GraphQLError.{GraphQLError}
use Rattle.gql_resolvers.specs.Trail.{Segment}
use Rattle.gql_resolvers.specs.World.{World}
use Rattle.gql_checker_laws.specs.Bad.{FirstOfAll}
use Rattle.gql_checker_laws.specs.Tells.{IsListed, Tells}

-- a mark for each error, which says whether this holds of it
abbrev pub AreMarks : (GraphQLError → Type 0) → List GraphQLError → List Bool → Type 0
AreMarks P [] [] = Unit {0}
AreMarks P [] (b ∷ bs) = ⊥
AreMarks P (e ∷ es) [] = ⊥
AreMarks P (e ∷ es) (b ∷ bs) = Decides b (P e) × AreMarks P es bs

module _ {X T G S : Type 0} (w : World X T G S) (root : T) (initial : X) (all : S) where
  -- the error of this number is false, and all before it are true
  abbrev pub IsFirstFalse : List GraphQLError → ℕ → Type 0
  IsFirstFalse [] index = ⊥
  IsFirstFalse (error ∷ errors) zero = Tells w root initial all error → ⊥
  IsFirstFalse (error ∷ errors) (suc index) = Tells w root initial all error × IsFirstFalse errors index

  -- all errors are true, and the first bad value of the data has this path
  pub record IsBadAt (response : ExecutionResponse) (path : List Segment) : Type 0 where
    pub faults : AllByRecursion (Tells w root initial all) response.errors
    pub bad : FirstOfAll w root initial all (IsListed response.errors) response.root path
