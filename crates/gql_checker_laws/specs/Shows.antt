-- Errors as a response shows them: a name in a path is its text, wherever it stands in a document.
use Rattle.std.specs.Prelude.{ℕ, Bool, true, false, ◌&&◌, nat_eq, List, [], ◌∷◌, codes}
use Rattle.std.specs.Str.{bytes_eq}
use Rattle.jb_tree.specs.Value.{truth_value}
use Rattle.gql_source.specs.declared.line_column.LineColumn.{LineColumn}
use Rattle.gql_response.specs.declared.graphql_error.GraphQLError.{GraphQLError}
use Rattle.gql_response.specs.declared.path.ResponseDataPathSegment.TheVariants.{Field, ListIndex}
use Rattle.gql_response.specs.Response.{Member}
use Rattle.gql_resolvers.specs.Trail.{Segment}
use Rattle.gql_checker_laws.specs.Identical.{is_with, same_truth}

-- one step, as it is shown
abbrev pub same_segment : Segment → Segment → Bool
same_segment (Field name) (Field other) = bytes_eq name.text other.text
same_segment (Field name) (ListIndex j) = false
same_segment (ListIndex i) (Field other) = false
same_segment (ListIndex i) (ListIndex j) = nat_eq i j

abbrev pub same_place : LineColumn → LineColumn → Bool
same_place a b = nat_eq a.line b.line && nat_eq a.column b.column

abbrev pub same_places : List LineColumn → List LineColumn → Bool
same_places [] [] = true
same_places [] (b ∷ bs) = false
same_places (a ∷ as') [] = false
same_places (a ∷ as') (b ∷ bs) = same_place a b && same_places as' bs

abbrev pub is_mark : Member → Bool
is_mark member = bytes_eq member.0 (codes "APOLLO_SUSPECTED_VALIDATION_BUG") && is_with (same_truth true) (truth_value member.1)

-- the extensions of an error: the mark of a suspected fault of validation alone, or nothing
abbrev pub is_marked : Bool → List Member → Bool
is_marked true [] = false
is_marked true (m ∷ []) = is_mark m
is_marked true (m ∷ n ∷ ms) = false
is_marked false [] = true
is_marked false (m ∷ ms) = false

-- the message, the places and the mark, the path aside
abbrev pub says : GraphQLError → List ℕ → List LineColumn → Bool → Bool
says error message places marked = bytes_eq error.message message && (same_places error.locations places && is_marked marked error.extensions)
