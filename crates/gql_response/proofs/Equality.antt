-- Equality of errors and of responses decides whether they are the same.
use Rattle.std.proofs.Common.{◌≡◌, ℕ, List, [], ◌∷◌, map, Option, Some, None, refl, sym, ◌∙◌, ap, rules}
use Rattle.std.specs.Bool.{Decides}
use Rattle.std.specs.Option.{option_eq}
use Rattle.std.specs.Cmp.Lexicographic.{pointwise}
use Rattle.std.proofs.lemmas.Bool.Decides.{Decides-and, Decides-at, Decides-like, Decides-eqb}
use Rattle.std.proofs.lemmas.Slice.Eq.{bytes_eq-Decides, slice_eq-Decides}
use Rattle.jb_map.specs.ByKey.{same_pairs}
use Rattle.jb_tree.specs.declared.value.Value.{the_lemmas}
use Rattle.jb_tree.specs.declared.value.Value.TheVariants as json
use Rattle.jb_tree.specs.contracts.value.ValuePartialEq.TheImpl as values
use Rattle.jb_tree.specs.Same.{Same}
use Rattle.jb_tree.proofs.Equality.{equality_decides}
use Rattle.gql_source.specs.declared.line_column.LineColumn.{LineColumn}
use Rattle.gql_source.specs.contracts.line_column.LineColumnPartialEq.TheImpl as locations
use Rattle.gql_response.specs.declared.path.ResponseDataPathSegment.{ResponseDataPathSegment}
use Rattle.gql_response.specs.declared.path.ResponseDataPathSegment.TheVariants.{Field, ListIndex}
use Rattle.gql_response.specs.declared.graphql_error.GraphQLError.{GraphQLError}
use Rattle.gql_response.specs.declared.execution_response.ExecutionResponse.{ExecutionResponse}
use Rattle.gql_response.specs.contracts.path.ResponseDataPathSegmentPartialEq.TheImpl as segments
use Rattle.gql_response.specs.contracts.graphql_error.GraphQLErrorPartialEq.TheImpl as errors
use Rattle.gql_response.specs.contracts.execution_response.ExecutionResponsePartialEq.TheImpl as responses
use Rattle.gql_response.specs.Response.{Member, data_value}
use Rattle.gql_response.specs.Held.{unplaced_segment}
use Rattle.gql_response.specs.Same.{IsSameError, AreSameErrors, IsSameResponse}

-- ---- places in a document

location_decides : (a b : LineColumn) → Decides (locations.ghosts.eq a b) (a ≡ b)
location_decides a b =
    Decides-like _ (λ h i. record { line = h.0 i; column = h.1 i }) (λ e. (ap (λ (l : LineColumn). l.line) e, ap (λ (l : LineColumn). l.column) e))
    (Decides-and _ _ (Decides-eqb a.line b.line) (Decides-eqb a.column b.column))

-- ---- places in the data

abbrev text_of : ResponseDataPathSegment → List ℕ
text_of (Field name) = name.text
text_of (ListIndex index) = []

abbrev index_of : ResponseDataPathSegment → ℕ
index_of (Field name) = 0
index_of (ListIndex index) = index

segment_decides : (a b : ResponseDataPathSegment) → Decides (segments.ghosts.eq a b) (unplaced_segment a ≡ unplaced_segment b)
segment_decides (Field a) (Field b) = Decides-like _ (λ e. ap (λ text. Field (record { text = text; location = None })) e) (λ e. ap text_of e) (bytes_eq-Decides a.text b.text)
segment_decides (Field a) (ListIndex j) = (λ e. absurd (cc), λ e. absurd (cc))
segment_decides (ListIndex i) (Field b) = (λ e. absurd (cc), λ e. absurd (cc))
segment_decides (ListIndex i) (ListIndex j) = Decides-like _ (λ e. ap ListIndex e) (λ e. ap index_of e) (Decides-eqb i j)

path_decides : (xs ys : List ResponseDataPathSegment) → Decides (pointwise segments.ghosts.eq xs ys) (map unplaced_segment xs ≡ map unplaced_segment ys)
path_decides [] [] = (λ e. refl, λ e. refl)
path_decides [] (y ∷ ys) = (λ e. absurd (cc), λ e. absurd (cc))
path_decides (x ∷ xs) [] = (λ e. absurd (cc), λ e. absurd (cc))
path_decides (x ∷ xs) (y ∷ ys) = Decides-like _ (λ h i. h.0 i ∷ h.1 i) (λ e. (cc, cc)) (Decides-and _ _ (segment_decides x y) (path_decides xs ys))

-- ---- maps

members_eq : (es fs : List Member) → same_pairs values.ghosts.eq es fs ≡ values.ghosts.eq (json.Object es) (json.Object fs)
members_eq es fs = sym (values.Laws.is _ _ ∙ search (rules, the_lemmas))

members_decide : (es fs : List Member) → Decides (same_pairs values.ghosts.eq es fs) (Same (json.Object es) (json.Object fs))
members_decide es fs = Decides-at _ _ (members_eq es fs) (equality_decides (json.Object es) (json.Object fs))

data_eq : (a b : Option (List Member)) → option_eq (same_pairs values.ghosts.eq) a b ≡ values.ghosts.eq (data_value a) (data_value b)
data_eq None None = sym (values.Laws.is _ _ ∙ search (rules, the_lemmas))
data_eq None (Some fs) = sym (values.Laws.is _ _ ∙ search (rules, the_lemmas))
data_eq (Some es) None = sym (values.Laws.is _ _ ∙ search (rules, the_lemmas))
data_eq (Some es) (Some fs) = members_eq es fs

data_decides : (a b : Option (List Member)) → Decides (option_eq (same_pairs values.ghosts.eq) a b) (Same (data_value a) (data_value b))
data_decides a b = Decides-at _ _ (data_eq a b) (equality_decides (data_value a) (data_value b))

-- ---- errors and responses

pub error_decides : (a b : GraphQLError) → Decides (errors.ghosts.eq a b) (IsSameError a b)
error_decides a b =
    Decides-like _
    (λ h. record { message = h.0; locations = h.1.0; path = h.1.1.0; extensions = h.1.1.1 })
    (λ same. (same.message, (same.locations, (same.path, same.extensions))))
    (Decides-and _ _ (bytes_eq-Decides a.message b.message)
    (Decides-and _ _ (slice_eq-Decides location_decides a.locations b.locations _ refl)
    (Decides-and _ _ (path_decides a.path b.path) (members_decide a.extensions b.extensions))))

errors_decide : (xs ys : List GraphQLError) → Decides (pointwise errors.ghosts.eq xs ys) (AreSameErrors xs ys)
errors_decide [] [] = (λ e. tt, λ e. refl)
errors_decide [] (y ∷ ys) = (λ e. absurd (cc), λ e. absurd e)
errors_decide (x ∷ xs) [] = (λ e. absurd (cc), λ e. absurd e)
errors_decide (x ∷ xs) (y ∷ ys) = Decides-and _ _ (error_decides x y) (errors_decide xs ys)

pub response_decides : (a b : ExecutionResponse) → Decides (responses.ghosts.eq a b) (IsSameResponse a b)
response_decides a b =
    Decides-like _ (λ h. record { errors = h.0; root = h.1 }) (λ same. (same.errors, same.root))
    (Decides-and _ _ (errors_decide a.errors b.errors) (data_decides a.root b.root))
