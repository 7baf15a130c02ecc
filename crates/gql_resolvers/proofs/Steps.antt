-- Steps of paths, by their parts.
use Rattle.std.proofs.Common.{ℕ, List, [], ◌∷◌, ◌++◌, ◌≡◌, map, refl, ap}
use Rattle.gql_response.specs.declared.path.ResponseDataPathSegment.TheVariants.{Field, ListIndex}
use Rattle.gql_resolvers.specs.Trail.{Segment}

abbrev pub index_of : Segment → ℕ
index_of (Field name) = 0
index_of (ListIndex i) = i

abbrev pub text_of : Segment → List ℕ
text_of (Field name) = name.text
text_of (ListIndex i) = []

pub map_joined : {A B : Type 0} (f : A → B) (xs ys : List A) → map f (xs ++ ys) ≡ map f xs ++ map f ys
map_joined f [] ys = refl
map_joined f (x ∷ xs) ys = ap (λ l. f x ∷ l) (map_joined f xs ys)
