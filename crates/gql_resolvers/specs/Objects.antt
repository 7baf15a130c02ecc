-- Lists of objects, as resolvers answer with them.
use Rattle.std.specs.Prelude.{List, [], ◌∷◌, map, Ok}
use Rattle.gql_resolvers.specs.Resolved.{Meaning, Meanings, gives_object, gives_list, no_answer, answer_then}
use Rattle.gql_resolvers.specs.declared.resolved_value.ResolvedValue.{ResolvedValue}
use Rattle.gql_resolvers.specs.declared.resolved_value.ResolvedValue.TheVariants as value

-- the list of these, none of which failed
abbrev pub list_of_objects : {O : Type 0} → List O → ResolvedValue O
list_of_objects objects = value.List (map (λ o. Ok (value.Object o)) objects)

abbrev pub each_object : {X : Type 0} → List X → Meanings X
each_object [] = no_answer
each_object (x ∷ xs) = answer_then (gives_object x) (each_object xs)

-- what it means, where its objects are seen as these
abbrev pub gives_objects : {X : Type 0} → List X → Meaning X
gives_objects xs = gives_list (each_object xs)
