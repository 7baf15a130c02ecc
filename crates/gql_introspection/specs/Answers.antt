-- Leaves and lists that introspection answers with.
use Rattle.std.specs.Prelude.{ℕ, Bool, List, [], ◌∷◌, map, Option, Some, None}
use Rattle.jb_tree.specs.declared.value.Value.TheVariants as json
use Rattle.gql_resolvers.specs.Resolved.{Meaning, Meanings, gives_leaf, gives_object, gives_list, no_answer, answer_then}
use Rattle.gql_introspection.specs.Meta.{Meta}

abbrev pub null_leaf : Meaning Meta
null_leaf = gives_leaf json.Null

abbrev pub text_leaf : List ℕ → Meaning Meta
text_leaf text = gives_leaf (json.String text)

abbrev pub truth_leaf : Bool → Meaning Meta
truth_leaf truth = gives_leaf (json.Bool truth)

abbrev pub text_or_null : Option (List ℕ) → Meaning Meta
text_or_null (Some text) = text_leaf text
text_or_null None = null_leaf

abbrev pub all_of : List (Meaning Meta) → Meanings Meta
all_of [] = no_answer
all_of (answer ∷ answers) = answer_then answer (all_of answers)

-- a list of these
abbrev pub list_of : List (Meaning Meta) → Meaning Meta
list_of answers = gives_list (all_of answers)

abbrev pub objects : List Meta → Meaning Meta
objects xs = list_of (map gives_object xs)

abbrev pub texts : List (List ℕ) → Meaning Meta
texts ts = list_of (map text_leaf ts)
