-- What the objects of the tests answer (GraphQL October 2021, section 6.4.2).
use Rattle.std.specs.Prelude.{ℕ, List, true, codes, pos}
use Rattle.jb_tree.specs.declared.value.Value.TheVariants as json
use Rattle.gql_resolvers.specs.Resolved.{Meaning, gives_leaf, gives_object, gives_list, gives_skip, fails_with, no_answer, answer_then}
use Rattle.gql_resolvers.specs.UnknownField.{unknown_field}
use Rattle.tests_requests.specs.declared.sample.Kind.{Kind}
use Rattle.tests_requests.specs.declared.sample.Kind.TheVariants as kind
use Rattle.tests_requests.specs.declared.sample.Sample.{Sample}
use Rattle.tests_requests.specs.declared.sample.Sample.TheVariants as sample

-- the name of a type
abbrev pub name_of : Kind → List ℕ
name_of kind.Other = codes "Other"
name_of kind.Leaf = codes "Leaf"
name_of kind.Narrow = codes "Narrow"
name_of kind.Node = codes "Node"
name_of kind.Stranger = codes "Stranger"

-- the name of an object's type
abbrev pub type_of : Sample → List ℕ
type_of (sample.Of k) = name_of k
type_of sample.Curious = codes "Leaf"
type_of _ = codes "Other"

abbrev pub number : ℕ → Meaning Sample
number n = gives_leaf (json.Number (pos n))

abbrev pub word : Meaning Sample
word = gives_leaf (json.String (codes "no"))

abbrev pub failure : Meaning Sample
failure = fails_with (codes "!")

-- a number, a gap and a text
abbrev pub gaps : Meaning Sample
gaps = gives_list (answer_then (number 7) (answer_then gives_skip (answer_then word no_answer)))

-- a number and a failure
abbrev pub breaks : Meaning Sample
breaks = gives_list (answer_then (number 7) (answer_then failure no_answer))

-- null, an object and an empty list
abbrev pub mixed : Meaning Sample
mixed = gives_list (answer_then (gives_leaf json.Null) (answer_then (gives_object (sample.Of kind.Other)) (answer_then (gives_list no_answer) no_answer)))

-- each field of an object is the same
abbrev pub gives : List ℕ → Sample → Meaning Sample
gives name sample.Null = gives_leaf json.Null
gives name sample.Truth = gives_leaf (json.Bool true)
gives name (sample.Number n) = number n
gives name sample.Word = word
gives name (sample.Of k) = number 1
gives name (sample.Holds k) = gives_object (sample.Of k)
gives name sample.Asks = gives_object sample.Curious
gives name sample.Empty = gives_list no_answer
gives name sample.Gaps = gaps
gives name sample.Breaks = breaks
gives name sample.Mixed = mixed
gives name sample.Skips = gives_skip
gives name sample.Fails = failure
gives name sample.Unknowing = fails_with (unknown_field name (codes "Other"))
gives name sample.Forgets = gives_skip
gives name sample.Curious = number 7
