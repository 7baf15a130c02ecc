-- What a resolver answers, whose objects stand as others.
use Rattle.gql_resolvers.specs.Resolved.{Meaning, Meanings, gives_leaf, gives_object, gives_list, gives_skip, fails_with, no_answer, answer_then}

module _ {X Y : Type 0} (stands : X → Y) where
  abbrev mutual
    pub mapped : Meaning X → Meaning Y
    mapped (gives_leaf v) = gives_leaf v
    mapped (gives_object x) = gives_object (stands x)
    mapped (gives_list ms) = gives_list (all_mapped ms)
    mapped gives_skip = gives_skip
    mapped (fails_with text) = fails_with text

    pub all_mapped : Meanings X → Meanings Y
    all_mapped no_answer = no_answer
    all_mapped (answer_then m ms) = answer_then (mapped m) (all_mapped ms)
