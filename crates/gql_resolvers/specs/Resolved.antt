-- What resolvers answer, whatever memory does: section 6.4.2 of GraphQL October 2021.
use Rattle.std.specs.Prelude.{ℕ, Bool, List, Option}
use Rattle.jb_tree.specs.declared.value.Value.{Value}
use Rattle.gql_source.specs.Span.{Span}

mutual
  -- a leaf, an object, a list of answers, a value to be left out, or a failure with its text
  pub data Meaning (X : Type 0) : Type 0 where
    gives_leaf : Value → Meaning X
    gives_object : X → Meaning X
    gives_list : Meanings X → Meaning X
    gives_skip : Meaning X
    fails_with : List ℕ → Meaning X

  pub data Meanings (X : Type 0) : Type 0 where
    no_answer : Meanings X
    answer_then : Meaning X → Meanings X → Meanings X

-- what is wrong with an answer: a message, and whether validation should have found it
pub record Misfit : Type 0 where
  pub message : List ℕ
  pub marked : Bool

-- the same with the place in a document where it is told, if there is one
pub record Fault : Type 0 where
  pub message : List ℕ
  pub span : Option Span
  pub marked : Bool

-- what comes of a place: its resolver's answer, or why that wasn't asked
pub data Outcome (X : Type 0) : Type 0 where
  answered : Meaning X → Outcome X
  refused : Fault → Outcome X
