-- What a resolver answers (GraphQL October 2021, section 6.4.2), whatever memory does.
use Rattle.std.specs.Prelude.{◌≡◌, ℕ, List, [], ◌∷◌, Result, Ok, Err}
use Rattle.jb_tree.specs.declared.value.Value.{Value}
use Rattle.gql_resolvers.specs.Resolved.{Meaning, Meanings, gives_leaf, gives_object, gives_list, gives_skip, fails_with, no_answer, answer_then}
use Rattle.gql_resolvers.specs.declared.resolve_error.FieldError.{FieldError}
use Rattle.gql_resolvers.specs.declared.resolve_error.ResolveError.{ResolveError}
use Rattle.gql_resolvers.specs.declared.resolve_error.ResolveError.TheVariants.{Field, Memory}
use Rattle.gql_resolvers.specs.declared.resolved_value.ResolvedValue.{ResolvedValue, fold-ResolvedValue}
use Rattle.gql_resolvers.specs.declared.resolved_value.ResolvedValue.TheOpen as layer
use Rattle.gql_resolvers.specs.declared.resolved_value.ResolvedValue.TheOpen.{ResolvedValue-F}

-- the values of arguments, by their names
abbrev pub Members : Type 0
Members = List (List ℕ × Value)

-- an object that contracts see as it is
abbrev pub itself : {O : Type 0} → O → O
itself object = object

abbrev pub item_meaning : {X : Type 0} → Result (Meaning X) FieldError → Meaning X
item_meaning (Ok m) = m
item_meaning (Err e) = fails_with e.message

abbrev pub meanings_from : {X : Type 0} → List (Result (Meaning X) FieldError) → Meanings X
meanings_from [] = no_answer
meanings_from (r ∷ rs) = answer_then (item_meaning r) (meanings_from rs)

abbrev pub meaning_step : {O X : Type 0} → (O → X) → ResolvedValue-F O (Meaning X) → Meaning X
meaning_step see (layer.Leaf v) = gives_leaf v
meaning_step see (layer.Object o) = gives_object (see o)
meaning_step see (layer.List items) = gives_list (meanings_from items)
meaning_step see layer.SkipForPartialExecution = gives_skip

-- what a resolved value means, whose objects are seen in this way
abbrev pub meaning_by : {O X : Type 0} → (O → X) → ResolvedValue O → Meaning X
meaning_by {O} {X} see = fold-ResolvedValue O (Meaning X) (meaning_step see)

-- what an item of a list means
abbrev pub item_by : {O X : Type 0} → (O → X) → Result (ResolvedValue O) FieldError → Meaning X
item_by see (Ok r) = meaning_by see r
item_by see (Err e) = fails_with e.message

abbrev pub meanings_by : {O X : Type 0} → (O → X) → List (Result (ResolvedValue O) FieldError) → Meanings X
meanings_by see [] = no_answer
meanings_by see (r ∷ rs) = answer_then (item_by see r) (meanings_by see rs)

-- a resolver's answer is this meaning, or it ran out of memory
abbrev pub Answers : {O X : Type 0} → (O → X) → Result (ResolvedValue O) ResolveError → Meaning X → Type 0
Answers see (Ok resolved) meaning = meaning ≡ meaning_by see resolved
Answers see (Err (Field error)) meaning = meaning ≡ fails_with error.message
Answers see (Err Memory) meaning = Unit {0}
