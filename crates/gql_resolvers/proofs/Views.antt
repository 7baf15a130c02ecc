-- What a list of answers means, by the meanings of its items.
use Rattle.std.proofs.Common.{◌≡◌, List, [], ◌∷◌, refl, ap, sym, ◌∙◌, Result, Ok, Err}
use Rattle.gql_resolvers.specs.Resolved.{Meaning, Meanings, gives_leaf, gives_object, gives_skip, no_answer, gives_list, answer_then, fails_with}
use Rattle.gql_resolvers.specs.declared.resolve_error.FieldError.{FieldError}
use Rattle.gql_resolvers.specs.declared.resolved_value.ResolvedValue.{ResolvedValue, fold-roll-ResolvedValue}
use Rattle.gql_resolvers.specs.declared.resolved_value.ResolvedValue as value
use Rattle.gql_resolvers.specs.declared.resolved_value.ResolvedValue.TheVariants.{rolls-List}
use Rattle.gql_resolvers.specs.declared.resolved_value.ResolvedValue.TheOpen as layer
use Rattle.gql_resolvers.specs.Meaning.{meaning_by, meanings_by, meaning_step}

abbrev answers_in : {X : Type 0} → Meaning X → Meanings X
answers_in (gives_list ms) = ms
answers_in (gives_leaf v) = no_answer
answers_in (gives_object x) = no_answer
answers_in gives_skip = no_answer
answers_in (fails_with text) = no_answer

step_list : {O X : Type 0} (see : O → X) (items : List (Result (ResolvedValue O) FieldError))
    → meaning_step see (value.map-ResolvedValue O (ResolvedValue O) (Meaning X) (meaning_by see) (layer.List items)) ≡ gives_list (meanings_by see items)
step_list see [] = refl
step_list see (Ok r ∷ rs) = ap (λ m. gives_list (answer_then (meaning_by see r) (answers_in m))) (step_list see rs)
step_list see (Err e ∷ rs) = ap (λ m. gives_list (answer_then (fails_with e.message) (answers_in m))) (step_list see rs)

pub meaning_list : {O X : Type 0} (see : O → X) (items : List (Result (ResolvedValue O) FieldError)) → meaning_by see (value.List items) ≡ gives_list (meanings_by see items)
meaning_list {O} {X} see items =
    ap (meaning_by see) (sym (rolls-List items)) ∙ fold-roll-ResolvedValue O (Meaning X) (meaning_step see) (layer.List items) ∙ step_list see items
