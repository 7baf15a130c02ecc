-- What a list of objects means.
use Rattle.std.proofs.Common.{◌≡◌, List, [], ◌∷◌, map, Ok, refl, ap, sym, ◌∙◌}
use Rattle.gql_resolvers.specs.Resolved.{Meaning, gives_object, gives_list, answer_then}
use Rattle.gql_resolvers.proofs.Views.{meaning_list}
use Rattle.gql_resolvers.specs.Meaning.{meaning_by, meanings_by, meaning_step}
use Rattle.gql_resolvers.specs.Objects.{each_object, gives_objects, list_of_objects}
use Rattle.gql_resolvers.specs.declared.resolved_value.ResolvedValue.{fold-roll-ResolvedValue}
use Rattle.gql_resolvers.specs.declared.resolved_value.ResolvedValue as value
use Rattle.gql_resolvers.specs.declared.resolved_value.ResolvedValue.TheVariants.{rolls-Object}
use Rattle.gql_resolvers.specs.declared.resolved_value.ResolvedValue.TheOpen as layer

meaning-object : {O X : Type 0} (see : O → X) (o : O) → meaning_by see (value.Object o) ≡ gives_object (see o)
meaning-object {O} {X} see o =
    ap (meaning_by see) (sym (rolls-Object o)) ∙ fold-roll-ResolvedValue O (Meaning X) (meaning_step see) (layer.Object o)

meanings-are : {O X : Type 0} (see : O → X) (os : List O)
    → meanings_by see (map (λ o. Ok (value.Object o)) os) ≡ each_object (map see os)
meanings-are see [] = refl
meanings-are see (o ∷ os) =
    ap (λ m. answer_then m (meanings_by see (map (λ o. Ok (value.Object o)) os))) (meaning-object see o)
    ∙ ap (answer_then (gives_object (see o))) (meanings-are see os)

pub objects-mean : {O X : Type 0} (see : O → X) (os : List O) → meaning_by see (list_of_objects os) ≡ gives_objects (map see os)
objects-mean see os = meaning_list see (map (λ o. Ok (value.Object o)) os) ∙ ap gives_list (meanings-are see os)
