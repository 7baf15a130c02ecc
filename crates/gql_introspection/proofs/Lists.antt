-- What a list of answers means, by what each item means, and lists that grow item by item.
use Rattle.std.proofs.Common.{◌≡◌, List, [], ◌∷◌, map, Result, refl, ap, ◌∙◌}
use Rattle.gql_resolvers.specs.Resolved.{answer_then, gives_list}
use Rattle.gql_resolvers.proofs.Views.{meaning_list}
use Rattle.gql_resolvers.specs.Meaning.{meaning_by, item_by, meanings_by}
use Rattle.gql_resolvers.specs.declared.resolve_error.FieldError.{FieldError}
use Rattle.gql_resolvers.specs.declared.resolved_value.ResolvedValue.{ResolvedValue}
use Rattle.gql_resolvers.specs.declared.resolved_value.ResolvedValue as value
use Rattle.gql_introspection.specs.Answers.{all_of, list_of}
use Rattle.gql_introspection.specs.Meta.{Meta}
use Rattle.gql_introspection.specs.Seen.{stands_for}
use Rattle.gql_introspection.specs.declared.meta_object.MetaObject.{MetaObject}

meanings-are : (items : List (Result (ResolvedValue MetaObject) FieldError)) → meanings_by stands_for items ≡ all_of (map (item_by stands_for) items)
meanings-are [] = refl
meanings-are (i ∷ is) = ap (answer_then (item_by stands_for i)) (meanings-are is)

pub list-means : (items : List (Result (ResolvedValue MetaObject) FieldError))
    → meaning_by stands_for (value.List items) ≡ list_of (map (item_by stands_for) items)
list-means items = meaning_list stands_for items ∙ ap gives_list (meanings-are items)
