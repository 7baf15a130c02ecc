-- The items of a list that is made.
use Rattle.std.specs.Prelude.{List, map}
use Rattle.gql_resolvers.specs.Resolved.{Meaning}
use Rattle.gql_resolvers.specs.Meaning.{item_by}
use Rattle.gql_introspection.specs.Meta.{Meta}
use Rattle.gql_introspection.specs.Seen.{stands_for}
use Rattle.gql_introspection.specs.declared.items.Items.{Items}

abbrev pub answers_in : Items → List (Meaning Meta)
answers_in items = map (item_by stands_for) items.held
