-- What only private clauses and proofs cite, beside `Nodes`.
use Rattle.std.specs.Prelude.{List, ◌∷◌}
use Rattle.gql_ast_base.specs.Names.{Named}
use Rattle.gql_document_types.specs.declared.selection.Field.{Field}
use Rattle.gql_document_types.specs.declared.selection.InlineFragment.{InlineFragment}
use Rattle.gql_rules_nodes.specs.Nodes.{Node, field, inline_fragment, is_nonempty, set_nodes}

abbrev pub field_at : Named → Field → Node
field_at parent it = field (record {
  parent = parent;
  alias = it.alias;
  name = it.name;
  arguments = it.arguments;
  directives = it.directives;
  selects = is_nonempty it.selection_set.selections;
  location = it.location;
  definition = it.definition;
})

abbrev pub inline_at : Named → InlineFragment → Node
inline_at parent it =
    inline_fragment (record { parent = parent; type_condition = it.type_condition; directives = it.directives; location = it.location })

-- those of one field, and of one inline fragment
abbrev pub field_nodes : Named → Field → List Node
field_nodes parent it = field_at parent it ∷ set_nodes it.selection_set

abbrev pub inline_nodes : Named → InlineFragment → List Node
inline_nodes parent it = inline_at parent it ∷ set_nodes it.selection_set
