-- What selections make, and which nodes they are, one by one.
use Rattle.std.proofs.Common.{rules, ◌≡◌, Bool, List, [], ◌∷◌, map, refl, ap, ◌∙◌, if◌then◌else◌}
use Rattle.std.specs.Option.{option_map_or}
use Rattle.gql_ast_base.specs.Names.{Named}
use Rattle.gql_ast.specs.declared.field_definition.FieldDefinition.{FieldDefinition}
use Rattle.gql_ast.specs.declared.selection.Field.{Field}
use Rattle.gql_ast.specs.declared.selection.FragmentSpread.{FragmentSpread}
use Rattle.gql_ast.specs.declared.selection.InlineFragment.{InlineFragment}
use Rattle.gql_ast.specs.declared.selection.Selection.{the_lemmas}
use Rattle.gql_ast.specs.declared.selection.Selection.TheVariants as selection
use Rattle.gql_document.specs.BuiltSelections.{is_selected_leaf, makes_of, set_of, spread_of}
use Rattle.gql_document.specs.bridge.Made as made
use Rattle.gql_document.specs.Nodes.{Node, FieldNode, field, inline_fragment, is_nonempty, is_open, nodes, nodes_below, nodes_of, type_inside}
use Rattle.gql_ast_base.specs.TypeParts.{named_type}
use Rattle.gql_document_types.specs.declared.selection.Selection.{Selection as Built}
use Rattle.gql_document_types.specs.declared.selection.Selection.TheVariants as built
use Rattle.gql_schema_types.specs.Schemas.{field_of}
use Rattle.gql_schema_types.specs.declared.schema.Schema.{Schema}

pub is_nonempty-map : {A B : Type 0} (f : A → B) (xs : List A) → is_nonempty (map f xs) ≡ is_nonempty xs
is_nonempty-map f [] = refl
is_nonempty-map f (x ∷ xs) = refl

-- ---- what is made

-- a field where it is known whether it selects
abbrev with_answer : Schema → Field → Bool → FieldDefinition → List Built
with_answer schema it selects definition =
    if is_selected_leaf schema definition selects then [] else
    built.Field (record {
      alias = it.alias;
      name = it.name;
      arguments = it.arguments;
      directives = it.directives;
      selection_set = set_of (named_type definition.ty) (map (makes_of schema) it.selection_set);
      location = it.location;
      definition = definition;
    }) ∷ []

opened_field : (schema : Schema) (f : Field) (ty : Named)
    → makes_of schema (selection.Field f) ty ≡ option_map_or (with_answer schema f (is_nonempty (map (makes_of schema) f.selection_set))) (field_of schema ty.text f.name.text) []
opened_field schema f ty = search (rules, the_lemmas)

pub made_field : (schema : Schema) (f : Field) (ty : Named) → makes_of schema (selection.Field f) ty ≡ made.field schema f ty
made_field schema f ty =
    opened_field schema f ty
    ∙ ap (λ selects. option_map_or (with_answer schema f selects) (field_of schema ty.text f.name.text) []) (is_nonempty-map (makes_of schema) f.selection_set)

pub made_spread : (schema : Schema) (s : FragmentSpread) (ty : Named) → makes_of schema (selection.FragmentSpread s) ty ≡ spread_of s ∷ []
made_spread schema s ty = search (rules, the_lemmas)

pub made_inline : (schema : Schema) (i : InlineFragment) (ty : Named) → makes_of schema (selection.InlineFragment i) ty ≡ made.inline schema i ty
made_inline schema i ty = search (rules, the_lemmas)

-- ---- the nodes

abbrev pub node_of : Schema → Named → Field → FieldNode
node_of schema ty f = record {
  ty = ty;
  name = f.name;
  definition = field_of schema ty.text f.name.text;
  selects = is_nonempty (map (nodes_of schema) f.selection_set);
  location = f.location;
}

-- those behind it
abbrev pub below_field : Schema → Named → Field → List Node
below_field schema ty f = option_map_or (λ definition. nodes_below schema definition (map (nodes_of schema) f.selection_set)) (field_of schema ty.text f.name.text) []

pub nodes_field : (schema : Schema) (ty : Named) (f : Field) → nodes_of schema (selection.Field f) ty ≡ field (node_of schema ty f) ∷ below_field schema ty f
nodes_field schema ty f = search (rules, the_lemmas)

abbrev pub below_inline : Schema → Named → InlineFragment → List Node
below_inline schema ty i = if is_open schema i.type_condition then nodes schema (type_inside ty i.type_condition) i.selection_set else []

pub nodes_inline : (schema : Schema) (ty : Named) (i : InlineFragment)
    → nodes_of schema (selection.InlineFragment i) ty ≡ inline_fragment i.type_condition ∷ below_inline schema ty i
nodes_inline schema ty i = search (rules, the_lemmas)
