-- What a concrete tree stands for as a selection: sections 2.4, 2.5 and 2.8 of GraphQL October 2021.
use Rattle.std.specs.Prelude.{if◌then◌else◌, List, [], ◌++◌, option_to_list, Option, None}
use Rattle.std.specs.Option.{option_map}
use Rattle.gql_source.specs.declared.file_id.FileId.{FileId}
use Rattle.gql_ast_base.specs.Forest.{Forest, Plain, nothing, tree_then}
use Rattle.gql_ast_base.specs.SyntaxKind.TheVariants as kind
use Rattle.gql_ast_base.specs.Names.{Named}
use Rattle.gql_ast.specs.declared.selection.Field.{Field}
use Rattle.gql_ast.specs.declared.selection.FragmentSpread.{FragmentSpread}
use Rattle.gql_ast.specs.declared.selection.InlineFragment.{InlineFragment}
use Rattle.gql_ast.specs.declared.selection.Selection.{Selection, Field as a_field, InlineFragment as an_inline_fragment}
use Rattle.gql_ast.specs.declared.selection.Selection.TheVariants.{FragmentSpread as a_spread}
use Rattle.gql_ast_base.specs.Kinds.{is_kind}
use Rattle.gql_ast_base.specs.Directives.{arguments, directives}
use Rattle.gql_ast_base.specs.Parts.{Text, head, inside, child, nth_name, location}
use Rattle.gql_ast_base.specs.NamedTypes.{named_type_in}

module _ (text : Text) (file : FileId) where
  -- the type that a fragment is on
  unfoldable pub type_condition : Forest → Option Named
  type_condition row = named_type_in text file (inside kind.TypeCondition row)

  abbrev pub alias : Forest → Option Named
  alias row = nth_name text file 0 (inside kind.Alias row)

  -- `...` and a name, and directives or none
  unfoldable pub spread_of : Plain → Option FragmentSpread
  spread_of tree =
      if is_kind tree.kind kind.FragmentSpread then
      option_map (λ name. record { fragment_name = name; directives = directives text file tree.children; location = location file tree })
      (nth_name text file 0 (inside kind.FragmentName tree.children))
      else None

  -- an alias or none, a name, and arguments, directives and selections or none, where `selected` are the selections
  unfoldable pub field_step : Plain → List Selection → Option Field
  field_step tree selected =
      if is_kind tree.kind kind.Field then
      option_map (λ name. record {
        alias = alias tree.children;
        name = name;
        arguments = arguments text file tree.children;
        directives = directives text file tree.children;
        selection_set = selected;
        location = location file tree;
      }) (nth_name text file 0 tree.children)
      else None

  -- `...`, a type or none, directives or none, and selections, where `selected` are the selections
  unfoldable pub inline_step : Plain → List Selection → Option InlineFragment
  inline_step tree selected =
      if is_kind tree.kind kind.InlineFragment then
      option_map (λ _. record {
        type_condition = type_condition tree.children;
        directives = directives text file tree.children;
        selection_set = selected;
        location = location file tree;
      }) (child kind.SelectionSet tree.children)
      else None

  -- one way to select
  unfoldable pub choice_step : Plain → List Selection → Option Selection
  choice_step tree selected =
      if is_kind tree.kind kind.Field then option_map a_field (field_step tree selected)
      else if is_kind tree.kind kind.FragmentSpread then option_map a_spread (spread_of tree)
      else option_map an_inline_fragment (inline_step tree selected)

  -- a selection is what the first of its parts is
  unfoldable pub selection_step : Plain → List Selection → Option Selection
  selection_step tree choices = if is_kind tree.kind kind.Selection then head choices else None

  abbrev mutual
    -- the selections among the trees of a row
    pub selections : Forest → List Selection
    selections nothing = []
    selections (tree_then k start end children rest) =
        option_to_list (selection_step (record { kind = k; start = start; end = end; children = children }) (choices children)) ++ selections rest

    -- the ways to select among them
    pub choices : Forest → List Selection
    choices nothing = []
    choices (tree_then k start end children rest) =
        option_to_list (choice_step (record { kind = k; start = start; end = end; children = children }) (selected children)) ++ choices rest

    -- the selections in the first selection set among them
    pub selected : Forest → List Selection
    selected nothing = []
    selected (tree_then k start end children rest) =
        if is_kind k kind.SelectionSet then selections children else selected rest

  -- what one tree stands for
  abbrev pub selection_of : Plain → Option Selection
  selection_of tree = selection_step tree (choices tree.children)

  abbrev pub field_of : Plain → Option Field
  field_of tree = field_step tree (selected tree.children)

  abbrev pub inline_fragment_of : Plain → Option InlineFragment
  inline_fragment_of tree = inline_step tree (selected tree.children)
