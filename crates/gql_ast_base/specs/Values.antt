-- What a concrete tree stands for as a value: section 2.9 of GraphQL October 2021.
use Rattle.std.specs.Prelude.{Bool, true, false, if◌then◌else◌, List, [], ◌++◌, option_to_list, Option, Some, None, option_and_then, codes}
use Rattle.std.specs.Option.{option_map}
use Rattle.std.specs.List.{list_any}
use Rattle.std.specs.Str.{bytes_eq}
use Rattle.gql_source.specs.declared.file_id.FileId.{FileId}
use Rattle.gql_ast_base.specs.Forest.{Forest, Plain, nothing, tree_then}
use Rattle.gql_ast_base.specs.SyntaxKind.TheVariants as kind
use Rattle.gql_ast_base.specs.Names.{Named}
use Rattle.gql_ast_base.specs.declared.value.Value.{Value}
use Rattle.gql_ast_base.specs.declared.value.ValueKind.{ValueKind, List as ListKind, Object as ObjectKind}
use Rattle.gql_ast_base.specs.declared.value.ValueKind.TheVariants.{Null, Variable, Int, Float, String, Boolean, Enum}
use Rattle.gql_ast_base.specs.Kinds.{is_kind}
use Rattle.gql_ast_base.specs.Literals.{opens_string, string_text, opens_number, has_part}
use Rattle.gql_ast_base.specs.Parts.{Text, head, first, inside, token_text, nth_name, nth_text, location}

-- the number that a token is
abbrev pub number_kind : Text → ValueKind
number_kind token = if list_any has_part token then Float token else Int token

-- the value that a token is, if it is a number or a string
unfoldable pub literal : Text → Option ValueKind
literal token =
    if opens_string token then Some (String (string_text token))
    else if opens_number token then Some (number_kind token)
    else None

-- the truth value of a word
abbrev pub truth : Text → Option Bool
truth found = if bytes_eq found (codes "true") then Some true else if bytes_eq found (codes "false") then Some false else None

-- a number or a string
abbrev pub token_content : Text → Plain → Option ValueKind
token_content text tree = option_and_then literal (token_text text tree)

-- `true` or `false`
abbrev pub boolean_content : Text → Forest → Option ValueKind
boolean_content text row = option_map Boolean (option_and_then truth (nth_text text 0 row))

module _ (text : Text) (file : FileId) where
  -- the content of a value that holds no others
  unfoldable pub simple_content : Plain → Option ValueKind
  simple_content tree =
      if is_kind tree.kind kind.Token then token_content text tree
      else if is_kind tree.kind kind.Variable then option_map Variable (nth_name text file 0 tree.children)
      else if is_kind tree.kind kind.BooleanValue then boolean_content text tree.children
      else if is_kind tree.kind kind.NullValue then Some Null
      else if is_kind tree.kind kind.EnumValue then option_map Enum (nth_name text file 0 tree.children)
      else None

  -- the content of a value, where `items` and `pairs` are the values and the pairs right below it
  unfoldable pub content_step : Plain → List Value → List (Named × Value) → Option ValueKind
  content_step tree items pairs =
      if is_kind tree.kind kind.ListValue then Some (ListKind items)
      else if is_kind tree.kind kind.ObjectValue then Some (ObjectKind pairs)
      else simple_content tree

  -- a pair of an object: a name and a value
  abbrev pub pair_of : Option Named → Option Value → Option (Named × Value)
  pair_of name value = option_and_then (λ given. option_map (λ found. (found, given)) name) value

  unfoldable pub member_step : Plain → List Value → Option (Named × Value)
  member_step tree items =
      if is_kind tree.kind kind.ObjectField then pair_of (nth_name text file 0 tree.children) (head items) else None

  -- a value is what the first of its parts is, with the place of the whole
  unfoldable pub value_step : Plain → List ValueKind → Option Value
  value_step tree parts =
      if is_kind tree.kind kind.Value then option_map (λ found. record { kind = found; location = location file tree }) (head parts) else None

  abbrev mutual
    -- the values among the trees of a row
    pub values : Forest → List Value
    values nothing = []
    values (tree_then k start end children rest) =
        option_to_list (value_step (record { kind = k; start = start; end = end; children = children }) (contents children)) ++ values rest

    -- the contents of values among them
    pub contents : Forest → List ValueKind
    contents nothing = []
    contents (tree_then k start end children rest) =
        option_to_list (content_step (record { kind = k; start = start; end = end; children = children }) (values children) (members children)) ++ contents rest

    -- the pairs of objects among them
    pub members : Forest → List (Named × Value)
    members nothing = []
    members (tree_then k start end children rest) =
        option_to_list (member_step (record { kind = k; start = start; end = end; children = children }) (values children)) ++ members rest

  -- the value that a tree stands for
  abbrev pub value_of : Plain → Option Value
  value_of tree = value_step tree (contents tree.children)

  -- the kind of that value
  abbrev pub kind_of : Plain → Option ValueKind
  kind_of tree = if is_kind tree.kind kind.Value then head (contents tree.children) else None

  -- the value that stands when none is given
  unfoldable pub default_value : Forest → Option Value
  default_value row = first value_of (inside kind.DefaultValue row)
