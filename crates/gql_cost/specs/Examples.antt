-- Small queries, to see what the definitions say of them.
use Rattle.std.specs.Prelude.{ℕ, List, [], ◌∷◌, None, codes, pos}
use Rattle.jb_tree.specs.declared.value.Value.{Value}
use Rattle.jb_tree.specs.declared.value.Value.TheVariants as json
use Rattle.gql_ast_base.specs.TypeParts.{named_type}
use Rattle.gql_ast_base.specs.declared.type_ref.TypeRef.{TypeRef}
use Rattle.gql_ast_base.specs.declared.type_ref.TypeRef.TheVariants as ty
use Rattle.gql_document_types.specs.declared.fragment.Fragment.{Fragment}
use Rattle.gql_document_types.specs.declared.selection.Field.{Field}
use Rattle.gql_document_types.specs.declared.selection.FragmentSpread.{FragmentSpread}
use Rattle.gql_document_types.specs.declared.selection.Selection.{Selection}
use Rattle.gql_document_types.specs.declared.selection.Selection.TheVariants as selection
use Rattle.gql_resolvers.specs.Resolved.{Meaning, gives_leaf, gives_list, gives_skip, no_answer, answer_then}
use Rattle.gql_schema_types.specs.MetaFields.{named, field}

abbrev pub int : TypeRef
int = ty.Named (named (codes "Int"))

-- a field of this name and type, with what is selected below it
abbrev pub selected : List ℕ → TypeRef → List Selection → Field
selected name type below = record {
  alias = None;
  name = named name;
  arguments = [];
  directives = [];
  selection_set = record { ty = named_type type; selections = below };
  location = None;
  definition = field name [] type;
}

abbrev pub select : List ℕ → TypeRef → List Selection → Selection
select name type below = selection.Field (selected name type below)

-- { a { y x } } of type Query { a: A } type A { x: Int! y: Int }
abbrev pub of_objects : List Selection
of_objects =
    select (codes "a") (ty.Named (named (codes "A")))
    (select (codes "y") int [] ∷ select (codes "x") (ty.NonNullNamed (named (codes "Int"))) [] ∷ []) ∷ []

-- { f } of type Query { f: [[Int]] }
abbrev pub of_lists : List Selection
of_lists = select (codes "f") (ty.List (ty.List int)) [] ∷ []

-- ...F
abbrev pub spread_field : FragmentSpread
spread_field = record { fragment_name = named (codes "F"); directives = []; location = None }

abbrev pub spread : Selection
spread = selection.FragmentSpread spread_field

-- fragment F on Query { f }
abbrev pub fragments : List Fragment
fragments =
    record {
      name = named (codes "F");
      selection_set = record { ty = named (codes "Query"); selections = select (codes "f") int [] ∷ [] };
      directives = [];
      location = None;
    } ∷ []

-- the list of 7, of what is left out, and of the leaf [1, 2]; and what is made of it
abbrev pub number : ℕ → Value
number n = json.Number (pos n)

abbrev pub pair : Value
pair = json.Array (number 1 ∷ number 2 ∷ [])

abbrev pub answers : {X : Type 0} → Meaning X
answers = gives_list (answer_then (gives_leaf (number 7)) (answer_then gives_skip (answer_then (gives_leaf pair) no_answer)))

abbrev pub made_items : List Value
made_items = number 7 ∷ pair ∷ []

abbrev pub made : Value
made = json.Array made_items
