-- The text of a value: section 2.9 of GraphQL October 2021, with one space behind each comma and colon.
use Rattle.std.specs.Prelude.{ℕ, true, false, List, ◌++◌, map, codes}
use Rattle.std.specs.List.{join_by}
use Rattle.jb_print.specs.Quoted.{quoted}
use Rattle.gql_ast_base.specs.declared.value.Value.{Value}
use Rattle.gql_ast_base.specs.declared.value.ValueKind.{ValueKind, fold-ValueKind}
use Rattle.gql_ast_base.specs.declared.value.ValueKind.TheOpen.{ValueKind-F, Value-F}

-- the texts with `, ` between them
abbrev pub separated : List (List ℕ) → List ℕ
separated = join_by (λ text. text) (codes ", ")

-- one level, with the text of each value inside in its place
abbrev pub kind_step : ValueKind-F (List ℕ) (List ℕ) → List ℕ
kind_step ValueKind-F.Null = codes "null"
kind_step (ValueKind-F.Variable name) = codes "$" ++ name.text
kind_step (ValueKind-F.Int number) = number
kind_step (ValueKind-F.Float number) = number
kind_step (ValueKind-F.String text) = quoted text
kind_step (ValueKind-F.Boolean true) = codes "true"
kind_step (ValueKind-F.Boolean false) = codes "false"
kind_step (ValueKind-F.Enum name) = name.text
kind_step (ValueKind-F.List items) = codes "[" ++ separated items ++ codes "]"
kind_step (ValueKind-F.Object members) = codes "{" ++ separated (map (λ member. member.0.text ++ codes ": " ++ member.1) members) ++ codes "}"

-- a value is written as what it is
abbrev pub value_step : Value-F (List ℕ) (List ℕ) → List ℕ
value_step value = value.kind

abbrev pub kind_text : ValueKind → List ℕ
kind_text = fold-ValueKind (List ℕ) (List ℕ) kind_step value_step

abbrev pub value_text : Value → List ℕ
value_text value = kind_text value.kind
