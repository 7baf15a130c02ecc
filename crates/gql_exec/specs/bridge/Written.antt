-- Texts of lists and objects that are being written: RFC 8259, without white space.
use Rattle.std.specs.Prelude.{◌≡◌, ℕ, Bool, true, false, List, [], ◌∷◌, ◌++◌, map, length, codes}
use Rattle.jb_tree.specs.declared.value.Value.{Value}
use Rattle.jb_print.specs.Compact.{compact}
use Rattle.jb_print.specs.bridge.Pieces.{comma_after, pieces_text, member_piece}
use Rattle.jb_print.specs.Quoted.{quoted}
use Rattle.gql_resolvers.specs.Execute.{Member}
use Rattle.gql_exec.specs.declared.text_output.OpenList.{OpenList}
use Rattle.gql_exec.specs.declared.text_output.OpenObject.{OpenObject}

-- each piece with a comma behind it
abbrev pub with_commas : List (List ℕ) → List ℕ
with_commas [] = []
with_commas (piece ∷ pieces) = piece ++ (codes "," ++ with_commas pieces)

-- a list that is still open: each item has a comma behind it
abbrev pub list_text : List Value → List ℕ
list_text values = codes "[" ++ with_commas (map compact values)

-- an object that is still open: each member but the first has a comma before it
abbrev pub object_text : List Member → List ℕ
object_text members = codes "{" ++ pieces_text false (map member_piece members)

abbrev pub has_some : {A : Type 0} → List A → Bool
has_some [] = false
has_some (x ∷ xs) = true

-- what is written since the one text is a list that is open
pub record IsOpenList (start before : List ℕ) (list : OpenList) (values : List Value) : Type 0 where
  pub begins : list.start ≡ length start
  pub text : before ≡ start ++ list_text values

-- or an object
pub record IsOpenObject (start before : List ℕ) (object : OpenObject) (members : List Member) : Type 0 where
  pub begins : object.start ≡ length start
  pub later : object.later ≡ has_some members
  pub text : before ≡ start ++ object_text members

-- and behind it the key of a further member
pub record IsKeyed (start before : List ℕ) (object : OpenObject) (members : List Member) (key : List ℕ) : Type 0 where
  pub begins : object.start ≡ length start
  pub later : object.later ≡ has_some members
  pub last : object.last ≡ length (start ++ object_text members)
  pub text : before ≡ (start ++ object_text members) ++ (comma_after (has_some members) ++ (quoted key ++ codes ":"))
