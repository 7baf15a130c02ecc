-- The compact text of a tree spells that tree.
use Rattle.std.proofs.Common.{◌≡◌, ℕ, zero, suc, ◌≤◌, true, false, List, [], ◌∷◌, ◌++◌, ℤ, codes, refl, sym, ap, subst, ◌∙◌, append_assoc, arith}
use Rattle.std.specs.List.{flat_map}
use Rattle.std.specs.Fmt.{signed_decimal}
use Rattle.std.specs.Str.{IsUtf8}
use Rattle.std.proofs.lemmas.Bool.Decides.{nat_tests}
use Rattle.std.proofs.lemmas.List.{append-nil}
use Rattle.jb_tree.specs.Tree.{Tree, Trees, Members, null, boolean, number, text, array, object, no_trees, tree_then, no_members, member_then}
use Rattle.jb_print.specs.Quoted.{quoted}
use Rattle.jb_print.specs.Compact.{compact_tree, compact_items, compact_members, comma_separated}
use Rattle.jb_read.specs.Bytes.{is_white, is_digit, begins, skip_white}
use Rattle.jb_read.specs.Numbers.{is_mark}
use Rattle.jb_read.specs.Spelling.{IsWhole, SpellsString, SpellsKey, Spells, SpellsItems, MoreItems, SpellsMembers, MoreMembers}
use Rattle.jb_read.proofs.Digits.{number_lead}
use Rattle.jb_io.specs.Proper.{IsProper, AreProperItems, AreProperMembers, depth, depth_of_items, depth_of_members}
use Rattle.jb_io.proofs.Strings.{string_spelled}

-- what may follow a number
pub record Ends (rest : List ℕ) : Type 0 where
  pub no_digit : begins is_digit rest ≡ false
  pub no_mark : begins is_mark rest ≡ false

-- ---- no piece begins with white space

white_stop : (b : ℕ) (at : List ℕ) → is_white b ≡ false → skip_white (b ∷ at) ≡ b ∷ at
white_stop b at e = rw e refl

number_start : (z : ℤ) (rest : List ℕ) → IsWhole z → skip_white (signed_decimal z ++ rest) ≡ signed_decimal z ++ rest
number_start z rest whole =
    let lead = number_lead z (signed_decimal z ++ []) [] (record { spelled = refl; whole = whole; no_digit = refl; no_mark = refl }) in
    let parts : signed_decimal z ≡ lead.lead ∷ lead.others = sym (append-nil (signed_decimal z)) ∙ lead.parts in
    subst (λ (l : List ℕ). skip_white (l ++ rest) ≡ l ++ rest) (sym parts) (white_stop lead.lead (lead.others ++ rest) (no_white lead.lead lead.low))
  where
    no_white : (b : ℕ) → 45 ≤ b → is_white b ≡ false
    no_white b low = grind (arith, nat_tests)

pub tree_start : (t : Tree) (rest : List ℕ) → IsProper t → skip_white (compact_tree t ++ rest) ≡ compact_tree t ++ rest
tree_start null rest p = refl
tree_start (boolean true) rest p = refl
tree_start (boolean false) rest p = refl
tree_start (number z) rest p = number_start z rest p
tree_start (text bytes) rest p = refl
tree_start (array items) rest p = refl
tree_start (object pairs) rest p = refl

-- ---- pieces behind the first, a comma before each, and a closing bracket

abbrev pub later : List (List ℕ) → List ℕ
later = flat_map (λ piece. codes "," ++ piece)

record Closes (close : ℕ) : Type 0 where
  no_white : is_white close ≡ false
  no_digit : is_digit close ≡ false
  no_mark : is_mark close ≡ false

bracket_closes : Closes 93
bracket_closes = record { no_white = refl; no_digit = refl; no_mark = refl }

brace_closes : Closes 125
brace_closes = record { no_white = refl; no_digit = refl; no_mark = refl }

later_start : (pieces : List (List ℕ)) (close : ℕ) (rest : List ℕ) → Closes close → skip_white (later pieces ++ close ∷ rest) ≡ later pieces ++ close ∷ rest
later_start [] close rest c = white_stop close rest c.no_white
later_start (piece ∷ pieces) close rest c = refl

later_ends : (pieces : List (List ℕ)) (close : ℕ) (rest : List ℕ) → Closes close → Ends (later pieces ++ close ∷ rest)
later_ends [] close rest c = record { no_digit = c.no_digit; no_mark = c.no_mark }
later_ends (piece ∷ pieces) close rest c = record { no_digit = refl; no_mark = refl }

-- ---- keys

abbrev member_text : List ℕ → Tree → List ℕ
member_text key item = quoted key ++ codes ":" ++ compact_tree item

key_spelled : (key : List ℕ) (item : Tree) (behind : List ℕ) → IsUtf8 key → IsProper item → SpellsKey key (member_text key item ++ behind) (compact_tree item ++ behind)
key_spelled key item behind utf8 proper =
    let value : List ℕ = compact_tree item ++ behind in
    let parts : member_text key item ++ behind ≡ quoted key ++ 58 ∷ value =
    append_assoc (quoted key ++ codes ":") (compact_tree item) behind ∙ append_assoc (quoted key) (codes ":") value in
    record {
      behind = 58 ∷ value;
      inside = value;
      string = subst (λ (l : List ℕ). SpellsString key l (58 ∷ value)) (sym parts) (string_spelled key (58 ∷ value) utf8);
      colon = refl;
      then = sym (tree_start item behind proper);
    }

-- ---- lists and objects of the pieces that they have

array_spelled : (items : Trees) (levels : ℕ) (rest : List ℕ) → (let inside = comma_separated (compact_items items) ++ 93 ∷ rest in (skip_white inside ≡ inside) × SpellsItems items levels inside rest)
    → Spells (array items) (suc levels) (compact_tree (array items) ++ rest) rest
array_spelled items levels rest s =
    let inside : List ℕ = comma_separated (compact_items items) ++ 93 ∷ rest in
    (levels, inside, refl, ap (λ (l : List ℕ). 91 ∷ l) (append_assoc (comma_separated (compact_items items)) (93 ∷ []) rest), subst (λ (l : List ℕ). SpellsItems items levels l rest) (sym s.0) s.1)

object_spelled : (members : Members) (levels : ℕ) (rest : List ℕ) → (let inside = comma_separated (compact_members members) ++ 125 ∷ rest in (skip_white inside ≡ inside) × SpellsMembers members levels inside rest)
    → Spells (object members) (suc levels) (compact_tree (object members) ++ rest) rest
object_spelled members levels rest s =
    let inside : List ℕ = comma_separated (compact_members members) ++ 125 ∷ rest in
    (levels, inside, refl, ap (λ (l : List ℕ). 123 ∷ l) (append_assoc (comma_separated (compact_members members)) (125 ∷ []) rest), subst (λ (l : List ℕ). SpellsMembers members levels l rest) (sym s.0) s.1)

items_start : (items : Trees) (rest : List ℕ) → AreProperItems items → skip_white (comma_separated (compact_items items) ++ 93 ∷ rest) ≡ comma_separated (compact_items items) ++ 93 ∷ rest
items_start no_trees rest p = refl
items_start (tree_then item items) rest p =
    let parts = append_assoc (compact_tree item) (later (compact_items items)) (93 ∷ rest) in
    ap skip_white parts ∙ tree_start item (later (compact_items items) ++ 93 ∷ rest) p.0 ∙ sym parts

members_start : (members : Members) (rest : List ℕ) → skip_white (comma_separated (compact_members members) ++ 125 ∷ rest) ≡ comma_separated (compact_members members) ++ 125 ∷ rest
members_start no_members rest = refl
members_start (member_then key item others) rest = refl

first_item : (item : Tree) (items : Trees) (levels : ℕ) (rest : List ℕ) → (let behind = later (compact_items items) ++ 93 ∷ rest in Spells item levels (compact_tree item ++ behind) behind × MoreItems items levels behind rest)
    → SpellsItems (tree_then item items) levels (comma_separated (compact_items (tree_then item items)) ++ 93 ∷ rest) rest
first_item item items levels rest s =
    let behind : List ℕ = later (compact_items items) ++ 93 ∷ rest in (
      behind,
      subst (λ (l : List ℕ). Spells item levels l behind) (sym (append_assoc (compact_tree item) (later (compact_items items)) (93 ∷ rest))) s.0,
      subst (λ (l : List ℕ). MoreItems items levels l rest) (sym (later_start (compact_items items) 93 rest bracket_closes)) s.1,
    )

next_item : (item : Tree) (items : Trees) (levels : ℕ) (rest : List ℕ) → IsProper item → (let behind = later (compact_items items) ++ 93 ∷ rest in Spells item levels (compact_tree item ++ behind) behind × MoreItems items levels behind rest)
    → MoreItems (tree_then item items) levels (later (compact_items (tree_then item items)) ++ 93 ∷ rest) rest
next_item item items levels rest p s =
    let behind : List ℕ = later (compact_items items) ++ 93 ∷ rest in
    let next : List ℕ = (compact_tree item ++ later (compact_items items)) ++ 93 ∷ rest in
    let parts : skip_white next ≡ compact_tree item ++ behind = ap skip_white (append_assoc (compact_tree item) (later (compact_items items)) (93 ∷ rest)) ∙ tree_start item behind p in (
      next,
      behind,
      refl,
      subst (λ (l : List ℕ). Spells item levels l behind) (sym parts) s.0,
      subst (λ (l : List ℕ). MoreItems items levels l rest) (sym (later_start (compact_items items) 93 rest bracket_closes)) s.1,
    )

first_member : (key : List ℕ) (item : Tree) (members : Members) (levels : ℕ) (rest : List ℕ) → IsUtf8 key → IsProper item
    → (let behind = later (compact_members members) ++ 125 ∷ rest in Spells item levels (compact_tree item ++ behind) behind × MoreMembers members levels behind rest)
    → SpellsMembers (member_then key item members) levels (comma_separated (compact_members (member_then key item members)) ++ 125 ∷ rest) rest
first_member key item members levels rest utf8 p s =
    let behind : List ℕ = later (compact_members members) ++ 125 ∷ rest in
    let start : List ℕ = compact_tree item ++ behind in (
      start,
      behind,
      subst (λ (l : List ℕ). SpellsKey key l start) (sym (append_assoc (member_text key item) (later (compact_members members)) (125 ∷ rest))) (key_spelled key item behind utf8 p),
      s.0,
      subst (λ (l : List ℕ). MoreMembers members levels l rest) (sym (later_start (compact_members members) 125 rest brace_closes)) s.1,
    )

next_member : (key : List ℕ) (item : Tree) (members : Members) (levels : ℕ) (rest : List ℕ) → IsUtf8 key → IsProper item
    → (let behind = later (compact_members members) ++ 125 ∷ rest in Spells item levels (compact_tree item ++ behind) behind × MoreMembers members levels behind rest)
    → MoreMembers (member_then key item members) levels (later (compact_members (member_then key item members)) ++ 125 ∷ rest) rest
next_member key item members levels rest utf8 p s =
    let behind : List ℕ = later (compact_members members) ++ 125 ∷ rest in
    let start : List ℕ = compact_tree item ++ behind in
    let next : List ℕ = (member_text key item ++ later (compact_members members)) ++ 125 ∷ rest in (
      next,
      start,
      behind,
      refl,
      subst (λ (l : List ℕ). SpellsKey key l start) (sym (append_assoc (member_text key item) (later (compact_members members)) (125 ∷ rest))) (key_spelled key item behind utf8 p),
      s.0,
      subst (λ (l : List ℕ). MoreMembers members levels l rest) (sym (later_start (compact_members members) 125 rest brace_closes)) s.1,
    )

-- ---- every proper tree

mutual
  tree_spelled : (t : Tree) (levels : ℕ) (rest : List ℕ) → IsProper t → depth t ≤ levels → Ends rest → Spells t levels (compact_tree t ++ rest) rest
  tree_spelled null levels rest p le ends = refl
  tree_spelled (boolean true) levels rest p le ends = refl
  tree_spelled (boolean false) levels rest p le ends = refl
  tree_spelled (number z) levels rest p le ends = record { spelled = refl; whole = p; no_digit = ends.no_digit; no_mark = ends.no_mark }
  tree_spelled (text bytes) levels rest p le ends = string_spelled bytes rest p
  tree_spelled (array items) zero rest p le ends = absurd (omega arith)
  tree_spelled (array items) (suc levels) rest p le ends = array_spelled items levels rest (items_start items rest p, items_spelled items levels rest p (omega arith))
  tree_spelled (object pairs) zero rest p le ends = absurd (omega arith)
  tree_spelled (object pairs) (suc levels) rest p le ends = object_spelled pairs levels rest (members_start pairs rest, members_spelled pairs levels rest p.1 (omega arith))

  items_spelled : (items : Trees) (levels : ℕ) (rest : List ℕ) → AreProperItems items → depth_of_items items ≤ levels → SpellsItems items levels (comma_separated (compact_items items) ++ 93 ∷ rest) rest
  items_spelled no_trees levels rest p le = refl
  items_spelled (tree_then item items) levels rest p le =
      first_item item items levels rest (tree_spelled item levels (later (compact_items items) ++ 93 ∷ rest) p.0 (omega arith) (later_ends (compact_items items) 93 rest bracket_closes), more_items_spelled items levels rest p.1 (omega arith))

  more_items_spelled : (items : Trees) (levels : ℕ) (rest : List ℕ) → AreProperItems items → depth_of_items items ≤ levels → MoreItems items levels (later (compact_items items) ++ 93 ∷ rest) rest
  more_items_spelled no_trees levels rest p le = refl
  more_items_spelled (tree_then item items) levels rest p le =
      next_item item items levels rest p.0 (tree_spelled item levels (later (compact_items items) ++ 93 ∷ rest) p.0 (omega arith) (later_ends (compact_items items) 93 rest bracket_closes), more_items_spelled items levels rest p.1 (omega arith))

  members_spelled : (members : Members) (levels : ℕ) (rest : List ℕ) → AreProperMembers members → depth_of_members members ≤ levels → SpellsMembers members levels (comma_separated (compact_members members) ++ 125 ∷ rest) rest
  members_spelled no_members levels rest p le = refl
  members_spelled (member_then key item members) levels rest p le =
      first_member key item members levels rest p.0 p.1 (tree_spelled item levels (later (compact_members members) ++ 125 ∷ rest) p.1 (omega arith) (later_ends (compact_members members) 125 rest brace_closes), more_members_spelled members levels rest p.2 (omega arith))

  more_members_spelled : (members : Members) (levels : ℕ) (rest : List ℕ) → AreProperMembers members → depth_of_members members ≤ levels → MoreMembers members levels (later (compact_members members) ++ 125 ∷ rest) rest
  more_members_spelled no_members levels rest p le = refl
  more_members_spelled (member_then key item members) levels rest p le =
      next_member key item members levels rest p.0 p.1 (tree_spelled item levels (later (compact_members members) ++ 125 ∷ rest) p.1 (omega arith) (later_ends (compact_members members) 125 rest brace_closes), more_members_spelled members levels rest p.2 (omega arith))

-- the same of a whole text, behind the white space that it doesn't begin with
pub text_spelled : (t : Tree) (levels : ℕ) → IsProper t → depth t ≤ levels → Spells t levels (skip_white (compact_tree t)) []
text_spelled t levels p le =
    let whole : compact_tree t ++ [] ≡ skip_white (compact_tree t) = sym (tree_start t [] p) ∙ ap skip_white (append-nil (compact_tree t)) in
    subst (λ (l : List ℕ). Spells t levels l []) whole (tree_spelled t levels [] p le (record { no_digit = refl; no_mark = refl }))
