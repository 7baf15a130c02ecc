-- The text of a tree over several lines spells that tree.
use Rattle.std.proofs.Common.{◌≡◌, ℕ, zero, suc, ◌≤◌, true, false, List, [], ◌∷◌, ◌++◌, codes, refl, sym, ap, subst, ◌∙◌, append_assoc, arith}
use Rattle.std.specs.Str.{IsUtf8}
use Rattle.std.proofs.lemmas.List.{append-nil}
use Rattle.jb_tree.specs.Tree.{Tree, Trees, Members, null, boolean, number, text, array, object, no_trees, tree_then, no_members, member_then}
use Rattle.jb_print.specs.Quoted.{quoted}
use Rattle.jb_print.specs.Compact.{comma_separated}
use Rattle.jb_print.specs.Pretty.{deeper, pretty_tree, pretty_items, pretty_members}
use Rattle.jb_read.specs.Bytes.{skip_white}
use Rattle.jb_read.specs.Spelling.{SpellsKey, Spells, MoreItems, MoreMembers}
use Rattle.jb_io.specs.Proper.{IsProper, AreProperItems, AreProperMembers, depth, depth_of_items, depth_of_members}
use Rattle.jb_io.proofs.Printed.{Ends, tree_start, later}
use Rattle.jb_io.proofs.Strings.{string_spelled}

-- what starts a line: white space, with which no number goes on
record IsLine (line : List ℕ) : Type 0 where
  blank : (at : List ℕ) → skip_white (line ++ at) ≡ skip_white at
  ends : (at : List ℕ) → Ends (line ++ at)

first_line : IsLine (codes "\n")
first_line = record { blank = λ at. refl; ends = λ at. record { no_digit = refl; no_mark = refl } }

deeper_line : (line : List ℕ) → IsLine line → IsLine (deeper line)
deeper_line line l = record {
  blank = λ at. ap skip_white (append_assoc line (codes "  ") at) ∙ l.blank (codes "  " ++ at);
  ends = λ at. subst Ends (sym (append_assoc line (codes "  ") at)) (l.ends (codes "  " ++ at));
}

-- ---- where a piece starts, and what follows one

pretty_start : (line : List ℕ) (t : Tree) (rest : List ℕ) → IsProper t → skip_white (pretty_tree line t ++ rest) ≡ pretty_tree line t ++ rest
pretty_start line null rest p = refl
pretty_start line (boolean true) rest p = refl
pretty_start line (boolean false) rest p = refl
pretty_start line (number z) rest p = tree_start (number z) rest p
pretty_start line (text bytes) rest p = refl
pretty_start line (array no_trees) rest p = refl
pretty_start line (array (tree_then item items)) rest p = refl
pretty_start line (object no_members) rest p = refl
pretty_start line (object (member_then key item others)) rest p = refl

later_ends : (line : List ℕ) (pieces : List (List ℕ)) (at : List ℕ) → IsLine line → Ends (later pieces ++ (line ++ at))
later_ends line [] at l = l.ends at
later_ends line (piece ∷ pieces) at l = record { no_digit = refl; no_mark = refl }

-- a piece behind the start of its line
piece_start : (line piece behind : List ℕ) → IsLine line → skip_white (piece ++ behind) ≡ piece ++ behind → skip_white ((line ++ piece) ++ behind) ≡ piece ++ behind
piece_start line piece behind l starts = ap skip_white (append_assoc line piece behind) ∙ l.blank (piece ++ behind) ∙ starts

-- the pieces between two brackets, with what follows
between : (opening closing : ℕ) (piece line : List ℕ) (pieces : List (List ℕ)) (rest : List ℕ)
    → ((opening ∷ comma_separated (piece ∷ pieces)) ++ line ++ closing ∷ []) ++ rest ≡ opening ∷ (piece ++ (later pieces ++ (line ++ closing ∷ rest)))
between opening closing piece line pieces rest =
    append_assoc ((opening ∷ comma_separated (piece ∷ pieces)) ++ line) (closing ∷ []) rest
    ∙ append_assoc (opening ∷ comma_separated (piece ∷ pieces)) line (closing ∷ rest)
    ∙ ap (λ (l : List ℕ). opening ∷ l) (append_assoc piece (later pieces) (line ++ closing ∷ rest))

-- ---- members

abbrev member_text : List ℕ → List ℕ → Tree → List ℕ
member_text line key item = quoted key ++ (codes ": " ++ pretty_tree line item)

member_parts : (line key : List ℕ) (item : Tree) → line ++ quoted key ++ codes ": " ++ pretty_tree line item ≡ line ++ member_text line key item
member_parts line key item =
    append_assoc (line ++ quoted key) (codes ": ") (pretty_tree line item) ∙ append_assoc line (quoted key) (codes ": " ++ pretty_tree line item)

key_spelled : (line key : List ℕ) (item : Tree) (behind : List ℕ) → IsUtf8 key → IsProper item
    → SpellsKey key (member_text line key item ++ behind) (pretty_tree line item ++ behind)
key_spelled line key item behind utf8 proper =
    let value : List ℕ = pretty_tree line item ++ behind in
    let parts : member_text line key item ++ behind ≡ quoted key ++ 58 ∷ 32 ∷ value = append_assoc (quoted key) (codes ": " ++ pretty_tree line item) behind in
    subst (λ (l : List ℕ). SpellsKey key l value) (sym parts) (record {
      behind = 58 ∷ 32 ∷ value;
      inside = 32 ∷ value;
      string = string_spelled key (58 ∷ 32 ∷ value) utf8;
      colon = refl;
      then = sym (pretty_start line item behind proper);
    })

member_start : (line key : List ℕ) (item : Tree) (behind : List ℕ) → IsLine line
    → skip_white ((line ++ quoted key ++ codes ": " ++ pretty_tree line item) ++ behind) ≡ member_text line key item ++ behind
member_start line key item behind l =
    ap (λ (piece : List ℕ). skip_white (piece ++ behind)) (member_parts line key item) ∙ piece_start line (member_text line key item) behind l refl

-- ---- every proper tree

mutual
  tree_spelled : (line : List ℕ) (t : Tree) (levels : ℕ) (rest : List ℕ) → IsLine line → IsProper t → depth t ≤ levels → Ends rest → Spells t levels (pretty_tree line t ++ rest) rest
  tree_spelled line null levels rest l p le ends = refl
  tree_spelled line (boolean true) levels rest l p le ends = refl
  tree_spelled line (boolean false) levels rest l p le ends = refl
  tree_spelled line (number z) levels rest l p le ends = record { spelled = refl; whole = p; no_digit = ends.no_digit; no_mark = ends.no_mark }
  tree_spelled line (text bytes) levels rest l p le ends = string_spelled bytes rest p
  tree_spelled line (array items) zero rest l p le ends = absurd (omega arith)
  tree_spelled line (array no_trees) (suc levels) rest l p le ends = (levels, 93 ∷ rest, refl, refl, refl)
  tree_spelled line (array (tree_then item items)) (suc levels) rest l p le ends =
      let inner = deeper line in
      let pieces = pretty_items inner items in
      let behind : List ℕ = later pieces ++ (line ++ 93 ∷ rest) in
      let start = piece_start inner (pretty_tree inner item) behind (deeper_line line l) (pretty_start inner item behind p.0) in (
        levels,
        (inner ++ pretty_tree inner item) ++ behind,
        refl,
        between 91 93 (inner ++ pretty_tree inner item) line pieces rest,
        (
          behind,
          subst (λ (at : List ℕ). Spells item levels at behind) (sym start) (tree_spelled inner item levels behind (deeper_line line l) p.0 (omega arith) (later_ends line pieces (93 ∷ rest) l)),
          more_items_spelled line items levels rest l p.1 (omega arith),
        ),
      )
  tree_spelled line (object pairs) zero rest l p le ends = absurd (omega arith)
  tree_spelled line (object no_members) (suc levels) rest l p le ends = (levels, 125 ∷ rest, refl, refl, refl)
  tree_spelled line (object (member_then key item others)) (suc levels) rest l p le ends =
      let inner = deeper line in
      let pieces = pretty_members inner others in
      let behind : List ℕ = later pieces ++ (line ++ 125 ∷ rest) in
      let start = member_start inner key item behind (deeper_line line l) in (
        levels,
        (inner ++ quoted key ++ codes ": " ++ pretty_tree inner item) ++ behind,
        refl,
        between 123 125 (inner ++ quoted key ++ codes ": " ++ pretty_tree inner item) line pieces rest,
        (
          pretty_tree inner item ++ behind,
          behind,
          subst (λ (at : List ℕ). SpellsKey key at (pretty_tree inner item ++ behind)) (sym start) (key_spelled inner key item behind p.1.0 p.1.1),
          tree_spelled inner item levels behind (deeper_line line l) p.1.1 (omega arith) (later_ends line pieces (125 ∷ rest) l),
          more_members_spelled line others levels rest l p.1.2 (omega arith),
        ),
      )

  more_items_spelled : (line : List ℕ) (items : Trees) (levels : ℕ) (rest : List ℕ) → IsLine line → AreProperItems items → depth_of_items items ≤ levels
      → MoreItems items levels (skip_white (later (pretty_items (deeper line) items) ++ (line ++ 93 ∷ rest))) rest
  more_items_spelled line no_trees levels rest l p le = l.blank (93 ∷ rest)
  more_items_spelled line (tree_then item items) levels rest l p le =
      let inner = deeper line in
      let pieces = pretty_items inner items in
      let behind : List ℕ = later pieces ++ (line ++ 93 ∷ rest) in
      let start = ap skip_white (append_assoc (inner ++ pretty_tree inner item) (later pieces) (line ++ 93 ∷ rest)) ∙ piece_start inner (pretty_tree inner item) behind (deeper_line line l) (pretty_start inner item behind p.0) in (
        ((inner ++ pretty_tree inner item) ++ later pieces) ++ (line ++ 93 ∷ rest),
        behind,
        refl,
        subst (λ (at : List ℕ). Spells item levels at behind) (sym start) (tree_spelled inner item levels behind (deeper_line line l) p.0 (omega arith) (later_ends line pieces (93 ∷ rest) l)),
        more_items_spelled line items levels rest l p.1 (omega arith),
      )

  more_members_spelled : (line : List ℕ) (members : Members) (levels : ℕ) (rest : List ℕ) → IsLine line → AreProperMembers members → depth_of_members members ≤ levels
      → MoreMembers members levels (skip_white (later (pretty_members (deeper line) members) ++ (line ++ 125 ∷ rest))) rest
  more_members_spelled line no_members levels rest l p le = l.blank (125 ∷ rest)
  more_members_spelled line (member_then key item others) levels rest l p le =
      let inner = deeper line in
      let pieces = pretty_members inner others in
      let behind : List ℕ = later pieces ++ (line ++ 125 ∷ rest) in
      let piece : List ℕ = inner ++ quoted key ++ codes ": " ++ pretty_tree inner item in
      let start = ap skip_white (append_assoc piece (later pieces) (line ++ 125 ∷ rest)) ∙ member_start inner key item behind (deeper_line line l) in (
        (piece ++ later pieces) ++ (line ++ 125 ∷ rest),
        pretty_tree inner item ++ behind,
        behind,
        refl,
        subst (λ (at : List ℕ). SpellsKey key at (pretty_tree inner item ++ behind)) (sym start) (key_spelled inner key item behind p.0 p.1),
        tree_spelled inner item levels behind (deeper_line line l) p.1 (omega arith) (later_ends line pieces (125 ∷ rest) l),
        more_members_spelled line others levels rest l p.2 (omega arith),
      )

-- the same of a whole text
pub pretty_spelled : (t : Tree) (levels : ℕ) → IsProper t → depth t ≤ levels → Spells t levels (skip_white (pretty_tree (codes "\n") t)) []
pretty_spelled t levels p le =
    let line = codes "\n" in
    let whole : pretty_tree line t ++ [] ≡ skip_white (pretty_tree line t) = sym (pretty_start line t [] p) ∙ ap skip_white (append-nil (pretty_tree line t)) in
    subst (λ (l : List ℕ). Spells t levels l []) whole (tree_spelled line t levels [] first_line p le (record { no_digit = refl; no_mark = refl }))
