-- The selections in the first selection set of a row, and what the parts of a selection add to a list.
use Rattle.std.proofs.Common.{◌≡◌, ℕ, zero, suc, ◌+◌, ◌<◌, true, false, if◌then◌else◌, List, [], ◌∷◌, ◌++◌, length, get_or, drop, is_some, option_to_list, Option, Some, None, refl, sym, ap, ◌∙◌, arith}
use Rattle.std.proofs.lemmas.List.{append-nil}
use Rattle.gql_source.specs.declared.file_id.FileId.{FileId}
use Rattle.gql_ast_base.specs.Tree.{Tree}
use Rattle.gql_ast_base.specs.Forest.{Forest, Plain, nothing, tree_then, plain}
use Rattle.gql_ast_base.specs.bridge.Forest.{forest}
use Rattle.gql_ast_base.specs.SyntaxKind.TheVariants.{Selection, SelectionSet}
use Rattle.gql_ast.specs.declared.selection.Selection.{Selection as Selected}
use Rattle.gql_ast_base.specs.Kinds.{is_kind}
use Rattle.gql_ast_base.specs.Parts.{Text, head, gather, of_kind, children_of, inside}
use Rattle.gql_ast.specs.Selections.{selections, selected, choices, choice_step, selection_of, selection_step}
use Rattle.gql_ast.specs.bridge.Selections.{choice_of}

pub selected-inside : (text : Text) (file : FileId) (row : Forest) → selections text file (inside SelectionSet row) ≡ selected text file row
selected-inside text file nothing = refl
selected-inside text file (tree_then k start end children rest) =
    elim (is_kind k SelectionSet) as (λ b. selections text file (children_of (head (option_to_list (if b then Some (record { kind = k; start = start; end = end; children = children }) else None) ++ gather (of_kind SelectionSet) rest))) ≡ (if b then selections text file children else selected text file rest)) [
      | true ↦ refl
      | false ↦ selected-inside text file rest
    ]

-- a selection is the first of its parts that is one
pub selection-is : (text : Text) (file : FileId) (tree : Plain) (row : Forest) → is_kind tree.kind Selection ≡ true → row ≡ tree.children → selection_of text file tree ≡ head (choices text file row)
unfolding selection_step
selection-is text file tree row is below =
    ap (λ b. if b then head (choices text file tree.children) else None) is ∙ ap (λ r. head (choices text file r)) (sym below)

choices-next : (text : Text) (file : FileId) (parts : List Tree) (i : ℕ) (part : Tree) → i < length parts → part ≡ get_or parts i part
    → choices text file (forest (drop i parts)) ≡ option_to_list (choice_of text file (plain part)) ++ choices text file (forest (drop (suc i) parts))
choices-next text file [] i part within is = absurd (omega arith)
choices-next text file (first ∷ parts) zero part within is = ap (λ t. option_to_list (choice_of text file (plain t)) ++ choices text file (forest parts)) (sym is)
choices-next text file (first ∷ parts) (suc i) part within is = choices-next text file parts i part (omega arith) is

choices-at : (text : Text) (file : FileId) (parts : List Tree) (i : ℕ) (part : Tree) → i < length parts → part ≡ get_or parts i part
    → choices text file (forest (drop i parts)) ≡ option_to_list (choice_of text file (plain part)) ++ choices text file (forest (drop (i + 1) parts))
choices-at text file parts i part within is =
    let next : suc i ≡ i + 1 = omega arith in
    choices-next text file parts i part within is ∙ ap (λ n. option_to_list (choice_of text file (plain part)) ++ choices text file (forest (drop n parts))) next

head-some : {T : Type 0} (found : Option T) (rest : List T) → is_some found ≡ true → head (option_to_list found ++ rest) ≡ found
head-some None rest is = absurd (let f : false ≡ true = is in cc)
head-some (Some x) rest is = refl

head-none : {T : Type 0} (found : Option T) (rest : List T) → is_some found ≡ false → head rest ≡ head (option_to_list found ++ rest)
head-none None rest is = refl
head-none (Some x) rest is = absurd (let f : true ≡ false = is in cc)

none-kept : {T : Type 0} (found : Option T) (list : List T) → is_some found ≡ false → list ++ option_to_list found ≡ list
none-kept None list is = append-nil list
none-kept (Some x) list is = absurd (let f : true ≡ false = is in cc)

-- a walk over the parts of a selection that has come to the part at `i`, with what is in the list, in front of it and behind it
module _ (text : Text) (file : FileId) (parts : List Tree) (i : ℕ) (part : Tree) (inner : List Selected)
    (within : i < length parts) (is : part ≡ get_or parts i part) (nested : inner ≡ selected text file (plain part).children)
    (left : head (choices text file (forest (drop i parts))) ≡ head (choices text file (forest parts))) where
  here : head (choices text file (forest parts)) ≡ head (option_to_list (choice_step text file (plain part) inner) ++ choices text file (forest (drop (i + 1) parts)))
  here = sym left ∙ ap head (choices-at text file parts i part within is)
      ∙ ap (λ l. head (option_to_list (choice_step text file (plain part) l) ++ choices text file (forest (drop (i + 1) parts)))) (sym nested)

  pub first-found : is_some (choice_step text file (plain part) inner) ≡ true → choice_step text file (plain part) inner ≡ head (choices text file (forest parts))
  first-found some = sym (here ∙ head-some (choice_step text file (plain part) inner) (choices text file (forest (drop (i + 1) parts))) some)

  pub none-found : is_some (choice_step text file (plain part) inner) ≡ false → head (choices text file (forest (drop (i + 1) parts))) ≡ head (choices text file (forest parts))
  none-found none = sym (here ∙ sym (head-none (choice_step text file (plain part) inner) (choices text file (forest (drop (i + 1) parts))) none))

pub kept-none : {T : Type 0} (found : Option T) (start list new : List T) → is_some found ≡ false → list ≡ start → new ≡ list ++ option_to_list found → new ≡ start
kept-none found start list new none at kept = kept ∙ none-kept found list none ∙ at

-- the selections of a row are what its trees stand for, one after the other
pub selections-gathered : (text : Text) (file : FileId) (row : Forest) → selections text file row ≡ gather (selection_of text file) row
selections-gathered text file nothing = refl
selections-gathered text file (tree_then k start end children rest) =
    ap (λ l. option_to_list (selection_of text file (record { kind = k; start = start; end = end; children = children })) ++ l) (selections-gathered text file rest)
