-- A selection set of a sentence has a selection.
use Rattle.std.proofs.Common.{◌≡◌, ◌<◌, ℕ, true, ◌++◌, length, is_some, option_to_list, refl, sym, ap, ◌∙◌, subst}
use Rattle.gql_source.specs.declared.file_id.FileId.{FileId}
use Rattle.gql_grammar.specs.declared.rule.Rule.TheVariants as rule
use Rattle.gql_grammar.specs.declared.syntax_kind.SyntaxKind.{SyntaxKind}
use Rattle.gql_grammar.specs.declared.syntax_kind.SyntaxKind.TheVariants as kind
use Rattle.gql_grammar.specs.Nodes.{IsAllowed, AllAllowed}
use Rattle.gql_cst.specs.Forest.{Forest, nothing, tree_then}
use Rattle.gql_cst.specs.Leaves.{leaves}
use Rattle.gql_cst.specs.Sentences.{shown}
use Rattle.gql_ast_base.specs.Kinds.{is_kind}
use Rattle.gql_ast_base.specs.Parts.{Text, head, gather, inside, nth_name}
use Rattle.gql_ast.specs.Selections.{spread_of, field_step, inline_step, choice_step, selection_step, choices, selection_of}
use Rattle.gql_ast.specs.bridge.Selections.{choice_of}
use Rattle.gql_ast_laws.proofs.Blind.{tree as plain_tree}
use Rattle.gql_ast_laws.proofs.Shown.{AreSpelled, child-of, inside-is, name-at}
use Rattle.gql_ast_laws.proofs.Tops.{first, next, HasNode}
use Rattle.gql_ast_laws.proofs.TypeFound.{some-map}
use Rattle.gql_ast_laws.proofs.Ways.{made as made_single, only-names, only-node}
use Rattle.gql_parser.proofs.Found.{made, is_choice, choice-node, selection-way, first_found, some_there}

module _ (text : Text) (file : FileId) where
  choices_are : (row : Forest) → choices text file row ≡ gather (choice_of text file) row
  choices_are nothing = refl
  choices_are (tree_then k start end children rest) =
      ap (λ l. option_to_list (choice_of text file (plain_tree k start end children)) ++ l) (choices_are rest)

  module _ (start end : ℕ) (children : Forest) (below : AllAllowed (shown text children)) (h : AreSpelled text (leaves children)) where
    fragment_named : HasNode kind.FragmentName (shown text children) → is_some (nth_name text file 0 (inside kind.FragmentName children)) ≡ true
    fragment_named has =
        let c = child-of text kind.FragmentName refl children below h has in
        let m = made_single kind.FragmentName (shown text c.found.children) refl c.allowed in
        rw (inside-is text kind.FragmentName children c) (name-at text file 0 c.found.children c.spelled (only-names _ m.way m.one m.fits))

    spread_found : IsAllowed kind.FragmentSpread (shown text children) → is_some (spread_of text file (plain_tree kind.FragmentSpread start end children)) ≡ true
    unfolding spread_of is_kind
    spread_found a =
        let m = made kind.FragmentSpread (shown text children) refl a in
        some-map _ _ (fragment_named (only-node _ m.way rule.FragmentName kind.FragmentName refl (next first) m.one m.fits))

    choice_found : (k : SyntaxKind) → is_choice k ≡ true → IsAllowed k (shown text children) → is_some (choice_of text file (plain_tree k start end children)) ≡ true
    unfolding choice_step field_step inline_step is_kind
    choice_found kind.Field e a =
        let m = made kind.Field (shown text children) refl a in
        some-map _ _ (some-map _ _ (name-at text file 0 children h (only-names _ m.way m.one m.fits)))
    choice_found kind.FragmentSpread e a = some-map _ _ (spread_found a)
    choice_found kind.InlineFragment e a =
        let m = made kind.InlineFragment (shown text children) refl a in
        let c = child-of text kind.SelectionSet refl children below h (only-node _ m.way rule.SelectionSet kind.SelectionSet refl (next (next (next first))) m.one m.fits) in
        some-map _ _ (some-map _ _ (ap is_some c.is))
    choice_found _ e a = absurd (cc)

  selection_found : (start end : ℕ) (children : Forest) → IsAllowed kind.Selection (shown text children) → AllAllowed (shown text children) → AreSpelled text (leaves children)
      → is_some (selection_of text file (plain_tree kind.Selection start end children)) ≡ true
  unfolding selection_step is_kind
  selection_found start end children a below h =
      let m = made kind.Selection (shown text children) refl a in
      let d = selection-way m.way m.one m.fits in
      let c = child-of text d.k (choice-node d.k d.choice) children below h d.has in
      ap (λ l. is_some (head l)) (choices_are children)
      ∙ first_found (choice_of text file) d.k children c.found c.is
      (subst (λ k. is_some (choice_of text file (plain_tree k c.found.start c.found.end c.found.children)) ≡ true) (sym c.kind)
      (choice_found c.found.start c.found.end c.found.children c.below c.spelled d.k d.choice c.allowed))

  -- what stands between braces is more than nothing
  pub set_selects : (set : Forest) → IsAllowed kind.SelectionSet (shown text set) → AllAllowed (shown text set) → AreSpelled text (leaves set)
      → 0 < length (gather (selection_of text file) set)
  set_selects set a below h =
      let m = made_single kind.SelectionSet (shown text set) refl a in
      let c = child-of text kind.Selection refl set below h (only-node _ m.way rule.Selection kind.Selection refl (next first) m.one m.fits) in
      some_there (gather (selection_of text file) set)
      (first_found (selection_of text file) kind.Selection set c.found c.is
      (subst (λ k. is_some (selection_of text file (plain_tree k c.found.start c.found.end c.found.children)) ≡ true) (sym c.kind)
      (selection_found c.found.start c.found.end c.found.children c.allowed c.below c.spelled)))
