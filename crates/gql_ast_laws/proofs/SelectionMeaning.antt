-- Selections are blind to ignored tokens.
use Rattle.std.proofs.Common.{◌≡◌, ℕ, true, false, ◌++◌, option_to_list, refl, ◌∙◌, sym, ap}
use Rattle.std.specs.Option.{option_map}
use Rattle.gql_source.specs.declared.file_id.FileId.{FileId}
use Rattle.gql_grammar.specs.declared.syntax_kind.SyntaxKind.{SyntaxKind}
use Rattle.gql_grammar.specs.declared.syntax_kind.SyntaxKind.TheVariants as kind
use Rattle.gql_cst.specs.Forest.{Forest, nothing, tree_then}
use Rattle.gql_cst.specs.Leaves.{Part, word, ignored, node, part_of}
use Rattle.gql_cst.specs.Bare.{bare_then, bare, TokensEnd}
use Rattle.gql_ast.specs.declared.selection.Selection.{Field as a_field, InlineFragment as an_inline_fragment}
use Rattle.gql_ast.specs.declared.selection.Selection.TheVariants.{FragmentSpread as a_spread}
use Rattle.gql_ast_base.specs.Kinds.{is_kind}
use Rattle.gql_ast_base.specs.Parts.{Text, head, gather, inside, nth_name}
use Rattle.gql_ast.specs.Selections.{type_condition, spread_of, field_step, inline_step, choice_step, selection_step, selections, choices, selected, selection_of, field_of, inline_fragment_of}
use Rattle.gql_ast.specs.bridge.Selections.{choice_of}
use Rattle.gql_ast_base.specs.NamedTypes.{named_type_in}
use Rattle.gql_ast_laws.proofs.Blind.{EndsAt, BlindAt, Blind, of_node, none_at, choice_at, map_at}
use Rattle.gql_ast_laws.proofs.Gathered.{gather_then}
use Rattle.gql_ast_laws.proofs.Inner.{both_ways, node_of, inside_same, child_map}
use Rattle.gql_ast_laws.proofs.Named.{nth_name-bare}
use Rattle.gql_ast_laws.proofs.Places.{location_bare}
use Rattle.gql_ast_laws.proofs.TypeMeaning.{named_type_in-bare}
use Rattle.gql_ast_laws.proofs.DirectiveMeaning.{arguments-bare, directives-bare}

module _ (text : Text) (file : FileId) where
  pub type_condition-bare : (row : Forest) → TokensEnd row → type_condition text file (bare row) ≡ type_condition text file row
  unfolding type_condition
  type_condition-bare row h = inside_same (named_type_in text file) (named_type_in-bare text file) kind.TypeCondition refl row h

  pub name_inside : (known : SyntaxKind) → part_of known ≡ node → (row : Forest) → TokensEnd row
      → nth_name text file 0 (inside known (bare row)) ≡ nth_name text file 0 (inside known row)
  name_inside known n row h = inside_same (nth_name text file 0) (nth_name-bare text file 0) known n row h

  spread-at : (k : SyntaxKind) (start end : ℕ) (children : Forest) → EndsAt k children → BlindAt (spread_of text file) k start end children
  unfolding spread_of
  spread-at k start end children h = choice_at _ _ kind.FragmentSpread refl h
      (λ i. rw (name_inside kind.FragmentName refl children i, directives-bare text file children i, location_bare file kind.FragmentSpread start end children refl i) refl) none_at

  -- the selections below a tree are the same
  SelectedSame : Forest → Type 0
  SelectedSame children = TokensEnd children → selected text file (bare children) ≡ selected text file children

  field-at : (k : SyntaxKind) (start end : ℕ) (children : Forest) → EndsAt k children → SelectedSame children → BlindAt (field_of text file) k start end children
  unfolding field_step SelectedSame
  field-at k start end children h s = choice_at _ _ kind.Field refl h
      (λ i. rw (name_inside kind.Alias refl children i, nth_name-bare text file 0 children i, arguments-bare text file children i, directives-bare text file children i, s i, location_bare file kind.Field start end children refl i) refl) none_at

  inline-at : (k : SyntaxKind) (start end : ℕ) (children : Forest) → EndsAt k children → SelectedSame children → BlindAt (inline_fragment_of text file) k start end children
  unfolding inline_step SelectedSame
  inline-at k start end children h s = choice_at _ _ kind.InlineFragment refl h
      (λ i. rw (type_condition-bare children i, directives-bare text file children i, s i, location_bare file kind.InlineFragment start end children refl i)
      (child_map _ (λ t j. refl) kind.SelectionSet refl children i)) none_at

  choice-at : (k : SyntaxKind) (start end : ℕ) (children : Forest) → EndsAt k children → SelectedSame children → BlindAt (choice_of text file) k start end children
  unfolding choice_step
  choice-at k start end children h s =
      choice_at _ _ kind.Field refl h (λ i. ap (λ o. option_map a_field o) ((field-at kind.Field start end children i s).as_node refl))
      (choice_at _ _ kind.FragmentSpread refl h (λ i. ap (λ o. option_map a_spread o) ((spread-at kind.FragmentSpread start end children i).as_node refl))
      (map_at an_inline_fragment (inline-at k start end children h s)))

  selection-at : (k : SyntaxKind) (start end : ℕ) (children : Forest) → EndsAt k children
      → (TokensEnd children → choices text file (bare children) ≡ choices text file children) → BlindAt (selection_of text file) k start end children
  unfolding selection_step
  selection-at k start end children h c = choice_at _ _ kind.Selection refl h (λ i. ap head (c i)) none_at

  selections_are : (row : Forest) → selections text file row ≡ gather (selection_of text file) row
  selections_are nothing = refl
  selections_are (tree_then k start end children rest) = ap (λ l. option_to_list (selection_of text file (record { kind = k; start = start; end = end; children = children })) ++ l) (selections_are rest)

  choices_are : (row : Forest) → choices text file row ≡ gather (choice_of text file) row
  choices_are nothing = refl
  choices_are (tree_then k start end children rest) = ap (λ l. option_to_list (choice_of text file (record { kind = k; start = start; end = end; children = children })) ++ l) (choices_are rest)

  here : (k : SyntaxKind) (start end : ℕ) (children rest : Forest) → is_kind k kind.SelectionSet ≡ true → selected text file (tree_then k start end children rest) ≡ selections text file children
  here k start end children rest e = rw e refl

  later : (k : SyntaxKind) (start end : ℕ) (children rest : Forest) → is_kind k kind.SelectionSet ≡ false → selected text file (tree_then k start end children rest) ≡ selected text file rest
  later k start end children rest e = rw e refl

  here_bare : (part : Part) (k : SyntaxKind) (start end : ℕ) (children rest : Forest) → part ≡ node → is_kind k kind.SelectionSet ≡ true
      → selected text file (bare_then part k start end children rest) ≡ selections text file children
  here_bare node k start end children rest p e = here k 0 0 children rest e
  here_bare word k start end children rest p e = absurd (cc)
  here_bare ignored k start end children rest p e = absurd (cc)

  later_bare : (part : Part) (k : SyntaxKind) (start end : ℕ) (children rest : Forest) → is_kind k kind.SelectionSet ≡ false
      → selected text file (bare_then part k start end children rest) ≡ selected text file rest
  later_bare node k start end children rest e = later k 0 0 children rest e
  later_bare word k start end children rest e = later k start end nothing rest e
  later_bare ignored k start end children rest e = refl

  record Same (row : Forest) : Type 0 where
    selections_same : selections text file (bare row) ≡ selections text file row
    choices_same : choices text file (bare row) ≡ choices text file row
    selected_same : selected text file (bare row) ≡ selected text file row

  same : (row : Forest) → TokensEnd row → Same row
  unfolding SelectedSame
  same nothing h = record { selections_same = refl; choices_same = refl; selected_same = refl }
  same (tree_then k start end children rest) h =
      let below = same children in
      let behind = same rest h.1 in
      let row = tree_then k start end children rest in
      record {
        selections_same = selections_are (bare row)
            ∙ gather_then k start end children rest (selection-at k start end children h.0 (λ i. (below i).choices_same)) (sym (selections_are (bare rest)) ∙ behind.selections_same ∙ selections_are rest)
            ∙ sym (selections_are row);
        choices_same = choices_are (bare row)
            ∙ gather_then k start end children rest (choice-at k start end children h.0 (λ i. (below i).selected_same)) (sym (choices_are (bare rest)) ∙ behind.choices_same ∙ choices_are rest)
            ∙ sym (choices_are row);
        selected_same = both_ways (is_kind k kind.SelectionSet)
            (λ e. here_bare (part_of k) k start end (bare children) (bare rest) (node_of k kind.SelectionSet refl e) e
            ∙ (below (of_node (part_of k) children h.0 (node_of k kind.SelectionSet refl e) (λ x. x))).selections_same
            ∙ sym (here k start end children rest e))
            (λ e. later_bare (part_of k) k start end (bare children) (bare rest) e ∙ behind.selected_same ∙ sym (later k start end children rest e));
      }

  pub selection-blind : Blind (selection_of text file)
  selection-blind = record { at = λ k start end children h. selection-at k start end children h (λ i. (same children i).choices_same) }

  pub selections-bare : (row : Forest) → TokensEnd row → selections text file (bare row) ≡ selections text file row
  selections-bare row h = (same row h).selections_same

  pub selected-bare : (row : Forest) → TokensEnd row → selected text file (bare row) ≡ selected text file row
  selected-bare row h = (same row h).selected_same
