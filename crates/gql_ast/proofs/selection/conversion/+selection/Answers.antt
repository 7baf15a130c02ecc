use Rattle.std.proofs.Common.{◌≡◌, ◌++◌, true, option_to_list, sym, ap, ◌∙◌, arith, rules}
use Rattle.gql_ast_base.specs.Forest.{plain}
use Rattle.gql_ast_base.specs.bridge.Forest.{forest}
use Rattle.gql_ast_base.specs.SyntaxKind.TheVariants.{Selection, SelectionSet}
use Rattle.gql_ast_base.specs.Kinds.{is_kind}
use Rattle.gql_ast_base.specs.bridge.Parts.{size}
use Rattle.gql_ast.specs.Selections.{selections, selected, choice_step}
use Rattle.gql_ast_base.proofs.Rows.{size-item, size-inside, size-of}
use Rattle.gql_ast.proofs.Selected.{selected-inside, selection-is, first-found, none-found, kept-none}
use Rattle.gql_ast.proofs.selection.conversion.+selection.Goals as goal

pub add_selection-selected-requires : goal.add_selection-selected-requires
add_selection-selected-requires t c = (
  omega (
    arith,
    size-of c.as_slice-parts.result.now _ _ c.as_slice-parts.ensures.value c.children.ensures,
    size-of c.as_slice.result.now _ _ c.as_slice.ensures.value c.children-in-loop-node.ensures,
    size-item c.as_slice-parts.result.now c.loop-node.node-index c.node-item.result (omega arith) c.node-item.is,
  ),
  tt,
)

pub add_selection-returns-then-branch : goal.add_selection-returns-then-branch
add_selection-returns-then-branch t c =
    let kind : is_kind (plain c.args.tree.now).kind Selection ≡ true = search rules in
    let nested = c.in_ok-inner.ensures ∙ ap (selected c.args.source.now.text.now c.args.source.now.file_id) (ap forest c.as_slice.ensures.value ∙ c.children-in-loop-node.ensures) in
    let first = first-found c.args.source.now.text.now c.args.source.now.file_id c.as_slice-parts.result.now c.loop-node.node-index c.node-item.result c.in_ok-inner.inner (omega arith) c.node-item.is nested c.loop-node.invariant.1 (sym c.in_ok-add_choice.ensures.told ∙ c.if-branch.true) in
    let whole = selection-is c.args.source.now.text.now c.args.source.now.file_id (plain c.args.tree.now) (forest c.as_slice-parts.result.now) kind (ap forest c.as_slice-parts.ensures.value ∙ c.children.ensures) in
    c.in_ok-add_choice.ensures.kept ∙ ap (λ l. l ++ option_to_list (choice_step c.args.source.now.text.now c.args.source.now.file_id (plain c.node-item.result) c.in_ok-inner.inner)) c.loop-node.invariant.0
    ∙ ap (λ o. c.args.list.now ++ option_to_list o) (first ∙ sym whole)

pub add_selection-loop-node-preserved : goal.add_selection-loop-node-preserved
add_selection-loop-node-preserved t c =
    let nested = c.in_ok-inner.ensures ∙ ap (selected c.args.source.now.text.now c.args.source.now.file_id) (ap forest c.as_slice.ensures.value ∙ c.children-in-loop-node.ensures) in
    let none = sym c.in_ok-add_choice.ensures.told ∙ c.if-branch.false in (
      kept-none (choice_step c.args.source.now.text.now c.args.source.now.file_id (plain c.node-item.result) c.in_ok-inner.inner) c.args.list.now c.loop-node.list c.add_choice.new.list none c.loop-node.invariant.0 c.in_ok-add_choice.ensures.kept,
      none-found c.args.source.now.text.now c.args.source.now.file_id c.as_slice-parts.result.now c.loop-node.node-index c.node-item.result c.in_ok-inner.inner (omega arith) c.node-item.is nested c.loop-node.invariant.1 none,
    )

pub selections-add_selection-requires : goal.selections-add_selection-requires
selections-add_selection-requires t c =
    (omega (arith, size-item c.args.nodes.now c.loop-node.node-index c.node-item.result (omega arith) c.node-item.is), tt)

pub selected-selections-requires : goal.selected-selections-requires
selected-selections-requires t c = (omega (arith, ap size c.inside.ensures, size-inside SelectionSet (forest c.args.nodes.now)), tt)

pub selected-returns : goal.selected-returns
selected-returns t c =
    c.in_ok-made.ensures ∙ ap (selections c.args.source.now.text.now c.args.source.now.file_id) c.inside.ensures
    ∙ selected-inside c.args.source.now.text.now c.args.source.now.file_id (forest c.args.nodes.now)
