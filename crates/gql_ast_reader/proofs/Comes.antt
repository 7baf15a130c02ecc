-- What comes in the rows of a maker: tokens, those that the grammar ignores too.
use Rattle.std.proofs.Common.{◌≡◌, List, [], ◌∷◌, ◌++◌, Some, refl, sym, ap, subst, ◌∙◌}
use Rattle.std.proofs.lemmas.List.{append_assoc}
use Rattle.std.specs.declared.ops.Range.{Range}
use Rattle.std.specs.Prelude.{ℕ}
use Rattle.gql_source.specs.declared.file_id.FileId.{FileId}
use Rattle.gql_cst.specs.bridge.Machine.{node_of}
use Rattle.gql_ast.specs.Documents.{definition_of, definitions}
use Rattle.gql_ast_base.specs.Forest.{Plain, row_of}
use Rattle.gql_ast_base.specs.SyntaxKind.TheVariants as kind
use Rattle.gql_ast_base.specs.Kinds.{is_kind}
use Rattle.gql_ast_base.specs.Parts.{Text, gather}
use Rattle.gql_ast_reader.specs.declared.open_row.OpenRow.{OpenRow}
use Rattle.gql_ast_reader.specs.declared.open_rows.OpenRows.{OpenRows}
use Rattle.gql_ast_reader.specs.bridge.Making.{own_definitions}
use Rattle.gql_cst.specs.bridge.Open.{Open, grown_by, token, ignored}
use Rattle.gql_ast_reader.specs.bridge.Stand.{kind_of, token_child, child_of, Keeps, AreIgnored}
use Rattle.gql_ast_reader.proofs.Grown.{ignored-all}

pub ignored-more : (waiting : List Plain) (range : Range ℕ) → AreIgnored waiting → AreIgnored (waiting ++ ignored range ∷ [])
ignored-more [] range all = (refl, refl, tt {0})
ignored-more (tree ∷ waiting) range all = (all.0, all.1, ignored-more waiting range all.2)

module _ (text : Text) (file : FileId) where
  pub token-is : (range : Range ℕ) → token_child text (record { start = range.start; end = range.end }) ≡ child_of text file (token range)
  unfolding is_kind
  token-is range = refl

  -- the ignored tokens that waited stand in the innermost node, and change nothing in its row
  pub waited : (rows : OpenRows) (inner : Open) (os : List Open) (waiting : List Plain) → AreIgnored waiting
      → Keeps text file rows (inner ∷ os) → Keeps text file rows (grown_by waiting inner ∷ os)
  waited rows inner os waiting all keeps = record {
    depth = keeps.depth;
    kept = (keeps.kept.0, keeps.kept.1 ∙ ap Some (sym (ignored-all text file (kind_of inner.node.kind) inner.trees waiting all)), keeps.kept.2);
  }

  -- and the token behind them
  pub behind-waiting : (rows : OpenRows) (inner : Open) (os : List Open) (waiting : List Plain) (tree : Plain)
      → Keeps text file rows (grown_by (tree ∷ []) (grown_by waiting inner) ∷ os) → Keeps text file rows (grown_by (waiting ++ tree ∷ []) inner ∷ os)
  behind-waiting rows inner os waiting tree keeps =
      let P : List Plain → Type 0 = λ trees. let o : Open = record { node = inner.node; trees = trees } in Keeps text file rows (o ∷ os) in
      subst P (append_assoc inner.trees waiting (tree ∷ [])) keeps

  -- the definitions of a text are those of the trees that no ignored tokens follow
  pub told : (trees waiting : List Plain) → AreIgnored waiting → definitions text file (node_of kind.Document (trees ++ waiting)) ≡ gather (definition_of text file) (row_of trees)
  told trees waiting all = ap (λ (r : OpenRow). own_definitions r.row.own) (ignored-all text file kind.Document trees waiting all)
