-- The row of an open node, as trees come in it.
use Rattle.std.proofs.Common.{◌≡◌, true, false, if◌then◌else◌, List, [], ◌∷◌, ◌++◌, Option, Some, None, refl, sym, ap, ◌∙◌}
use Rattle.std.proofs.lemmas.List.{append_assoc, append-nil}
use Rattle.gql_source.specs.declared.file_id.FileId.{FileId}
use Rattle.gql_cst.specs.Late.{is_late}
use Rattle.gql_cst.specs.Leaves.{part_of as sort_of}
use Rattle.gql_cst.specs.bridge.Machine.{node_of}
use Rattle.gql_cst.specs.bridge.Sound.{is_node}
use Rattle.gql_ast_base.specs.Forest.{Forest, Plain, nothing, row_of as forest_of}
use Rattle.gql_ast_base.specs.SyntaxKind.{SyntaxKind}
use Rattle.gql_ast_base.specs.SyntaxKind.TheVariants as kind
use Rattle.gql_ast_base.specs.Kinds.{is_kind}
use Rattle.gql_ast_base.specs.Parts.{Text, or_else, start_of, end_of, tree_start, tree_end, span}
use Rattle.gql_ast_reader.specs.declared.open_row.OpenRow.{OpenRow}
use Rattle.gql_ast_reader.specs.declared.row.Row.{Row}
use Rattle.gql_ast_reader.specs.bridge.Kept.{row_of}
use Rattle.gql_ast_reader.specs.bridge.Making.{made}
use Rattle.gql_ast_reader.specs.bridge.Stand.{Child, child_of, row_with, grown, closed, wrapped, empty, AreIgnored}
use Rattle.gql_ast_reader.proofs.Fresh.{fresh-is}
use Rattle.gql_ast_reader.proofs.Made.{made-is}
use Rattle.gql_ast_reader.proofs.Rows.{row-behind}

else-none : {T : Type 0} (o : Option T) → or_else o None ≡ o
else-none None = refl
else-none (Some x) = refl

else-assoc : {T : Type 0} (a b c : Option T) → or_else a (or_else b c) ≡ or_else (or_else a b) c
else-assoc None b c = refl
else-assoc (Some x) b c = refl

start-behind : (trees : List Plain) (tree : Plain) → start_of (forest_of (trees ++ tree ∷ [])) ≡ or_else (start_of (forest_of trees)) (tree_start tree)
start-behind [] tree = else-none (tree_start tree)
start-behind (t ∷ trees) tree =
    ap (or_else (tree_start t)) (start-behind trees tree) ∙ else-assoc (tree_start t) (start_of (forest_of trees)) (tree_start tree)

end-behind : (trees : List Plain) (tree : Plain) → end_of (forest_of (trees ++ tree ∷ [])) ≡ or_else (tree_end tree) (end_of (forest_of trees))
end-behind [] tree = sym (else-none (tree_end tree))
end-behind (t ∷ trees) tree =
    ap (λ o. or_else o (tree_end t)) (end-behind trees tree) ∙ sym (else-assoc (tree_end tree) (end_of (forest_of trees)) (tree_end t))

-- the kinds of tokens are no kinds of nodes
no-token : (k : SyntaxKind) → is_node (sort_of k) ≡ true → is_kind k kind.Token ≡ false
unfolding is_kind
no-token kind.Token node = absurd (let e : false ≡ true = node in cc)
no-token kind.Ignored node = absurd (let e : false ≡ true = node in cc)
no-token _ node = refl

-- what is made late
late-no-token : (k : SyntaxKind) → is_late k ≡ true → is_kind k kind.Token ≡ false
unfolding is_kind
late-no-token kind.Token late = absurd (let e : false ≡ true = late in cc)
late-no-token _ late = refl

module _ (text : Text) (file : FileId) where
  pub grown-behind : (k : SyntaxKind) (trees : List Plain) (tree : Plain)
      → row_with text file k (trees ++ tree ∷ []) ≡ grown text file (row_with text file k trees) (child_of text file tree)
  grown-behind k trees tree = λ i. record {
    kind = k;
    row = row-behind text file trees tree k i;
    start = start-behind trees tree i;
    end = end-behind trees tree i;
  }

  pub empty-is : (k : SyntaxKind) → empty k ≡ row_with text file k []
  empty-is k = ap (λ (r : Row). let made : OpenRow = record { kind = k; row = r; start = None; end = None } in made) (fresh-is text file k)

  -- what a node of the kind is, where no row with these trees is one of a token
  closed-is : (k : SyntaxKind) (trees : List Plain) → is_kind k kind.Token ≡ false
      → closed text file k (row_with text file k trees) ≡ child_of text file (node_of k trees)
  closed-is k trees isnt = λ i. record {
    part = made-is text file (node_of k trees).start (node_of k trees).end (forest_of trees) k isnt i;
    start = ap (λ b. if b then Some (node_of k trees).start else start_of (forest_of trees)) (sym isnt) i;
    end = ap (λ b. if b then Some (node_of k trees).end else end_of (forest_of trees)) (sym isnt) i;
  }

  pub node-closed : (k : SyntaxKind) (trees : List Plain) → is_node (sort_of k) ≡ true
      → closed text file k (row_with text file k trees) ≡ child_of text file (node_of k trees)
  node-closed k trees node = closed-is k trees (no-token k node)

  -- what is made late does not look at what only rows of one sort keep
  late-made : (k j : SyntaxKind) (c : Forest) → is_late k ≡ true
      → made text file k (row_of text file j c) (span file (start_of c) (end_of c)) ≡ made text file k (row_of text file k c) (span file (start_of c) (end_of c))
  late-made kind.Alias j c late = refl
  late-made kind.FragmentSpread j c late = refl
  late-made kind.InlineFragment j c late = refl
  late-made kind.NonNullType j c late = refl
  late-made kind.SchemaDefinition j c late = refl
  late-made kind.ScalarTypeDefinition j c late = refl
  late-made kind.ObjectTypeDefinition j c late = refl
  late-made kind.InterfaceTypeDefinition j c late = refl
  late-made kind.UnionTypeDefinition j c late = refl
  late-made kind.EnumTypeDefinition j c late = refl
  late-made kind.InputObjectTypeDefinition j c late = refl
  late-made kind.DirectiveDefinition j c late = refl
  late-made _ j c late = absurd (let e : false ≡ true = late in cc)

  pub late-wrapped : (k j : SyntaxKind) (trees : List Plain) → is_late k ≡ true
      → wrapped text file k (row_with text file j trees) ≡ row_with text file j (node_of k trees ∷ [])
  late-wrapped k j trees late =
      ap (λ (child : Child). grown text file (empty j) child) (
      ap (λ p. let child : Child = record { part = p; start = start_of (forest_of trees); end = end_of (forest_of trees) } in child) (late-made k j (forest_of trees) late)
      ∙ closed-is k trees (late-no-token k late))
      ∙ ap (λ (r : OpenRow). grown text file r (child_of text file (node_of k trees))) (empty-is j)
      ∙ sym (grown-behind j [] (node_of k trees))

  child-none : (tree : Plain) → tree.kind ≡ kind.Ignored → tree.children ≡ nothing → child_of text file tree ≡ record { part = None; start = None; end = None }
  unfolding is_kind
  child-none tree is alone =
      ap (λ (t : Plain). child_of text file t) (λ i. record { kind = is i; start = tree.start; end = tree.end; children = alone i })

  grown-none : (r : OpenRow) → grown text file r (record { part = None; start = None; end = None }) ≡ r
  grown-none r = ap (λ s. let same : OpenRow = record { kind = r.kind; row = r.row; start = s; end = r.end } in same) (else-none r.start)

  -- an ignored token is nothing in its row
  ignored-behind : (k : SyntaxKind) (trees : List Plain) (tree : Plain) → tree.kind ≡ kind.Ignored → tree.children ≡ nothing
      → row_with text file k (trees ++ tree ∷ []) ≡ row_with text file k trees
  ignored-behind k trees tree is alone =
      grown-behind k trees tree
      ∙ ap (λ (child : Child). grown text file (row_with text file k trees) child) (child-none tree is alone)
      ∙ grown-none (row_with text file k trees)

  pub ignored-all : (k : SyntaxKind) (trees waiting : List Plain) → AreIgnored waiting
      → row_with text file k (trees ++ waiting) ≡ row_with text file k trees
  ignored-all k trees [] all = ap (row_with text file k) (append-nil trees)
  ignored-all k trees (tree ∷ waiting) all =
      ap (row_with text file k) (sym (append_assoc trees (tree ∷ []) waiting))
      ∙ ignored-all k (trees ++ tree ∷ []) waiting all.2
      ∙ ignored-behind k trees tree all.0 all.1
