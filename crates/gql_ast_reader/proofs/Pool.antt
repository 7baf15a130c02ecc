-- Rows that are kept in one list, those of the outermost nodes first.
use Rattle.std.proofs.Common.{◌≡◌, ℕ, zero, suc, ◌<◌, ◌≤◌, true, false, List, [], ◌∷◌, ◌++◌, length, get_or, Some, refl, sym, ap, subst, ◌∙◌, arith}
use Rattle.std.specs.Prelude.{slice_get, slice_set}
use Rattle.std.proofs.lemmas.List.{length-set}
use Rattle.std.proofs.lemmas.Option.{slice_get_within, get_or_from_slice_get}
use Rattle.gql_source.specs.declared.file_id.FileId.{FileId}
use Rattle.gql_cst.specs.Late.{is_late}
use Rattle.gql_cst.specs.Leaves.{part_of as sort_of}
use Rattle.gql_cst.specs.bridge.Machine.{node_of}
use Rattle.gql_cst.specs.bridge.Sound.{is_node}
use Rattle.gql_ast_base.specs.Forest.{Plain}
use Rattle.gql_ast_base.specs.SyntaxKind.{SyntaxKind}
use Rattle.gql_ast_base.specs.Parts.{Text}
use Rattle.gql_ast_reader.specs.declared.open_row.OpenRow.{OpenRow}
use Rattle.gql_ast_reader.specs.declared.open_rows.OpenRows.{OpenRows}
use Rattle.gql_cst.specs.bridge.Open as opens
use Rattle.gql_cst.specs.bridge.Open.{Open, grown_by}
use Rattle.gql_ast_reader.specs.bridge.Stand.{Child, Keeps, Begins, Ends, Hands, kind_of, empty, child_of, row_with, row_for, grown, closed, wrapped, AreKept}
use Rattle.gql_ast_reader.proofs.Grown.{grown-behind, empty-is, node-closed, late-wrapped}

get-set-other : {T : Type 0} (xs : List T) (i k : ℕ) (x : T) → k < i → slice_get (slice_set xs i x) k ≡ slice_get xs k
get-set-other [] i k x lt = refl
get-set-other (y ∷ ys) zero k x lt = absurd (omega arith)
get-set-other (y ∷ ys) (suc i) zero x lt = refl
get-set-other (y ∷ ys) (suc i) (suc k) x lt = get-set-other ys i k x (omega arith)

get-set-same : {T : Type 0} (xs : List T) (i : ℕ) (x : T) → i < length xs → slice_get (slice_set xs i x) i ≡ Some x
get-set-same [] i x lt = absurd (omega arith)
get-set-same (y ∷ ys) zero x lt = refl
get-set-same (y ∷ ys) (suc i) x lt = get-set-same ys i x (omega arith)

get-pushed : {T : Type 0} (xs : List T) (k : ℕ) (x : T) → k < length xs → slice_get (xs ++ x ∷ []) k ≡ slice_get xs k
get-pushed [] k x lt = absurd (omega arith)
get-pushed (y ∷ ys) zero x lt = refl
get-pushed (y ∷ ys) (suc k) x lt = get-pushed ys k x (omega arith)

get-last : {T : Type 0} (xs : List T) (x : T) → slice_get (xs ++ x ∷ []) (length xs) ≡ Some x
get-last [] x = refl
get-last (y ∷ ys) x = get-last ys x

set-last : {T : Type 0} (xs : List T) (x y : T) → slice_set (xs ++ x ∷ []) (length xs) y ≡ xs ++ y ∷ []
set-last [] x y = refl
set-last (z ∷ xs) x y = ap (λ l. z ∷ l) (set-last xs x y)

-- the one that came behind these begins in place
pub last-begun : {T : Type 0} (xs ys : List T) (x y z : T) (i : ℕ) → ys ≡ xs ++ x ∷ [] → i ≡ length xs → y ≡ z → slice_set ys i y ≡ xs ++ z ∷ []
last-begun xs ys x y z i behind at is = (λ k. slice_set (behind k) (at k) (is k)) ∙ set-last xs x z

-- a row begins among these, or behind them
pub begun-in : (old new : OpenRows) (k : SyntaxKind) (r : OpenRow) → old.depth < length old.rows.items → r ≡ empty k → new.depth ≡ suc old.depth
    → new.rows.items ≡ slice_set old.rows.items old.depth r → Begins k old new
begun-in old new k r lt r-is depth items = record {
  depth = depth;
  begun = ap (λ l. slice_get l old.depth) items ∙ get-set-same old.rows.items old.depth r lt ∙ ap Some r-is;
  before = λ i before. ap (λ l. slice_get l i) items ∙ get-set-other old.rows.items old.depth i r before;
}

pub begun-behind : (old new : OpenRows) (k : SyntaxKind) → old.depth ≡ length old.rows.items → new.depth ≡ suc old.depth
    → new.rows.items ≡ old.rows.items ++ empty k ∷ [] → Begins k old new
begun-behind old new k at depth items = record {
  depth = depth;
  begun = (λ i. slice_get (items i) (at i)) ∙ get-last old.rows.items (empty k);
  before = λ i before. ap (λ l. slice_get l i) items ∙ get-pushed old.rows.items i (empty k) (omega (arith, at, before));
}

-- two that stand behind each other change their places
swapped : {T : Type 0} (xs ys : List T) (n : ℕ) (x y : T) → ys ≡ slice_set (slice_set xs n (get_or xs (suc n) x)) (suc n) (get_or xs n x)
    → slice_get xs n ≡ Some x → slice_get xs (suc n) ≡ Some y
    → (slice_get ys n ≡ Some y) × (slice_get ys (suc n) ≡ Some x) × ((i : ℕ) → i < n → slice_get ys i ≡ slice_get xs i)
swapped xs ys n x y is first second =
    let within : suc n < length xs = slice_get_within xs (suc n) _ second in
    let one = slice_set xs n (get_or xs (suc n) x) in
    let long : length one ≡ length xs = length-set xs n (get_or xs (suc n) x) in (
      ap (λ l. slice_get l n) is ∙ get-set-other one (suc n) n _ (omega arith) ∙ get-set-same xs n _ (omega (arith, within))
          ∙ ap Some (get_or_from_slice_get xs (suc n) _ x second),
      ap (λ l. slice_get l (suc n)) is ∙ get-set-same one (suc n) _ (omega (arith, within, long)) ∙ ap Some (get_or_from_slice_get xs n _ x first),
      λ i before. ap (λ l. slice_get l i) is ∙ get-set-other one (suc n) i _ (omega arith) ∙ get-set-other xs n i _ before,
    )

-- where nothing is read there is none
pub none-le : (n l : ℕ) → (n < l → false ≡ true) → l ≤ n
none-le n l h = let no : n < l → ⊥ = λ lt. (let e : false ≡ true = h lt in cc) in omega (arith, no)

module _ (text : Text) (file : FileId) where
  begun-is : (o : Open) (k : SyntaxKind) → kind_of o.node.kind ≡ k → o.trees ≡ [] → empty k ≡ row_for text file o
  begun-is o k is none =
      empty-is text file k ∙ ap (λ j. row_with text file j []) (sym is) ∙ ap (λ trees. row_with text file (kind_of o.node.kind) trees) (sym none)

  -- the rows of these nodes stay where those behind them change
  pub kept-set : (rows : List OpenRow) (os : List Open) (i : ℕ) (r : OpenRow) → length os ≤ i → AreKept text file rows os → AreKept text file (slice_set rows i r) os
  kept-set rows [] i r le kept = tt {0}
  kept-set rows (o ∷ os) i r le kept =
      (kept.0, get-set-other rows i (length os) r (omega arith) ∙ kept.1, kept-set rows os i r (omega arith) kept.2)

  -- the innermost row grows, or becomes one node
  pub kept-grown : (rows : List OpenRow) (inner : Open) (os : List Open) (tree : Plain) → AreKept text file rows (inner ∷ os)
      → AreKept text file (slice_set rows (length os) (grown text file (row_for text file inner) (child_of text file tree))) (grown_by (tree ∷ []) inner ∷ os)
  kept-grown rows inner os tree kept = (
    kept.0,
    get-set-same rows (length os) _ (slice_get_within rows (length os) _ kept.1) ∙ ap Some (sym (grown-behind text file (kind_of inner.node.kind) inner.trees tree)),
    kept-set rows os (length os) _ (omega arith) kept.2,
  )

  pub kept-wrapped : (rows : List OpenRow) (inner : Open) (os : List Open) (k : SyntaxKind) → is_late k ≡ true → AreKept text file rows (inner ∷ os)
      → AreKept text file (slice_set rows (length os) (wrapped text file k (row_for text file inner))) (opens.wrapped k inner ∷ os)
  kept-wrapped rows inner os k late kept = (
    kept.0,
    get-set-same rows (length os) _ (slice_get_within rows (length os) _ kept.1) ∙ ap Some (late-wrapped text file k (kind_of inner.node.kind) inner.trees late),
    kept-set rows os (length os) _ (omega arith) kept.2,
  )

  -- what the innermost node is
  pub kept-closed : (rows : List OpenRow) (inner : Open) (os : List Open) (k : SyntaxKind) → inner.node.kind ≡ Some k → AreKept text file rows (inner ∷ os)
      → closed text file k (row_for text file inner) ≡ child_of text file (node_of k inner.trees)
  kept-closed rows inner os k is kept =
      let same : kind_of inner.node.kind ≡ k = ap kind_of is in
      ap (λ j. closed text file k (row_with text file j inner.trees)) same
      ∙ node-closed text file k inner.trees (ap (λ j. is_node (sort_of j)) (sym same) ∙ kept.0)

  -- the row that was read is the innermost
  read-row : (rows : List OpenRow) (inner : Open) (os : List Open) (n : ℕ) (r : OpenRow) → AreKept text file rows (inner ∷ os)
      → n ≡ length os → r ≡ get_or rows n r → r ≡ row_for text file inner
  read-row rows inner os n r kept is at = at ∙ ap (λ m. get_or rows m r) is ∙ get_or_from_slice_get rows (length os) _ r kept.1

  pub grown-at : (rows : List OpenRow) (inner : Open) (os : List Open) (tree : Plain) (child : Child) (n : ℕ) (r new : OpenRow)
      → AreKept text file rows (inner ∷ os) → n ≡ length os → r ≡ get_or rows n r → child ≡ child_of text file tree → new ≡ grown text file r child
      → AreKept text file (slice_set rows n new) (grown_by (tree ∷ []) inner ∷ os)
  grown-at rows inner os tree child n r new kept is at child-is new-is =
      let whole : new ≡ grown text file (row_for text file inner) (child_of text file tree) =
      new-is ∙ ap (λ (s : OpenRow). grown text file s child) (read-row rows inner os n r kept is at)
      ∙ ap (λ (d : Child). grown text file (row_for text file inner) d) child-is in
      let P : List OpenRow → Type 0 = λ items. AreKept text file items (grown_by (tree ∷ []) inner ∷ os) in
      subst P (sym (λ i. slice_set rows (is i) (whole i))) (kept-grown rows inner os tree kept)

  pub wrapped-at : (rows : List OpenRow) (inner : Open) (os : List Open) (k : SyntaxKind) (n : ℕ) (r new : OpenRow) → is_late k ≡ true
      → AreKept text file rows (inner ∷ os) → n ≡ length os → r ≡ get_or rows n r → new ≡ wrapped text file k r
      → AreKept text file (slice_set rows n new) (opens.wrapped k inner ∷ os)
  wrapped-at rows inner os k n r new late kept is at new-is =
      let whole : new ≡ wrapped text file k (row_for text file inner) = new-is ∙ ap (λ (s : OpenRow). wrapped text file k s) (read-row rows inner os n r kept is at) in
      let P : List OpenRow → Type 0 = λ items. AreKept text file items (opens.wrapped k inner ∷ os) in
      subst P (sym (λ i. slice_set rows (is i) (whole i))) (kept-wrapped rows inner os k late kept)

  -- the rows of these nodes stay, where they all are read as before
  kept-same : (rows items : List OpenRow) (os : List Open) (n : ℕ) → length os ≤ n → ((i : ℕ) → i < n → slice_get items i ≡ slice_get rows i)
      → AreKept text file rows os → AreKept text file items os
  kept-same rows items [] n le same kept = tt {0}
  kept-same rows items (o ∷ os) n le same kept =
      (kept.0, same (length os) (omega arith) ∙ kept.1, kept-same rows items os n (omega arith) same kept.2)

  -- one more node is open
  pub begins : (old new : OpenRows) (os : List Open) (o : Open) (k : SyntaxKind) → Begins k old new → is_node (sort_of k) ≡ true
      → kind_of o.node.kind ≡ k → o.trees ≡ [] → Keeps text file old os → Keeps text file new (o ∷ os)
  begins old new os o k b node is none keeps = record {
    depth = b.depth ∙ ap suc keeps.depth;
    kept = (
      ap (λ j. is_node (sort_of j)) is ∙ node,
      ap (slice_get new.rows.items) (sym keeps.depth) ∙ b.begun ∙ ap Some (begun-is o k is none),
      kept-same old.rows.items new.rows.items os old.depth (omega (arith, keeps.depth)) b.before keeps.kept,
    );
  }

  -- the innermost ends, and comes in the one around it
  pub ends : (old new : OpenRows) (inner outer : Open) (os : List Open) (k : SyntaxKind) → Ends text file k old new → inner.node.kind ≡ Some k
      → Keeps text file old (inner ∷ outer ∷ os) → Keeps text file new (grown_by (node_of k inner.trees ∷ []) outer ∷ os)
  ends old new inner outer os k e is keeps =
      let end = e (length os) keeps.depth in
      let rest : AreKept text file old.rows.items (outer ∷ os) = keeps.kept.2 in
      record {
        depth = end.0;
        kept = (
          rest.0,
          end.1.grows (row_for text file inner) (row_for text file outer) keeps.kept.1 rest.1
              ∙ ap (λ (child : Child). Some (grown text file (row_for text file outer) child)) (kept-closed old.rows.items inner (outer ∷ os) k is keeps.kept)
              ∙ ap Some (sym (grown-behind text file (kind_of outer.node.kind) outer.trees (node_of k inner.trees))),
          kept-same old.rows.items new.rows.items os (length os) (omega arith) end.1.before rest.2,
        );
      }

  -- a row with nothing in it takes the place of the innermost, which ends behind it
  pub wraps : (old begun new : OpenRows) (apart : List OpenRow) (k : SyntaxKind) (n next : ℕ) (r : OpenRow) (inner : Open) (os : List Open) → old.depth ≡ suc n → next ≡ suc n
      → r ≡ get_or old.rows.items n r → Begins r.kind old begun
      → apart ≡ slice_set (slice_set begun.rows.items n (get_or begun.rows.items next r)) next (get_or begun.rows.items n r)
      → ((at : ℕ) → begun.depth ≡ suc (suc at) → (new.depth ≡ suc at) × Hands text file k at apart new.rows.items)
      → is_late k ≡ true → Keeps text file old (inner ∷ os) → Keeps text file new (opens.wrapped k inner ∷ os)
  wraps old begun new apart k n next r inner os depth next-is at b items e late keeps =
      let place : n ≡ length os = omega (arith, keeps.depth, depth) in
      let read : r ≡ row_for text file inner = read-row old.rows.items inner os n r keeps.kept place at in
      let was : slice_get begun.rows.items n ≡ Some r =
      b.before n (omega (arith, depth)) ∙ ap (slice_get old.rows.items) place ∙ keeps.kept.1 ∙ ap Some (sym read) in
      let fresh : slice_get begun.rows.items (suc n) ≡ Some (empty r.kind) = ap (slice_get begun.rows.items) (sym depth) ∙ b.begun in
      let At : ℕ → Type 0 = λ m. apart ≡ slice_set (slice_set begun.rows.items n (get_or begun.rows.items m r)) m (get_or begun.rows.items n r) in
      let two = swapped begun.rows.items apart n r (empty r.kind) (subst At next-is items) was fresh in
      let end = e n (b.depth ∙ ap suc depth) in
      record {
        depth = end.0 ∙ ap suc place;
        kept = (
          keeps.kept.0,
          ap (slice_get new.rows.items) (sym place)
              ∙ end.1.grows r (empty r.kind) two.1 two.0
              ∙ ap (λ (s : OpenRow). Some (wrapped text file k s)) read
              ∙ ap Some (late-wrapped text file k (kind_of inner.node.kind) inner.trees late),
          kept-same old.rows.items new.rows.items os n (omega (arith, place)) (λ i lt. end.1.before i lt ∙ two.2 i lt ∙ b.before i (omega (arith, depth, lt))) keeps.kept.2,
        );
      }
