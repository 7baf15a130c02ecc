-- What holds of all that trees stand for.
use Rattle.std.proofs.Common.{◌≡◌, Bool, true, false, ◌&&◌, if◌then◌else◌, List, [], ◌∷◌, ◌++◌, option_to_list, Option, Some, None, All, refl, sym, ap, subst}
use Rattle.std.specs.Prelude.{option_and_then, slice_range}
use Rattle.std.specs.Option.{option_map}
use Rattle.std.proofs.lemmas.List.Elements.{All-cons, All-nil}
use Rattle.gql_grammar.specs.declared.word.Word.{Word}
use Rattle.gql_grammar.specs.declared.syntax_kind.SyntaxKind.{SyntaxKind}
use Rattle.gql_grammar.specs.Nodes.{AllAllowed}
use Rattle.gql_grammar.specs.Row.{Row}
use Rattle.gql_cst.specs.Forest.{Forest, Plain, nothing, tree_then}
use Rattle.gql_cst.specs.Leaves.{Part, word, node, part_of}
use Rattle.gql_cst.specs.Sentences.{row_then, shown}
use Rattle.gql_cst.specs.Words.{word_of}
use Rattle.gql_ast_base.specs.Kinds.{is_kind}
use Rattle.gql_ast_base.specs.Parts.{Text, or_else, head, gather, child, children_of, inside}
use Rattle.gql_ast_laws.proofs.Inner.{both_ways, node_of, here, later}
use Rattle.gql_ast_laws.proofs.Shown.{node-row, rest-row}

abbrev pub Each : {X : Type 0} → (X → Type 0) → List X → Type 0
Each P [] = Unit {0}
Each P (x ∷ xs) = P x × Each P xs

abbrev pub IfAny : {X : Type 0} → (X → Type 0) → Option X → Type 0
IfAny P None = Unit {0}
IfAny P (Some x) = P x

module _ {X : Type 0} (P : X → Type 0) where
  pub all-of : (xs : List X) → Each P xs → All P xs
  all-of [] each = All-nil P
  all-of (x ∷ xs) each = All-cons P x xs each.0 (all-of xs each.1)

  pub then-each : (o : Option X) (xs : List X) → IfAny P o → Each P xs → Each P (option_to_list o ++ xs)
  then-each None xs h each = each
  then-each (Some x) xs h each = (h, each)

  pub head-any : (xs : List X) → Each P xs → IfAny P (head xs)
  head-any [] each = tt
  head-any (x ∷ xs) each = each.0

  pub or-any : (o p : Option X) → IfAny P o → IfAny P p → IfAny P (or_else o p)
  or-any None p h g = g
  or-any (Some x) p h g = h

  pub if-any : (b : Bool) (o p : Option X) → IfAny P o → IfAny P p → IfAny P (if b then o else p)
  if-any true o p h g = h
  if-any false o p h g = g

  pub else-any : (b : Bool) (o p : Option X) → b ≡ false → IfAny P p → IfAny P (if b then o else p)
  else-any true o p is h = absurd (cc)
  else-any false o p is h = h

  pub map-any : {Y : Type 0} (f : Y → X) (o : Option Y) → IfAny (λ (y : Y). P (f y)) o → IfAny P (option_map f o)
  map-any f None h = tt
  map-any f (Some y) h = h

  pub map-always : {Y : Type 0} (f : Y → X) (o : Option Y) → ((y : Y) → P (f y)) → IfAny P (option_map f o)
  map-always f None h = tt
  map-always f (Some y) h = h y

  pub then-always : {Y : Type 0} (f : Y → Option X) (o : Option Y) → ((y : Y) → IfAny P (f y)) → IfAny P (option_and_then f o)
  then-always f None h = tt
  then-always f (Some y) h = h y

-- ---- trees that their rules allow

module _ (text : Text) where
  -- what stands in a node is allowed
  abbrev pub IsKnown : Plain → Type 0
  IsKnown tree = part_of tree.kind ≡ node → AllAllowed (shown text tree.children)

  known-row : (k : SyntaxKind) (part : Part) (w : Word) (inner x : Row) → AllAllowed (row_then part k w inner x) → part ≡ node → AllAllowed inner
  known-row k part w inner x a p = (node-row text k k part w inner x p refl a).1

  module _ {X : Type 0} (P : X → Type 0) where
    pub gather-each : (f : Plain → Option X) → ((tree : Plain) → IsKnown tree → IfAny P (f tree)) → (row : Forest) → AllAllowed (shown text row) → Each P (gather f row)
    gather-each f h nothing a = tt
    gather-each f h (tree_then k start end children rest) a =
        let w = word_of (slice_range text start end) in
        let tree : Plain = record { kind = k; start = start; end = end; children = children } in
        then-each P (f tree) (gather f rest) (h tree (known-row k (part_of k) w (shown text children) (shown text rest) a))
        (gather-each f h rest (rest-row text (part_of k) k w (shown text children) (shown text rest) a))

    -- what is made of trees of one kind
    pub kind-any : (known : SyntaxKind) → part_of known ≡ node → (tree : Plain) → IsKnown tree → (o : Option X) → (AllAllowed (shown text tree.children) → IfAny P o)
        → IfAny P (if is_kind tree.kind known then o else None)
    kind-any known is tree k o h =
        both_ways (is_kind tree.kind known)
        (λ e. if-any P (is_kind tree.kind known) o None (h (k (node_of tree.kind known is e))) tt)
        (λ e. else-any P (is_kind tree.kind known) o None e tt)

    pub kind-also-any : (known : SyntaxKind) → part_of known ≡ node → (tree : Plain) → IsKnown tree → (b : Bool) (o : Option X) → (AllAllowed (shown text tree.children) → IfAny P o)
        → IfAny P (if is_kind tree.kind known && b then o else None)
    kind-also-any known is tree k b o h =
        both_ways (is_kind tree.kind known)
        (λ e. if-any P (is_kind tree.kind known && b) o None (h (k (node_of tree.kind known is e))) tt)
        (λ e. else-any P (is_kind tree.kind known && b) o None (ap (λ c. c && b) e) tt)

  pub inside-allowed : (known : SyntaxKind) → part_of known ≡ node → (row : Forest) → AllAllowed (shown text row) → AllAllowed (shown text (inside known row))
  inside-allowed known is nothing a = tt
  inside-allowed known is (tree_then k start end children rest) a =
      let w = word_of (slice_range text start end) in
      both_ways (is_kind k known)
      (λ e.
      subst (λ (o : Option Plain). AllAllowed (shown text (children_of o))) (sym (here known k start end children rest e))
      (known-row k (part_of k) w (shown text children) (shown text rest) a (node_of k known is e)))
      (λ e.
      subst (λ (o : Option Plain). AllAllowed (shown text (children_of o))) (sym (later known k start end children rest e))
      (inside-allowed known is rest (rest-row text (part_of k) k w (shown text children) (shown text rest) a)))
