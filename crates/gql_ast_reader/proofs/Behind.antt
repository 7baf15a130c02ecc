-- What is found in a row of trees that has one tree more at its end.
use Rattle.std.proofs.Common.{◌≡◌, List, [], ◌∷◌, ◌++◌, option_to_list, Option, Some, None, refl, sym, ap, ◌∙◌}
use Rattle.std.proofs.lemmas.List.{append_assoc}
use Rattle.std.specs.Option.{option_map}
use Rattle.gql_ast_base.specs.Forest.{Plain, row_of}
use Rattle.gql_ast_base.specs.SyntaxKind.{SyntaxKind}
use Rattle.gql_ast_base.specs.Parts.{or_else, head, gather, first, of_kind, child}

module _ {T : Type 0} (f : Plain → Option T) where
  pub gather-behind : (trees : List Plain) (tree : Plain) → gather f (row_of (trees ++ tree ∷ [])) ≡ gather f (row_of trees) ++ option_to_list (f tree)
  gather-behind [] tree = alone (option_to_list (f tree))
    where
      alone : (l : List T) → l ++ [] ≡ l
      alone [] = refl
      alone (x ∷ l) = ap (λ m. x ∷ m) (alone l)
  gather-behind (t ∷ trees) tree =
      ap (λ l. option_to_list (f t) ++ l) (gather-behind trees tree)
      ∙ sym (append_assoc (option_to_list (f t)) (gather f (row_of trees)) (option_to_list (f tree)))

pub head-behind : {T : Type 0} (list : List T) (o : Option T) → head (list ++ option_to_list o) ≡ or_else (head list) o
head-behind [] None = refl
head-behind [] (Some x) = refl
head-behind (y ∷ list) o = refl

pub first-behind : {T : Type 0} (f : Plain → Option T) (trees : List Plain) (tree : Plain) → first f (row_of (trees ++ tree ∷ [])) ≡ or_else (first f (row_of trees)) (f tree)
first-behind f trees tree = ap head (gather-behind f trees tree) ∙ head-behind (gather f (row_of trees)) (f tree)

pub map-else : {S T : Type 0} (g : S → T) (a b : Option S) → option_map g (or_else a b) ≡ or_else (option_map g a) (option_map g b)
map-else g None b = refl
map-else g (Some x) b = refl

-- what the first tree of a kind is made into
pub child-behind : {T : Type 0} (g : Plain → T) (kind : SyntaxKind) (trees : List Plain) (tree : Plain)
    → option_map g (child kind (row_of (trees ++ tree ∷ []))) ≡ or_else (option_map g (child kind (row_of trees))) (option_map g (of_kind kind tree))
child-behind g kind trees tree = ap (option_map g) (first-behind (of_kind kind) trees tree) ∙ map-else g (child kind (row_of trees)) (of_kind kind tree)
