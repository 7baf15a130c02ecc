-- Lists whose objects stand as others.
use Rattle.std.proofs.Common.{◌≡◌, List, [], ◌∷◌, ◌++◌, map, Result, refl, sym, ap, ◌∙◌}
use Rattle.std.proofs.lemmas.List.{append-nil}
use Rattle.gql_resolvers.specs.Resolved.{answer_then}
use Rattle.gql_resolvers.specs.Meaning.{item_by, meanings_by}
use Rattle.gql_resolvers.specs.declared.resolve_error.FieldError.{FieldError}
use Rattle.gql_resolvers.specs.declared.resolved_value.ResolvedValue.{ResolvedValue}
use Rattle.gql_exec.specs.Mapped.{all_mapped}
use Rattle.gql_exec.proofs.Weights.{told}

module _ {O P X Y : Type 0} (sees : O → X) (shows : P → Y) (stands : X → Y) where
  items-stand : (made : List (Result (ResolvedValue P) FieldError)) (items : List (Result (ResolvedValue O) FieldError))
      → map (item_by shows) made ≡ map (told sees stands) items → meanings_by shows made ≡ all_mapped stands (meanings_by sees items)
  items-stand [] [] same = refl
  items-stand [] (r ∷ rs) same = cc
  items-stand (p ∷ ps) [] same = cc
  items-stand (p ∷ ps) (r ∷ rs) same =
      let first : item_by shows p ≡ told sees stands r = cc in
      let rest : map (item_by shows) ps ≡ map (told sees stands) rs = cc in
      ap (λ m. answer_then m (meanings_by shows ps)) first ∙ ap (answer_then (told sees stands r)) (items-stand ps rs rest)

  -- a list that is made to its end
  pub list-stands : (made : List (Result (ResolvedValue P) FieldError)) (left items : List (Result (ResolvedValue O) FieldError)) → left ≡ []
      → map (item_by shows) made ++ map (told sees stands) left ≡ map (told sees stands) items → meanings_by shows made ≡ all_mapped stands (meanings_by sees items)
  list-stands made left items none so_far =
      items-stand made items (sym (append-nil (map (item_by shows) made)) ∙ ap (λ l. map (item_by shows) made ++ map (told sees stands) l) (sym none) ∙ so_far)
