-- The objects that the items of a list give, one by one.
use Rattle.std.proofs.Common.{◌≡◌, ℕ, zero, suc, ◌+◌, List, [], ◌∷◌, ◌++◌, drop, Some, None, Result, slice_get, sym, ap, ◌∙◌, append_assoc, add-one}
use Rattle.gql_ast_base.specs.declared.type_ref.TypeRef.{TypeRef}
use Rattle.gql_document_types.specs.declared.selection.Selection.{Selection}
use Rattle.gql_exec.specs.Mapped.{all_mapped, mapped}
use Rattle.gql_resolvers.specs.Meaning.{item_by, meanings_by}
use Rattle.gql_resolvers.specs.declared.resolve_error.FieldError.{FieldError}
use Rattle.gql_resolvers.specs.declared.resolved_value.ResolvedValue.{ResolvedValue}
use Rattle.gql_rounds.specs.Known.{entity_of}
use Rattle.gql_rounds.specs.Levels.{all_given, given}
use Rattle.gql_rounds.specs.bridge.Walked.{known_in}
use Rattle.gql_rounds.specs.Wanted.{KnownStand}
use Rattle.gql_rounds.specs.bridge.Wanted.{KnownWorld}
use Rattle.gql_rounds.specs.declared.told.Told.{Told}

abbrev pub Items : Type 0
Items = List (Result (ResolvedValue Told) FieldError)

drop-suc : {A : Type 0} (xs : List A) (i : ℕ) (x : A) → slice_get xs i ≡ Some x → drop i xs ≡ x ∷ drop (suc i) xs
drop-suc [] i x there = absurd (let e : None ≡ Some x = there in cc)
drop-suc (y ∷ ys) zero x there = ap (λ z. z ∷ ys) (let e : Some y ≡ Some x = there in let same : y ≡ x = cc in same)
drop-suc (y ∷ ys) (suc i) x there = drop-suc ys i x there

-- what is left begins with the item that is there
pub drop-got : {A : Type 0} (xs : List A) (i : ℕ) (x : A) → slice_get xs i ≡ Some x → drop i xs ≡ x ∷ drop (i + 1) xs
drop-got xs i x there = drop-suc xs i x there ∙ ap (λ k. x ∷ drop k xs) (sym (add-one i))

module _ (w : KnownWorld) (s : List (List Selection)) (ty : TypeRef) where
  -- what items give
  abbrev pub by_items : Items → List KnownStand
  by_items items = all_given w s ty (all_mapped known_in (meanings_by entity_of items))

  -- the stands so far with those of the items that are left make the whole
  abbrev pub IsEntering : (now old : List KnownStand) → (left all : Items) → Type 0
  IsEntering now old left all = now ++ by_items left ≡ old ++ by_items all

  pub entering-more : (now new old : List KnownStand) (items : Items) (i : ℕ) (item : Result (ResolvedValue Told) FieldError)
      → slice_get items i ≡ Some item → new ≡ now ++ given w s ty (mapped known_in (item_by entity_of item))
      → IsEntering now old (drop i items) items → IsEntering new old (drop (i + 1) items) items
  entering-more now new old items i item there added so_far =
      ap (λ l. l ++ by_items (drop (i + 1) items)) added
      ∙ append_assoc now (given w s ty (mapped known_in (item_by entity_of item))) (by_items (drop (i + 1) items))
      ∙ ap (λ (l : Items). now ++ by_items l) (sym (drop-got items i item there))
      ∙ so_far
