-- What the definitions give of small examples.
use Rattle.std.proofs.Common.{rules, ◌≡◌, ◌+◌, ◌*◌, ℕ, zero, suc, List, [], ◌∷◌, ◌++◌, length, refl, ap, ◌∙◌, subst}
use Rattle.std.specs.List.{AllByRecursion}
use Rattle.gql_ast_base.specs.Names.{Named}
use Rattle.gql_ast_base.specs.TypeParts.{named_type}
use Rattle.gql_ast_base.specs.declared.type_ref.TypeRef.{the_lemmas, List as ListOf, NonNullList}
use Rattle.gql_ast_base.specs.declared.type_ref.TypeRef.TheVariants.{Named as NamedType}
use Rattle.gql_ast_base.specs.declared.directive.Directive.{Directive}
use Rattle.gql_collect.specs.Flat.{Shape, when, field_of, opened, flat_within, flat}
use Rattle.gql_collect.specs.Groups.{response_key}
use Rattle.gql_collect.specs.Kept.{Variables, is_kept}
use Rattle.gql_collect.specs.Setting.{Setting}
use Rattle.gql_collect.specs.Sizes.{size, fragments_size}
use Rattle.gql_document_types.proofs.Variants.{out-field}
use Rattle.gql_document_types.specs.declared.fragment.Fragment.{Fragment}
use Rattle.gql_document_types.specs.declared.selection.Field.{Field}
use Rattle.gql_document_types.specs.declared.selection.Selection.{out-Selection}
use Rattle.gql_document_types.specs.declared.selection.Selection.TheVariants as selection
use Rattle.gql_schema_types.specs.declared.schema.Schema.{Schema}
use Rattle.gql_schema_types.specs.declared.types.ObjectType.{ObjectType}
use Rattle.gql_valid_laws.specs.Covariant.{Stands, lists_in}
use Rattle.gql_valid_laws.specs.Examples.{AreOfTwoNames, both}
use Rattle.gql_valid_laws.specs.Merge.{HaveOneName, MergeTo, Merge, on}

pub lists-counted : (name : Named) → lists_in (ListOf (NonNullList (NamedType name))) ≡ 2
lists-counted name =
    let bare : lists_in (NamedType name) ≡ 0 = search (rules, the_lemmas) in
    let inner : lists_in (NonNullList (NamedType name)) ≡ suc (lists_in (NamedType name)) = search (rules, the_lemmas) in
    let outer : lists_in (ListOf (NonNullList (NamedType name))) ≡ suc (lists_in (NonNullList (NamedType name))) = search (rules, the_lemmas) in
    outer ∙ ap suc inner ∙ ap (λ n. suc (suc n)) bare

module _ (schema : Schema) (fragments : List Fragment) (variables : Variables) (T : ObjectType) where
  abbrev s : Setting
  s = on HaveOneName schema fragments variables T

  nothing : (n : ℕ) → flat_within s n [] ≡ []
  nothing zero = refl
  nothing (suc n) = refl

  one-field : (n : ℕ) (f : Field) → f.directives ≡ [] → field_of s (out-Selection (selection.Field f)) ++ flat_within s n (opened s (out-Selection (selection.Field f))) ≡ f ∷ []
  one-field n f plain =
      ap (λ (k : Shape). field_of s k ++ flat_within s n (opened s k)) (out-field f)
      ∙ ap (λ (ds : List Directive). when (is_kept variables ds) (f ∷ []) ++ flat_within s n []) plain ∙ ap (λ l. f ∷ l) (nothing n)

  abbrev given : ℕ → Field → List Field
  given n f = field_of s (out-Selection (selection.Field f)) ++ flat_within s n (opened s (out-Selection (selection.Field f)))

  within : (n : ℕ) (f g : Field) → f.directives ≡ [] → g.directives ≡ [] → flat_within s (suc n) (both f g) ≡ f ∷ g ∷ []
  within n f g plain plain_too = ap (λ l. l ++ (given n g ++ [])) (one-field n f plain) ∙ ap (λ l. f ∷ (l ++ [])) (one-field n g plain_too)

  two-fields : (f g : Field) → f.directives ≡ [] → g.directives ≡ [] → flat s (both f g) ≡ f ∷ g ∷ []
  unfolding flat
  two-fields f g plain plain_too = within (size (both f g) + suc (length fragments) * suc (fragments_size fragments)) f g plain plain_too

  abbrev Likes : Field → Field → Type 0
  Likes f g =
      response_key f ≡ response_key g
      → HaveOneName f g × ((V : ObjectType) → Stands schema V (named_type f.definition.ty).text → Stands schema V (named_type g.definition.ty).text
      → MergeTo HaveOneName schema fragments variables 0 V f.selection_set.selections g.selection_set.selections)

  pub no-merge : (f g : Field) → AreOfTwoNames f g → Merge HaveOneName schema fragments variables T (both f g) (both f g) → ⊥
  no-merge f g two merge =
      let all : AllByRecursion (λ h. AllByRecursion (Likes h) (f ∷ g ∷ [])) (f ∷ g ∷ []) =
      subst (λ l. AllByRecursion (λ h. AllByRecursion (Likes h) l) l) (two-fields f g two.plain two.plain_too) (merge 1) in
      two.apart (all.0.1.0 two.one_key).0
