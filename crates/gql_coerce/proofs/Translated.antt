-- The translation of lists and objects, part by part.
use Rattle.std.proofs.Common.{◌≡◌, ℕ, List, [], ◌∷◌, map, Option, refl, ap, ◌∙◌, rules}
use Rattle.std.specs.Str.{bytes_eq}
use Rattle.indexmap.specs.IndexMap.{insert_all}
use Rattle.jb_tree.specs.declared.value.Value.{Value as JsonValue, Array, Object}
use Rattle.gql_source.specs.Span.{Span}
use Rattle.gql_ast_base.specs.Names.{Named}
use Rattle.gql_ast_base.specs.declared.value.Value.{Value}
use Rattle.gql_ast_base.specs.declared.value.ValueKind.{ValueKind, List as ListKind, Object as ObjectKind, the_lemmas}
use Rattle.gql_coerce.specs.Outcome.{Outcome, mapped, all_of}
use Rattle.gql_coerce.specs.Translation.{translated, translated_kind, member_of}
use Rattle.gql_coerce.specs.bridge.Translation.{translated_member}

module _ (d : List ℕ) where
  kind-List : (items : List Value) (place : Option Span) → translated_kind d (ListKind items) place ≡ mapped Array (all_of (map (translated d) items))
  kind-List items place = search (rules, the_lemmas)

  abbrev beside : List (Named × Value) → List (Named × Outcome JsonValue)
  beside members = map (λ member. (member.0, translated d member.1)) members

  kind-Object : (members : List (Named × Value)) (place : Option Span)
      → translated_kind d (ObjectKind members) place ≡ mapped (λ pairs. Object (insert_all bytes_eq [] pairs)) (all_of (map member_of (beside members)))
  kind-Object members place = search (rules, the_lemmas)

  members-of : (members : List (Named × Value)) → map member_of (beside members) ≡ map (translated_member d) members
  members-of [] = refl
  members-of (member ∷ members) = ap (λ rest. translated_member d member ∷ rest) (members-of members)

  pub translated-List : (kind : ValueKind) (items : List Value) (place : Option Span) → kind ≡ ListKind items → translated_kind d kind place ≡ mapped Array (all_of (map (translated d) items))
  translated-List kind items place is = ap (λ k. translated_kind d k place) is ∙ kind-List items place

  pub translated-Object : (kind : ValueKind) (members : List (Named × Value)) (place : Option Span) → kind ≡ ObjectKind members
      → translated_kind d kind place ≡ mapped (λ pairs. Object (insert_all bytes_eq [] pairs)) (all_of (map (translated_member d) members))
  translated-Object kind members place is =
      ap (λ k. translated_kind d k place) is ∙ kind-Object members place
      ∙ ap (λ outcomes. mapped (λ pairs. Object (insert_all bytes_eq [] pairs)) (all_of outcomes)) (members-of members)
