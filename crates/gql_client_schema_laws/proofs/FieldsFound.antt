-- What is found by name has the name, and is shown as it is.
use Rattle.std.proofs.Common.{◌≡◌, ℕ, Bool, true, false, cond, if◌then◌else◌, Option, Some, List, [], ◌∷◌, map, refl, sym, ap, ◌∙◌}
use Rattle.std.specs.List.{find, filter}
use Rattle.std.specs.Option.{option_map, option_map_or}
use Rattle.std.specs.Str.{bytes_eq}
use Rattle.std.proofs.lemmas.Slice.Eq.{bytes_eq-Decides}
use Rattle.gql_ast_base.specs.declared.value.Value.{Value}
use Rattle.gql_client_schema_laws.specs.Answer.{kind_among, is_named, kind_of}
use Rattle.gql_client_schema_laws.specs.Parts.{said_type}
use Rattle.gql_client_schema_laws.specs.Shown.{finished, all_finished, is_interface, its_reference, implements}
use Rattle.gql_schema_types.specs.Types.{type_called, type_name}
use Rattle.gql_schema_types.specs.declared.types.ExtendedType.{ExtendedType}
use Rattle.gql_schema_types.specs.declared.types.ExtendedType.TheVariants as type
use Rattle.gql_sdl.specs.declared.shown.ShownType.{ShownType}
use Rattle.gql_sdl.specs.declared.shown.TypeKind.TheVariants.{Scalar}

some : {X : Type 0} (a b : X) → Some a ≡ Some b → a ≡ b
some a b is = cc

pub its_name : (types : List ExtendedType) (name : List ℕ) (t : ExtendedType) → type_called name types ≡ Some t → (type_name t).text ≡ name
its_name [] name t is = absurd cc
its_name (s ∷ ss) name t is = by (bytes_eq name (type_name s).text) refl is (its_name ss name t)
  where
    by : (b : Bool) → bytes_eq name (type_name s).text ≡ b → cond b (Some s) (type_called name ss) ≡ Some t → (type_called name ss ≡ Some t → (type_name t).text ≡ name)
        → (type_name t).text ≡ name
    by true same first later = sym (ap (λ u. (type_name u).text) (some s t first)) ∙ sym ((bytes_eq-Decides name (type_name s).text).0 same)
    by false same is later = later is

module _ (why : Option Value) where
  said_name : (t : ExtendedType) → (said_type why t).name.text ≡ (type_name t).text
  said_name (type.Scalar t) = refl
  said_name (type.Object t) = refl
  said_name (type.Interface t) = refl
  said_name (type.Union t) = refl
  said_name (type.Enum t) = refl
  said_name (type.InputObject t) = refl

  module _ (all : List ShownType) where
    abbrev done : ExtendedType → ShownType
    done t = finished all (said_type why t)

    finished_name : (s : ShownType) → (finished all s).name.text ≡ s.name.text
    finished_name s = by (is_interface s.kind)
      where
        by : (b : Bool) → (if b then (record s { possible_types = map its_reference (filter (implements s.name.text) all) }) else s).name.text ≡ s.name.text
        by true = refl
        by false = refl

    finished_kind : (s : ShownType) → (finished all s).kind ≡ s.kind
    finished_kind s = by (is_interface s.kind)
      where
        by : (b : Bool) → (if b then (record s { possible_types = map its_reference (filter (implements s.name.text) all) }) else s).kind ≡ s.kind
        by true = refl
        by false = refl

    found_done : (name : List ℕ) (ts : List ExtendedType) → find (is_named name) (map (finished all) (map (said_type why) ts)) ≡ option_map done (type_called name ts)
    found_done name [] = refl
    found_done name (t ∷ ts) =
        ap (λ n. cond (bytes_eq name n) (Some (done t)) (find (is_named name) (map (finished all) (map (said_type why) ts)))) (finished_name (said_type why t) ∙ said_name t)
        ∙ ap (λ o. cond (bytes_eq name (type_name t).text) (Some (done t)) o) (found_done name ts)
        ∙ by (bytes_eq name (type_name t).text)
      where
        by : (b : Bool) → cond b (Some (done t)) (option_map done (type_called name ts)) ≡ option_map done (cond b (Some t) (type_called name ts))
        by true = refl
        by false = refl

    kind-done : (name : List ℕ) (ts : List ExtendedType) (t : ExtendedType) → type_called name ts ≡ Some t
        → kind_among (map (finished all) (map (said_type why) ts)) name ≡ (said_type why t).kind
    kind-done name ts t is =
        ap (λ o. option_map_or kind_of o Scalar) (found_done name ts) ∙ ap (λ o. option_map_or kind_of (option_map done o) Scalar) is ∙ finished_kind (said_type why t)

  -- the kind of a type by its name, among all that are shown
  pub its_kind : (name : List ℕ) (ts : List ExtendedType) (t : ExtendedType) → type_called name ts ≡ Some t
      → kind_among (all_finished (map (said_type why) ts)) name ≡ (said_type why t).kind
  its_kind name ts t is = kind-done (map (said_type why) ts) name ts t is
