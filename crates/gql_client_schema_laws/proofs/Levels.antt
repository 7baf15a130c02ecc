-- References to types are read as they were made.
use Rattle.std.proofs.Common.{◌≡◌, ℕ, zero, suc, if◌then◌else◌, Option, Some, None, List, refl, sym, ap, subst, rules}
use Rattle.std.specs.Prelude.{codes}
use Rattle.std.specs.Map.{lookup}
use Rattle.std.specs.Str.{bytes_eq}
use Rattle.gql_ast_base.specs.Names.{Named}
use Rattle.gql_ast_base.specs.declared.type_ref.TypeRef.{TypeRef, roll-TypeRef, out-TypeRef, List as ListOf, NonNullList, the_lemmas}
use Rattle.gql_ast_base.specs.declared.type_ref.TypeRef.TheOpen.{TypeRef-F}
use Rattle.gql_ast_base.specs.declared.type_ref.TypeRef.TheVariants as ref
use Rattle.gql_sdl.specs.declared.shown.ShownType.{ShownType}
use Rattle.gql_sdl.specs.declared.shown.TypeKind.{TypeKind}
use Rattle.gql_sdl.specs.declared.shown.TypeKind.TheVariants as kind
use Rattle.jb_tree.specs.declared.value.Value.TheVariants as json
use Rattle.gql_client_schema_laws.specs.Answer.{Pairs, kind_text, kind_among, head_level, inside_level, both_of, of_type, reference_pairs, reference_value}
use Rattle.gql_client_schema.specs.Members.{Members, right, in_object, required}
use Rattle.gql_client_schema_laws.specs.Proper.{IsName, ends_level, EndsWithin}
use Rattle.gql_client_schema.specs.Reading.{Reading, gives, and_then, Gives}
use Rattle.gql_client_schema.specs.References.{kind_of, read_kind, head_by, head_of, non_null_at, non_null, with_head, joined_head, link_of, nested, inner, linked, reference_of, read_reference}
use Rattle.gql_client_schema_laws.proofs.Steps.{chained, goes_on, required_then, text_then, named_then, nameless_then, then_gives, required_gives, in_object_gives, object_is_not_null, null_is_null}

-- ---- one level, by its kind and name

module _ (members : Members) (within : Members → Reading (Option TypeRef)) (text : List ℕ) (inside found : Option TypeRef) where
  linked_gives : lookup (bytes_eq (codes "kind")) members ≡ Some (json.String text) → Gives (within members) inside
      → Gives (and_then (kind_of text) (λ k. and_then (head_by k members) (λ h. gives (with_head h inside)))) found
      → Gives (link_of within members) found
  linked_gives is given h =
      chained (head_of members) (λ a. and_then (within members) (λ b. gives (a, b))) (λ parts. gives (joined_head parts)) found
      (chained (required read_kind (codes "kind") members) (λ k. head_by k members)
      (λ a. and_then (and_then (within members) (λ b. gives (a, b))) (λ parts. gives (joined_head parts))) found
      (required_then read_kind (codes "kind") members (json.String text)
      (λ k. and_then (head_by k members) (λ a. and_then (and_then (within members) (λ b. gives (a, b))) (λ parts. gives (joined_head parts)))) found is
      (text_then kind_of (λ k. and_then (head_by k members) (λ a. and_then (and_then (within members) (λ b. gives (a, b))) (λ parts. gives (joined_head parts)))) text found
      (goes_on (kind_of text) (λ k. and_then (head_by k members) (λ a. gives (with_head a inside)))
      (λ k. and_then (head_by k members) (λ a. and_then (and_then (within members) (λ b. gives (a, b))) (λ parts. gives (joined_head parts)))) found
      (λ k. goes_on (head_by k members) (λ a. gives (with_head a inside))
      (λ a. and_then (and_then (within members) (λ b. gives (a, b))) (λ parts. gives (joined_head parts))) found
      (λ a last. chained (within members) (λ b. gives (a, b)) (λ parts. gives (joined_head parts)) found
      (then_gives (λ b. gives (joined_head (a, b))) (within members) inside found given last)))
      h))))

module _ (members : Members) (name : Named) (named : IsName name) (name_is : lookup (bytes_eq (codes "name")) members ≡ Some (json.String name.text)) where
  named_head_gives : (inside : Option TypeRef) (k : TypeKind)
      → Gives (and_then (kind_of (kind_text k)) (λ q. and_then (head_by q members) (λ h. gives (with_head h inside)))) (Some (ref.Named name))
  named_head_gives inside kind.Scalar = named_then _ (λ h. gives (with_head h inside)) members name (Some (ref.Named name)) named name_is refl
  named_head_gives inside kind.Object = named_then _ (λ h. gives (with_head h inside)) members name (Some (ref.Named name)) named name_is refl
  named_head_gives inside kind.Interface = named_then _ (λ h. gives (with_head h inside)) members name (Some (ref.Named name)) named name_is refl
  named_head_gives inside kind.Union = named_then _ (λ h. gives (with_head h inside)) members name (Some (ref.Named name)) named name_is refl
  named_head_gives inside kind.Enum = named_then _ (λ h. gives (with_head h inside)) members name (Some (ref.Named name)) named name_is refl
  named_head_gives inside kind.InputObject = named_then _ (λ h. gives (with_head h inside)) members name (Some (ref.Named name)) named name_is refl

-- ---- levels

out_named : (name : Named) → non_null (ref.Named name) ≡ Some (ref.NonNullNamed name)
out_named name = let out : out-TypeRef (ref.Named name) ≡ TypeRef-F.Named name = search (rules, the_lemmas) in ap non_null_at out

out_list : (item : TypeRef) → non_null (ListOf item) ≡ Some (NonNullList item)
out_list item = let out : out-TypeRef (ListOf item) ≡ TypeRef-F.List item = search (rules, the_lemmas) in ap non_null_at out

rolled : (ty : TypeRef) → roll-TypeRef (out-TypeRef ty) ≡ ty
rolled ty = search (rules, the_lemmas)

module _ (types : List ShownType) where
  abbrev pairs_at : ℕ → TypeRef-F TypeRef → Pairs
  pairs_at left y = of_type (both_of (reference_pairs types left) (inside_level y)) (head_level types y)

  -- what is inside
  inside_gives : (left : ℕ) (pairs within : Pairs) (found : Option TypeRef) → lookup (bytes_eq (codes "ofType")) pairs ≡ Some (json.Object within)
      → Gives (link_of (inner left) within) found → Gives (inner (suc left) pairs) found
  unfolding inner
  inside_gives left pairs within found is h =
      required_gives (nested (link_of (inner left))) (codes "ofType") pairs (json.Object within) found is
      (subst (λ b. Gives (if b then gives None else in_object (link_of (inner left)) (json.Object within)) found) (sym (object_is_not_null within))
      (in_object_gives (link_of (inner left)) within found h))

  nothing_inside : (left : ℕ) (pairs : Pairs) → lookup (bytes_eq (codes "ofType")) pairs ≡ Some json.Null → Gives (inner (suc left) pairs) None
  unfolding inner
  nothing_inside left pairs is =
      required_gives (nested (link_of (inner left))) (codes "ofType") pairs json.Null None is
      (subst (λ b. Gives (if b then gives None else in_object (link_of (inner left)) json.Null) None) (sym null_is_null) refl)

  none_left : (pairs : Pairs) → Gives (inner zero pairs) None
  unfolding inner
  none_left pairs = refl

  last_level : (y : TypeRef-F TypeRef) → ends_level (λ inside. ⊥) y → Gives (link_of (inner zero) (head_level types y)) (Some (roll-TypeRef y))
  unfolding roll-TypeRef denote.Hole.Carrier.roll
  last_level (TypeRef-F.Named name) named =
      let pairs = head_level types (TypeRef-F.Named name) in
      let k = kind_among types name.text in
      linked_gives pairs (inner zero) (kind_text k) None (Some (ref.Named name)) refl (none_left pairs) (named_head_gives pairs name named refl None k)
  last_level (TypeRef-F.NonNullNamed name) none = absurd none
  last_level (TypeRef-F.List item) none = absurd none
  last_level (TypeRef-F.NonNullList item) none = absurd none

  abbrev Inside : ℕ → TypeRef → Type 0
  Inside left ty = EndsWithin left ty → Gives (link_of (inner left) (reference_pairs types left ty)) (Some ty)

  level : (left : ℕ) → ((ty : TypeRef) → Inside left ty) → (y : TypeRef-F TypeRef) → ends_level (EndsWithin left) y
      → Gives (link_of (inner (suc left)) (pairs_at left y)) (Some (roll-TypeRef y))
  unfolding roll-TypeRef denote.Hole.Carrier.roll
  level left inside (TypeRef-F.Named name) named =
      let pairs = pairs_at left (TypeRef-F.Named name) in
      let k = kind_among types name.text in
      linked_gives pairs (inner (suc left)) (kind_text k) None (Some (ref.Named name)) refl (nothing_inside left pairs refl) (named_head_gives pairs name named refl None k)
  level left inside (TypeRef-F.NonNullNamed name) ends =
      let pairs = pairs_at left (TypeRef-F.NonNullNamed name) in
      let within = reference_pairs types left (ref.Named name) in
      linked_gives pairs (inner (suc left)) (codes "NON_NULL") (Some (ref.Named name)) (Some (ref.NonNullNamed name)) refl
      (inside_gives left pairs within (Some (ref.Named name)) refl (inside (ref.Named name) ends))
      (nameless_then _ (λ h. gives (with_head h (Some (ref.Named name)))) pairs (Some (ref.NonNullNamed name)) refl (out_named name))
  level left inside (TypeRef-F.List item) ends =
      let pairs = pairs_at left (TypeRef-F.List item) in
      let within = reference_pairs types left item in
      linked_gives pairs (inner (suc left)) (codes "LIST") (Some item) (Some (ListOf item)) refl
      (inside_gives left pairs within (Some item) refl (inside item ends))
      (nameless_then _ (λ h. gives (with_head h (Some item))) pairs (Some (ListOf item)) refl refl)
  level left inside (TypeRef-F.NonNullList item) ends =
      let pairs = pairs_at left (TypeRef-F.NonNullList item) in
      let within = reference_pairs types left (ListOf item) in
      linked_gives pairs (inner (suc left)) (codes "NON_NULL") (Some (ListOf item)) (Some (NonNullList item)) refl
      (inside_gives left pairs within (Some (ListOf item)) refl (inside (ListOf item) ends))
      (nameless_then _ (λ h. gives (with_head h (Some (ListOf item)))) pairs (Some (NonNullList item)) refl (out_list item))

  inside_all : (left : ℕ) (ty : TypeRef) → Inside left ty
  unfolding EndsWithin reference_pairs
  inside_all zero ty ends =
      subst (λ t. Gives (link_of (inner zero) (head_level types (out-TypeRef ty))) (Some t)) (rolled ty) (last_level (out-TypeRef ty) ends)
  inside_all (suc left) ty ends =
      subst (λ t. Gives (link_of (inner (suc left)) (pairs_at left (out-TypeRef ty))) (Some t)) (rolled ty) (level left (inside_all left) (out-TypeRef ty) ends)

  pub reference_gives : (ty : TypeRef) → EndsWithin 8 ty → Gives (read_reference (reference_value types ty)) ty
  reference_gives ty ends =
      in_object_gives reference_of (reference_pairs types 8 ty) ty
      (then_gives right (linked 8 (reference_pairs types 8 ty)) (Some ty) ty (inside_all 8 ty ends) refl)
