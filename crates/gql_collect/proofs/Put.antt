-- A field that is put into the group of its number, or begins one.
use Rattle.std.proofs.Common.{arith, ◌≡◌, ℕ, zero, suc, ◌<◌, Bool, true, false, cond, if◌then◌else◌, List, [], ◌∷◌, ◌++◌, length, get_or, set, position, Option, Some, None, slice_get, refl, sym, ap, ◌∙◌, Bor}
use Rattle.std.specs.List.{find}
use Rattle.std.specs.Option.{option_map_or}
use Rattle.std.specs.Str.{bytes_eq}
use Rattle.std.proofs.lemmas.List.{map-append}
use Rattle.std.proofs.lemmas.List.Quantifiers.{position-Some}
use Rattle.gql_document_types.specs.declared.selection.Field.{Field}
use Rattle.gql_schema_types.specs.Entries.{is_called, entry}
use Rattle.gql_schema_types.proofs.Lookups.{place-texts, missing}
use Rattle.gql_collect.specs.Grouping.{group_seen, groups_seen}
use Rattle.gql_collect.specs.bridge.Grouping.{key_name, key_texts, group_keys, begun, added, extended}
use Rattle.gql_collect.specs.Groups.{response_key, FieldGroup}
use Rattle.gql_collect.specs.declared.group.Group.{Group}
use Rattle.gql_collect.specs.declared.group.Key.{Key}

module _ (f : Bor Field) where
  abbrev k : List ℕ
  k = response_key f.now

  abbrev longer : Group → Group
  longer group = record group { fields = group.fields ++ f ∷ [] }

  added_at : (groups : List Group) (i : ℕ) → i < length (group_keys (groups_seen groups)) → bytes_eq k (get_or (group_keys (groups_seen groups)) i []) ≡ true
      → ((n : ℕ) → n < i → bytes_eq k (get_or (group_keys (groups_seen groups)) n []) ≡ false) → groups_seen (extended groups i f) ≡ added (groups_seen groups) f.now
  added_at [] i within here earlier = absurd (omega arith)
  added_at (group ∷ groups) zero within here earlier =
      ap (λ fields. record (group_seen group) { fields = fields } ∷ groups_seen groups) (map-append (λ (field : Bor Field). field.now) group.fields (f ∷ []))
      ∙ sym (ap (λ b. if b then record (group_seen group) { fields = (group_seen group).fields ++ f.now ∷ [] } ∷ groups_seen groups else group_seen group ∷ added (groups_seen groups) f.now) here)
  added_at (group ∷ groups) (suc i) within here earlier =
      step (slice_get groups i) refl
      ∙ ap (λ l. group_seen group ∷ l) (added_at groups i (omega (arith, within)) here (λ n less. earlier (suc n) (omega (arith, less))))
      ∙ sym (ap (λ b. if b then record (group_seen group) { fields = (group_seen group).fields ++ f.now ∷ [] } ∷ groups_seen groups else group_seen group ∷ added (groups_seen groups) f.now) (earlier zero (omega arith)))
    where
      step : (o : Option Group) → slice_get groups i ≡ o
          → groups_seen (option_map_or (λ (g : Group). set (group ∷ groups) (suc i) (longer g)) o (group ∷ groups)) ≡ group_seen group ∷ groups_seen (option_map_or (λ (g : Group). set groups i (longer g)) o groups)
      step None is = refl
      step (Some g) is = refl

  -- a key that is there
  pub put-extended : (keys : List Key) (groups new : List Group) (i : ℕ) → key_texts keys ≡ group_keys (groups_seen groups) → position (is_called key_name k) keys ≡ Some i
      → new ≡ extended groups i f → groups_seen new ≡ added (groups_seen groups) f.now
  put-extended keys groups new i aligned at is =
      let place : position (bytes_eq k) (group_keys (groups_seen groups)) ≡ Some i = ap (position (bytes_eq k)) (sym aligned) ∙ place-texts key_name k keys ∙ at in
      let here = position-Some (bytes_eq k) (group_keys (groups_seen groups)) i [] place in
      ap groups_seen is ∙ added_at groups i here.0 here.1 here.2

  keys-extended : (groups : List Group) (i : ℕ) → group_keys (groups_seen (extended groups i f)) ≡ group_keys (groups_seen groups)
  keys-extended [] i = refl
  keys-extended (group ∷ groups) zero = refl
  keys-extended (group ∷ groups) (suc i) = step (slice_get groups i) refl ∙ ap (λ l. (group_seen group).key ∷ l) (keys-extended groups i)
    where
      step : (o : Option Group) → slice_get groups i ≡ o
          → group_keys (groups_seen (option_map_or (λ (g : Group). set (group ∷ groups) (suc i) (longer g)) o (group ∷ groups)))
          ≡ (group_seen group).key ∷ group_keys (groups_seen (option_map_or (λ (g : Group). set groups i (longer g)) o groups))
      step None is = refl
      step (Some g) is = refl

  pub keys-kept : (keys : List Key) (groups new : List Group) (i : ℕ) → key_texts keys ≡ group_keys (groups_seen groups) → new ≡ extended groups i f → key_texts keys ≡ group_keys (groups_seen new)
  keys-kept keys groups new i aligned is = aligned ∙ sym (ap (λ (l : List Group). group_keys (groups_seen l)) is ∙ keys-extended groups i)

abbrev found_key : List ℕ → List FieldGroup → Option (List ℕ)
found_key k groups = find (bytes_eq k) (group_keys groups)

none_here : (k : List ℕ) (g : FieldGroup) (gs : List FieldGroup) (b : Bool) → cond b (Some g.key) (found_key k gs) ≡ None → (b ≡ false) × (found_key k gs ≡ None)
none_here k g gs true e = absurd cc
none_here k g gs false e = (refl, e)

added_last : (f : Field) (groups : List FieldGroup) → found_key (response_key f) groups ≡ None → added groups f ≡ groups ++ begun f ∷ []
added_last f [] none = refl
added_last f (g ∷ gs) none =
    let parts = none_here (response_key f) g gs (bytes_eq (response_key f) g.key) none in
    ap (λ b. if b then record g { fields = g.fields ++ f ∷ [] } ∷ gs else g ∷ added gs f) parts.0 ∙ ap (λ l. g ∷ l) (added_last f gs parts.1)

-- a key that is not there
pub put-begun : (f : Field) (keys : List Key) (groups : List FieldGroup) (new : List FieldGroup) → key_texts keys ≡ group_keys groups
    → position (is_called key_name (response_key f)) keys ≡ None → new ≡ groups ++ begun f ∷ [] → new ≡ added groups f
put-begun f keys groups new aligned none is =
    is ∙ sym (added_last f groups (missing (bytes_eq (response_key f)) (group_keys groups)
    (ap (position (bytes_eq (response_key f))) (sym aligned) ∙ place-texts key_name (response_key f) keys ∙ none)))

pub key-missing : (f : Field) (keys : List Key) → position (is_called key_name (response_key f)) keys ≡ None → entry key_name (response_key f) keys ≡ None
key-missing f keys none = missing (is_called key_name (response_key f)) keys none
