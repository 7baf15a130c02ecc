-- The response keys of groups that were collected are those of the groups that apply.
use Rattle.std.proofs.Common.{◌≡◌, ℕ, List, [], ◌∷◌, ◌++◌, map, Option, Some, None, refl, sym, ap, ◌∙◌, subst}
use Rattle.std.specs.Borrow.{Bor}
use Rattle.gql_collect.specs.Collected.{sets_of}
use Rattle.gql_collect.specs.Grouping.{groups_seen}
use Rattle.gql_collect.specs.Groups.{FieldGroup, SameGroups, none_same, one_same, applying}
use Rattle.gql_collect.specs.Setting.{Setting}
use Rattle.gql_collect.specs.declared.group.Group.{Group as GroupSeen}
use Rattle.gql_document_types.specs.declared.selection.Field.{Field}
use Rattle.gql_document_types.specs.declared.selection.Selection.{Selection}
use Rattle.gql_document_types.specs.declared.selection.SelectionSet.{SelectionSet}
use Rattle.gql_exec.specs.Group.{Group, group_from, groups_from, started}
use Rattle.gql_gateway.specs.Joined.{keys_on, root_key, root_keys}
use Rattle.gql_gateway.specs.bridge.KeysSeen.{key_seen, keys_seen}
use Rattle.gql_gateway.specs.declared.root_key.RootKey.{RootKey}

-- the key of a first field, if there is one
abbrev first_keys : Option Field → List RootKey
first_keys None = []
first_keys (Some f) = root_key (record { first = f; pieces = [] }) ∷ []

started-keys : (o : Option Field) (fields : List Field) (rest : List Group) → root_keys (started o fields ++ rest) ≡ first_keys o ++ root_keys rest
started-keys None fields rest = refl
started-keys (Some f) fields rest = refl

same-keys : {gs hs : List FieldGroup} → SameGroups gs hs → root_keys (groups_from gs) ≡ root_keys (groups_from hs)
same-keys none_same = refl
same-keys (one_same {g = g} {h = h} {gs = gs} {hs = hs} key first fields rest) =
    started-keys g.first g.fields (groups_from gs)
    ∙ ap (λ o. first_keys o ++ root_keys (groups_from gs)) first
    ∙ ap (λ l. first_keys h.first ++ l) (same-keys rest)
    ∙ sym (started-keys h.first h.fields (groups_from hs))

seen-keys : (gs : List GroupSeen) → root_keys (groups_from (groups_seen gs)) ≡ keys_seen gs
seen-keys [] = refl
seen-keys (g ∷ gs) = ap (λ l. key_seen g ∷ l) (seen-keys gs)

pub keys-collected : (s : Setting) (selections : List Selection) (gs : List GroupSeen) → SameGroups (groups_seen gs) (applying s (selections ∷ []))
    → keys_seen gs ≡ keys_on s selections
keys-collected s selections gs same = sym (seen-keys gs) ∙ same-keys same

-- the one set that is collected
pub sets-are : (sets none : List (Bor SelectionSet)) (set : Bor SelectionSet) → sets ≡ none ++ set ∷ [] → none ≡ [] → sets_of sets ≡ set.now.selections ∷ []
sets-are sets none set is empty = ap sets_of is ∙ ap (λ (l : List (Bor SelectionSet)). sets_of (l ++ set ∷ [])) empty
