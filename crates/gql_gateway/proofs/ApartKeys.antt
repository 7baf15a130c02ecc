-- No response key of a root is there twice.
use Rattle.std.proofs.Common.{◌≡◌, List, [], ◌∷◌}
use Rattle.std.specs.List.{AllByRecursion}
use Rattle.gql_collect.specs.Setting.{Setting}
use Rattle.gql_document_types.specs.declared.selection.Selection.{Selection}
use Rattle.gql_exec.specs.IntrospectedRequest.{partial_request}
use Rattle.gql_exec.proofs.Lawful.{lawful}
use Rattle.gql_exec.specs.Group.{Group}
use Rattle.gql_exec.specs.Request.{Request}
use Rattle.gql_exec.specs.RequestWorld.{plain_world}
use Rattle.gql_resolvers.specs.World.{key_of, DistinctKeys}
use Rattle.gql_gateway.specs.Joined.{AreApart, IsOther, keys_on, root_keys}

module _ {X : Type 0} (r : Request X) where
  others-apart : (g : Group) (gs : List Group) → AllByRecursion (λ h. ¬ (key_of (plain_world r) g ≡ key_of (plain_world r) h)) gs
      → AllByRecursion (IsOther (key_of (plain_world r) g)) (root_keys gs)
  others-apart g [] different = tt
  others-apart g (h ∷ gs) different = (different.0, others-apart g gs different.1)

  pub keys-apart : (gs : List Group) → DistinctKeys (plain_world r) gs → AreApart (root_keys gs)
  keys-apart [] distinct = tt
  keys-apart (g ∷ gs) distinct = (others-apart g gs distinct.0, keys-apart gs distinct.1)

pub keys-on-apart : (s : Setting) (selections : List Selection) → AreApart (keys_on s selections)
keys-on-apart s selections =
    let r = partial_request s.schema [] s.fragments s.variables in
    keys-apart r ((plain_world r).groups s.object (selections ∷ [])) ((lawful r).distinct_keys s.object (selections ∷ []))
