-- What resolved values mean, variant by variant.
use Rattle.std.proofs.Common.{◌≡◌, ap, sym, ◌∙◌}
use Rattle.jb_tree.specs.declared.value.Value.{Value}
use Rattle.gql_resolvers.specs.Resolved.{Meaning, gives_leaf, gives_object, gives_skip}
use Rattle.gql_resolvers.specs.declared.resolved_value.ResolvedValue.{fold-roll-ResolvedValue}
use Rattle.gql_resolvers.specs.declared.resolved_value.ResolvedValue as value
use Rattle.gql_resolvers.specs.declared.resolved_value.ResolvedValue.TheVariants.{rolls-Leaf, rolls-Object, rolls-SkipForPartialExecution}
use Rattle.gql_resolvers.specs.declared.resolved_value.ResolvedValue.TheOpen as layer
use Rattle.gql_resolvers.specs.Meaning.{meaning_by, meaning_step}

module _ {O X : Type 0} (see : O → X) where
  pub meaning-leaf : (v : Value) → meaning_by see (value.Leaf v) ≡ gives_leaf v
  meaning-leaf v = ap (meaning_by see) (sym (rolls-Leaf v)) ∙ fold-roll-ResolvedValue O (Meaning X) (meaning_step see) (layer.Leaf v)

  pub meaning-object : (object : O) → meaning_by see (value.Object object) ≡ gives_object (see object)
  meaning-object object = ap (meaning_by see) (sym (rolls-Object object)) ∙ fold-roll-ResolvedValue O (Meaning X) (meaning_step see) (layer.Object object)

  pub meaning-skip : meaning_by see value.SkipForPartialExecution ≡ gives_skip
  meaning-skip = ap (meaning_by see) (sym rolls-SkipForPartialExecution) ∙ fold-roll-ResolvedValue O (Meaning X) (meaning_step see) layer.SkipForPartialExecution
