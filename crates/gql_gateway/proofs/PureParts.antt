-- Of each response key of an expansion all fields ask for the schema, or none does, where this is so of the operation.
use Rattle.std.proofs.Common.{◌≡◌, ℕ, List, [], ◌∷◌, map, refl, sym, ap, ◌∙◌, subst}
use Rattle.std.specs.List.{AllByRecursion}
use Rattle.gql_collect.specs.Flat.{flat}
use Rattle.gql_collect.specs.Kept.{Variables}
use Rattle.gql_collect.specs.Setting.{Setting}
use Rattle.gql_document_types.specs.Contents.{HaveContents}
use Rattle.gql_document_types.specs.Expanded.{expanded}
use Rattle.gql_document_types.specs.bridge.Expanded.{expanded_field}
use Rattle.gql_document_types.specs.Ranks.{AreRanked}
use Rattle.gql_document_types.specs.declared.fragment.Fragment.{Fragment}
use Rattle.gql_document_types.specs.declared.selection.Field.{Field}
use Rattle.gql_document_types.specs.declared.selection.Selection.{Selection}
use Rattle.gql_exec_laws.proofs.Groups.{flat-with}
use Rattle.gql_schema_types.specs.declared.schema.Schema.{Schema}
use Rattle.gql_schema_types.specs.declared.types.ObjectType.{ObjectType}
use Rattle.gql_gateway.specs.Pure.{IsLike, AreLike, IsPure}

module _ (fragments : List Fragment) where
  abbrev with_field : Field → Field
  with_field = expanded_field fragments

  like-with : (f : Field) (gs : List Field) → AllByRecursion (IsLike f) gs → AllByRecursion (IsLike (with_field f)) (map with_field gs)
  like-with f [] like = tt
  like-with f (g ∷ gs) like = (like.0, like-with f gs like.1)

  all-like : (fs gs : List Field) → AllByRecursion (λ one. AllByRecursion (IsLike one) gs) fs
      → AllByRecursion (λ one. AllByRecursion (IsLike one) (map with_field gs)) (map with_field fs)
  all-like [] gs like = tt
  all-like (f ∷ fs) gs like = (like-with f gs like.0, all-like fs gs like.1)

  pub pure-expanded : (schema : Schema) (object : ObjectType) (variables : Variables) → HaveContents fragments → (rank : ℕ → ℕ) → AreRanked fragments rank
      → (selections : List Selection) → IsPure (record { fragments = fragments; schema = schema; object = object; variables = variables }) selections
      → IsPure (record { fragments = fragments; schema = schema; object = object; variables = variables }) (expanded fragments selections)
  pure-expanded schema object variables have rank ranked selections pure =
      let s : Setting = record { fragments = fragments; schema = schema; object = object; variables = variables } in
      subst AreLike (sym (flat-with fragments fragments schema object variables have rank ranked rank ranked selections))
      (all-like (flat s selections) (flat s selections) pure)
