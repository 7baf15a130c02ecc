-- The data of an object that leaves every field out are those of a user's object, restricted.
use Rattle.std.proofs.Common.{◌≡◌, ℕ, zero, suc, true, false, List, [], ◌∷◌, Some, sym, ap, ◌∙◌}
use Rattle.std.specs.Prelude.{is_ok}
use Rattle.gql_document_types.specs.declared.fragment.Fragment.{Fragment}
use Rattle.gql_document_types.specs.declared.selection.Selection.{Selection}
use Rattle.gql_response.specs.declared.execution_response.ExecutionResponse.{ExecutionResponse}
use Rattle.gql_schema_types.specs.declared.schema.Schema.{Schema}
use Rattle.gql_schema_types.specs.declared.types.ObjectType.{ObjectType}
use Rattle.gql_source.specs.File.{Files}
use Rattle.gql_resolvers.specs.Depth.{AllGroups, Suffices}
use Rattle.gql_resolvers.specs.Execute.{Made, Member, execute}
use Rattle.gql_resolvers.specs.World.{World, key_of}
use Rattle.gql_resolvers.proofs.Deeper.{deeper}
use Rattle.gql_exec.specs.Asks.{definition_on, arguments_at}
use Rattle.gql_exec.specs.Group.{Group}
use Rattle.gql_exec.specs.Request.{Members, Request}
use Rattle.gql_exec.specs.RequestWorld.{plain, plain_world}
use Rattle.gql_exec.specs.Response.{IsExecuted}
use Rattle.gql_exec.proofs.Lawful.{lawful}
use Rattle.gql_exec.specs.IntrospectedRequest.{no_name, no_field, introspected_request, partial_request}
use Rattle.gql_exec.specs.Restricted.{is_meta, is_meta_key, restricted, HasNoOwn, OthersCoerce}
use Rattle.gql_exec.specs.Thing.{Thing, of_user}
use Rattle.gql_exec.specs.ThingMeaning.{Resolving}
use Rattle.gql_exec.proofs.ThingsAlike.{alike}
use Rattle.gql_exec.proofs.Depths.{one_more, any-depth}
use Rattle.gql_exec.proofs.Roots.{is-root, groups-defined, own-keys, IsDefined}
use Rattle.gql_exec.proofs.Split.{IsSplit, split}

module _ {X : Type 0} (schema : Schema) (sources : Files) (fragments : List Fragment) (variables : Members) (types : X → List ℕ) (resolves : Resolving X) (U : ObjectType) (x : X)
    (selections : List Selection) where
  abbrev r : Request (Thing X)
  r = introspected_request schema sources fragments variables types resolves

  abbrev v : World (Thing X) ObjectType Group (List (List Selection))
  v = plain_world r

  abbrev w : World (Thing (Unit {0})) ObjectType Group (List (List Selection))
  w = plain_world (partial_request schema sources fragments variables)

  abbrev sets : List (List Selection)
  sets = selections ∷ []

  abbrev groups : List Group
  groups = plain r U sets

  all-same : (P Q : Group → Type 0) (gs : List Group) → ((g : Group) → P g → Q g) → AllGroups v P gs → AllGroups w Q gs
  all-same P Q [] f p = tt
  all-same P Q (g ∷ gs) f p = (f g p.0, all-same P Q gs f p.1)

  suffices-same : (d : ℕ) (W : ObjectType) (s : List (List Selection)) → Suffices v d W s → Suffices w d W s
  suffices-same zero W s enough = enough
  suffices-same (suc d) W s enough =
      all-same (λ g. (V : ObjectType) → Suffices v d V (v.below g)) (λ g. (V : ObjectType) → Suffices w d V (w.below g)) (v.groups W s) (λ g h V. suffices-same d V (v.below g) (h V)) enough

  abbrev Coerced : Group → Type 0
  Coerced g = is_meta g ≡ false → is_ok (arguments_at r (definition_on schema U g.first) g.first) ≡ true

  all-split : (own : HasNoOwn schema U) (gs : List Group) → AllGroups v (λ g. is_meta_key groups (key_of v g) ≡ is_meta g) gs → AllGroups v (IsDefined r U) gs → AllGroups v Coerced gs
      → AllGroups v (IsSplit schema sources fragments variables types resolves U x (is_meta_key groups)) gs
  all-split own [] keys defined coerce = tt
  all-split own (g ∷ gs) keys defined coerce =
      (record { key = keys.0; root = is-root schema U own g defined.0; coerce = coerce.0 }, all-split own gs keys.1 defined.1 coerce.1)

  at-depth : HasNoOwn schema U → OthersCoerce r U selections → (d : ℕ) (members : List Member)
      → (execute v (suc d) U (of_user schema x) [] sets).0 ≡ Some members → (execute w (suc d) U (of_user schema tt) [] sets).0 ≡ Some (restricted groups members)
  at-depth own coerce d members all =
      split schema sources fragments variables types resolves U x (is_meta_key groups) (execute v d) (execute w d)
      (alike schema sources fragments variables types resolves no_name no_field d) [] groups
      (all-split own groups (own-keys r U groups ((lawful r).distinct_keys U sets)) (groups-defined r U sets) coerce) members all

  pub restricting : (whole part : ExecutionResponse) (members : List Member) → HasNoOwn schema U → OthersCoerce r U selections → IsExecuted r U (of_user schema x) selections whole
      → IsExecuted (partial_request schema sources fragments variables) U (of_user schema tt) selections part → whole.root ≡ Some members → part.root ≡ Some (restricted groups members)
  restricting whole part members own coerce is_whole is_part all =
      let d = is_whole.depth in
      let e = is_part.depth in
      let here : (execute v (suc d) U (of_user schema x) [] sets).0 ≡ Some members =
      ap (λ (m : Made Member). m.0) (deeper v d U sets is_whole.enough (of_user schema x) []) ∙ sym (ap (λ (o : ExecutionResponse). o.root) is_whole.is) ∙ all in
      let enough = one_more w d U sets (suffices-same d U sets is_whole.enough) in
      ap (λ (o : ExecutionResponse). o.root) is_part.is ∙ ap (λ (m : Made Member). m.0) (any-depth w e (suc d) U sets is_part.enough enough (of_user schema tt) []) ∙ at-depth own coerce d members here
