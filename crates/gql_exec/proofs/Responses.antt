-- What is executed is exactly what execution gives, and is explained.
use Rattle.std.proofs.Common.{◌≡◌, ℕ, List, [], ◌∷◌, Option, sym, ap, ◌∙◌, subst}
use Rattle.std.specs.Prelude.{Contains}
use Rattle.std.proofs.lemmas.List.Elements.{All-contains_itself, recursion_from_All}
use Rattle.gql_document_types.specs.declared.selection.Selection.{Selection}
use Rattle.gql_response.specs.declared.execution_response.ExecutionResponse.{ExecutionResponse}
use Rattle.gql_response.specs.declared.graphql_error.GraphQLError.{GraphQLError}
use Rattle.gql_schema_types.specs.declared.types.ObjectType.{ObjectType}
use Rattle.gql_document_types.specs.Ranks.{AreRanked}
use Rattle.gql_resolvers.specs.Depth.{Suffices}
use Rattle.gql_resolvers.specs.Execute.{Member, execute}
use Rattle.gql_resolvers.specs.Trail.{Trail}
use Rattle.gql_resolvers.proofs.Distinct.{distinct_paths}
use Rattle.gql_resolvers.proofs.Explains.{explained}
use Rattle.gql_resolvers.proofs.Faults.{true_faults}
use Rattle.gql_exec.specs.Nesting.{nesting}
use Rattle.gql_exec.specs.Request.{Request}
use Rattle.gql_exec.specs.RequestWorld.{plain_world}
use Rattle.gql_exec.specs.Response.{response_at, IsExecuted, IsExplained}
use Rattle.gql_exec.proofs.Lawful.{lawful}
use Rattle.gql_exec.proofs.Nests.{suffices}
use Rattle.gql_exec.specs.bridge.Executed.{Executes}

module _ {X : Type 0} (r : Request X) (rank : ℕ → ℕ) (ranked : AreRanked r.fragments rank) (root : ObjectType) (x : X) (selections : List Selection) where
  explained-at : (depth : ℕ) → Suffices (plain_world r) depth root (selections ∷ []) → IsExplained r root x selections (response_at r root x selections depth)
  explained-at depth enough =
      let w = plain_world r in
      let law = lawful r in
      record {
        true_faults = true_faults w root x (selections ∷ []) depth;
        distinct = distinct_paths w law.distinct_keys depth root x (selections ∷ []);
        explained = λ no_skip. explained w law.failure_misfits law.object_typed root x (selections ∷ []) no_skip (Contains _) depth enough (recursion_from_All (Contains _) _ (All-contains_itself _));
      }

  abbrev response : Option (List Member) → List GraphQLError → ExecutionResponse
  response found errors = record { errors = errors; root = found }

  answered-by : (found : Option (List Member)) (errors : List GraphQLError) → Executes (plain_world r) root x [] (selections ∷ []) found [] errors
      → IsExecuted r root x selections (response found errors) × IsExplained r root x selections (response found errors)
  answered-by found errors executes =
      let depth = nesting r.fragments (selections ∷ []) in
      let enough = suffices r rank ranked root (selections ∷ []) in
      let made = executes depth enough in
      let is : response found errors ≡ response_at r root x selections depth =
      ap (λ o. response o errors) made.is ∙ ap (response (execute (plain_world r) depth root x [] (selections ∷ [])).0) made.listed in
      (record { depth = depth; enough = enough; is = is }, subst (IsExplained r root x selections) (sym is) (explained-at depth enough))

  -- the same of a run of this set at the root, with no error before
  pub answered-alone : (outer : Trail) (sets : List (List Selection)) (found : Option (List Member)) (before after : List GraphQLError)
      → outer ≡ [] → sets ≡ selections ∷ [] → before ≡ [] → Executes (plain_world r) root x outer sets found before after
      → IsExecuted r root x selections (response found after) × IsExplained r root x selections (response found after)
  answered-alone outer sets found before after at_root alone none executes =
      answered-by found after
      (subst (λ way. Executes (plain_world r) root x way (selections ∷ []) found [] after) at_root
      (subst (λ errors. Executes (plain_world r) root x outer (selections ∷ []) found errors after) none
      (subst (λ pieces. Executes (plain_world r) root x outer pieces found before after) alone executes)))
