-- A response that is explained.
use Rattle.std.proofs.Common.{◌≡◌, ℕ, zero, List, [], ◌∷◌, Option, subst}
use Rattle.std.specs.Prelude.{Contains}
use Rattle.std.specs.List.{AllByRecursion}
use Rattle.std.proofs.lemmas.List.Elements.{All-contains_itself, recursion_from_All}
use Rattle.gql_exec.specs.NeverSkips.{IsNeverSkipped, IsFullyExplained}
use Rattle.gql_exec.specs.Nesting.{nesting}
use Rattle.gql_exec.proofs.Lawful.{lawful}
use Rattle.gql_exec.proofs.Nests.{suffices}
use Rattle.gql_exec.proofs.Skipless.{reaches-none}
use Rattle.gql_response.specs.declared.graphql_error.GraphQLError.{GraphQLError}
use Rattle.gql_resolvers.specs.Depth.{Suffices}
use Rattle.gql_resolvers.specs.Distinct.{DistinctPaths}
use Rattle.gql_resolvers.specs.Execute.{Made, Member, execute}
use Rattle.gql_resolvers.specs.Explained.{IsTrueFault, IsExplainedBy}
use Rattle.gql_resolvers.proofs.Distinct.{distinct_paths}
use Rattle.gql_resolvers.proofs.Explains.{explained}
use Rattle.gql_resolvers.proofs.Faults.{true_faults}
use Rattle.gql_resolvers.proofs.Unique.{unique}
use Rattle.gql_exec_laws.specs.Example.{Example, root, request}
use Rattle.gql_exec_laws.specs.Examples.{failed_items}
use Rattle.gql_exec_laws.specs.Explaining.{nulls, with_nulls}
use Rattle.gql_exec_laws.proofs.Computed.{ranked, response_with, world}
use Rattle.gql_exec_laws.proofs.FailedItem.{made, same}
use Rattle.gql_exec_laws.proofs.Opened.{nested}

module _ (e : Example) (never : IsNeverSkipped (request e)) (d : ℕ) (made : Made Member) (deep : nesting [] (e.selections ∷ []) ≡ d)
    (is : execute (world e) d e.root_type root [] (e.selections ∷ []) ≡ made) where
  abbrev Explains : Made Member → Type 0
  Explains m = IsExplainedBy (world e) e.root_type root (e.selections ∷ []) (Contains m.1) m.0

  given : Explains (execute (world e) d e.root_type root [] (e.selections ∷ []))
  given =
      let law = lawful (request e) in
      let enough : Suffices (world e) d e.root_type (e.selections ∷ []) =
      subst (λ n. Suffices (world e) n e.root_type (e.selections ∷ [])) deep
      (suffices (request e) (λ f. zero) ranked e.root_type (e.selections ∷ [])) in
      explained (world e) law.failure_misfits law.object_typed e.root_type root (e.selections ∷ [])
      (reaches-none (request e) never e.root_type root (e.selections ∷ [])) (Contains _) d enough
      (recursion_from_All (Contains _) _ (All-contains_itself _))

  pub fully : IsFullyExplained (request e) e.root_type root e.selections (response_with made)
  fully = record {
    true_faults =
        subst (λ m. AllByRecursion (IsTrueFault (world e) e.root_type root (e.selections ∷ [])) m.1) is
        (true_faults (world e) e.root_type root (e.selections ∷ []) d);
    distinct =
        subst (λ m. DistinctPaths m.1) is (distinct_paths (world e) (lawful (request e)).distinct_keys d e.root_type root (e.selections ∷ []));
    explained = subst Explains is given;
  }

  pub only : (errors : List GraphQLError) (found : Option (List Member))
      → IsExplainedBy (world e) e.root_type root (e.selections ∷ []) (Contains errors) found → found ≡ made.0
  only errors found other =
      unique (world e) e.root_type root (e.selections ∷ []) (lawful (request e)) (Contains errors) (Contains made.1) found made.0 other
      (subst Explains is given)

never : IsNeverSkipped (request failed_items)
never T x f arguments = (tt, (tt, (tt, tt)))

pub fully-known : IsFullyExplained (request failed_items) failed_items.root_type root failed_items.selections with_nulls
fully-known = fully failed_items never 1 made (simp nested) same

pub only-known : (errors : List GraphQLError) (found : Option (List Member))
    → IsExplainedBy (world failed_items) failed_items.root_type root (failed_items.selections ∷ []) (Contains errors) found → found ≡ nulls
only-known = only failed_items never 1 made (simp nested) same
