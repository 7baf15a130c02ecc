-- An operation that is divided between here and a resolver is answered as the whole operation is.
use Rattle.std.proofs.Common.{◌≡◌, ℕ, List, [], ◌∷◌, Some, Result, Ok, Err, refl, sym, ap, ◌∙◌, subst}
use Rattle.gql_ast_base.specs.Names.{Named}
use Rattle.gql_collect.specs.Collected.{setting}
use Rattle.gql_document_types.specs.Contents.{HaveContents}
use Rattle.gql_document_types.specs.Expanded.{expanded, expanded_operation}
use Rattle.gql_document_types.specs.Ranks.{AreRanked}
use Rattle.gql_document_types.specs.Spreadless.{HasNoSpread}
use Rattle.gql_document_types.specs.declared.document.ExecutableDocument.{ExecutableDocument}
use Rattle.gql_document_types.specs.declared.operation.Operation.{Operation}
use Rattle.gql_document_types.specs.declared.selection.Selection.{Selection}
use Rattle.gql_exec.proofs.ThingSkips.{things-never-skip}
use Rattle.gql_exec.specs.IntrospectedRequest.{introspected_request}
use Rattle.gql_exec.specs.Thing.{Thing, of_user}
use Rattle.gql_exec.specs.ThingMeaning.{Resolving}
use Rattle.gql_exec.proofs.Skipless.{reaches-none}
use Rattle.gql_exec.specs.NeverSkips.{NeverSkips}
use Rattle.gql_exec.specs.Request.{Members, Request}
use Rattle.gql_exec.specs.RequestWorld.{plain_world}
use Rattle.gql_exec.specs.Response.{IsExecuted}
use Rattle.gql_exec_laws.proofs.Runs.{executed-alike}
use Rattle.gql_resolvers.specs.Execute.{Member}
use Rattle.gql_resolvers.specs.Skips.{ReachesNoSkip}
use Rattle.gql_response.specs.declared.execution_response.ExecutionResponse.{ExecutionResponse}
use Rattle.gql_schema_types.specs.Schemas.{object_of}
use Rattle.gql_schema_types.specs.declared.schema.Schema.{Schema}
use Rattle.gql_schema_types.specs.declared.types.ObjectType.{ObjectType}
use Rattle.gql_gateway.specs.Concrete.{concrete, concrete_operation}
use Rattle.gql_gateway.specs.Divided.{IsOfLeft, IsOfThere, IsDivided}
use Rattle.gql_gateway.specs.Joined.{joined, keys_on, no_members}
use Rattle.gql_gateway.specs.Pure.{IsPure}
use Rattle.gql_gateway.specs.Remote.{TellsBy}
use Rattle.gql_gateway.specs.Whole.{IsRoot, IsDivisible, IsExecutedOn, IsWhole}
use Rattle.gql_gateway.proofs.PureParts.{pure-expanded}
use Rattle.gql_gateway.proofs.Spreads.{spreadless}
use Rattle.gql_gateway.proofs.Wholes.{whole-joined, nothing-missing, of-nothing}

module _ {X : Type 0} (types : X → List ℕ) (resolves : Resolving X) (x : X) (never : NeverSkips resolves) (schema : Schema) (document : ExecutableDocument)
    (operation : Operation) (variables : Members) (divisible : IsDivisible schema document operation variables)
    (have : HaveContents document.fragments) (rank : ℕ → ℕ) (ranked : AreRanked document.fragments rank)
    (none : HasNoSpread (expanded document.fragments operation.selection_set.selections)) where
  abbrev r : Request (Thing X)
  r = introspected_request schema document.sources document.fragments variables types resolves

  abbrev selections : List Selection
  selections = expanded document.fragments operation.selection_set.selections

  abbrev whole : Operation
  whole = expanded_operation document.fragments operation

  same-root : (U V : ObjectType) → IsRoot schema operation U → IsRoot schema operation V → U ≡ V
  same-root U V is si = let e : Some U ≡ Some V = sym is ∙ si in cc

  kept : (U : ObjectType) (sets : List (List Selection)) → ReachesNoSkip (plain_world r) U (of_user schema x) sets
  kept U sets = reaches-none r (λ T thing f arguments. things-never-skip resolves never schema T thing f arguments) U (of_user schema x) sets

  -- the other place has executed what is left, also where nothing is left
  left-executed : (U : ObjectType) → IsRoot schema operation U → (left : List Selection) → concrete selections ≡ left → (there : ExecutionResponse)
      → IsOfLeft (TellsBy types resolves x) schema document whole variables left there
      → IsExecuted r U (of_user schema x) (concrete selections) there
  left-executed U root [] are there is =
      subst (λ (ss : List Selection). IsExecuted r U (of_user schema x) ss there) (sym are)
      (subst (λ (o : ExecutionResponse). IsExecuted r U (of_user schema x) [] o) (sym is)
      (of-nothing schema document.sources document.fragments variables types resolves U x []))
  left-executed U root (s ∷ ss) are there is =
      subst (λ (V : ObjectType). IsExecuted r V (of_user schema x) (concrete selections) there) (same-root is.0 U is.1 root) is.2

  pub joined-whole : (response : ExecutionResponse) → IsDivided (TellsBy types resolves x) schema document whole variables (Ok response)
      → IsWhole types resolves x schema document operation variables response
  joined-whole response divided U one members root executed has =
      let V = divided.is_here.root_type in
      let same : V ≡ U = same-root V U divided.is_here.is_root root in
      let expanded_one : IsExecuted r V (of_user schema x) selections one =
      (executed-alike r document.fragments have rank ranked rank ranked V (of_user schema x) operation.selection_set.selections one).1
      (subst (λ (W : ObjectType). IsExecutedOn types resolves x schema document operation variables W one) (sym same) executed) in
      let left = left-executed V divided.is_here.is_root (concrete selections) refl divided.there divided.is_there in
      let pure = pure-expanded document.fragments schema V variables have rank ranked operation.selection_set.selections (divisible.pure V divided.is_here.is_root) in
      let joined_is : joined (keys_on (setting document.fragments schema V variables) selections) divided.here divided.there ≡ Ok one =
      whole-joined schema document.sources document.fragments variables types resolves V x selections rank ranked (divisible.own V divided.is_here.is_root)
      (spreadless selections none) pure (kept V (selections ∷ [])) one divided.here divided.there members expanded_one divided.is_here.executed left has in
      let both : Ok response ≡ Ok one = sym divided.is ∙ joined_is in
      cc

  pub none-missing : (key : Named) → IsDivided (TellsBy types resolves x) schema document whole variables (Err key) → ⊥
  none-missing key divided =
      let V = divided.is_here.root_type in
      let left = left-executed V divided.is_here.is_root (concrete selections) refl divided.there divided.is_there in
      let pure = pure-expanded document.fragments schema V variables have rank ranked operation.selection_set.selections (divisible.pure V divided.is_here.is_root) in
      nothing-missing schema document.sources document.fragments variables types resolves V x selections rank ranked (spreadless selections none) pure
      (kept V (concrete selections ∷ [])) divided.here divided.there key left divided.is
