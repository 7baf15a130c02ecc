-- What a gateway over a local remote answers is what is answered without it.
use Rattle.std.proofs.Common.{◌≡◌, ℕ, Bool, true, false, List, [], Some, Ok, Err, refl, sym, ap, subst, ◌∙◌}
use Rattle.jb_print.specs.Compact.{compact}
use Rattle.gql_ast_base.specs.Names.{Named}
use Rattle.gql_document_types.specs.Contents.{HaveContents}
use Rattle.gql_document_types.specs.Expanded.{expanded}
use Rattle.gql_document_types.specs.Ranks.{AreRanked}
use Rattle.gql_document_types.specs.Spreadless.{HasNoSpread}
use Rattle.gql_document_types.specs.Spreads.{AreAcyclic}
use Rattle.gql_document_types.specs.declared.document.ExecutableDocument.{ExecutableDocument}
use Rattle.gql_document_types.specs.declared.fragment.Fragment.{Fragment}
use Rattle.gql_document_types.specs.declared.operation.Operation.{Operation}
use Rattle.gql_document_types.specs.declared.selection.Selection.{Selection}
use Rattle.gql_exec.specs.ThingMeaning.{Resolving}
use Rattle.gql_exec.specs.NeverSkips.{NeverSkips}
use Rattle.gql_parser.specs.DocumentText.{DocumentText}
use Rattle.gql_response.specs.Response.{response_value}
use Rattle.gql_response.specs.declared.execution_response.ExecutionResponse.{ExecutionResponse}
use Rattle.gql_schema_types.specs.declared.schema.Schema.{Schema}
use Rattle.gql_gateway.specs.Divided.{Divides}
use Rattle.gql_gateway.specs.Remote.{TellsBy}
use Rattle.gql_gateway.specs.Whole.{IsWhole}
use Rattle.gql_gateway.proofs.Locally.{joined-whole, none-missing}
use Rattle.gql_engine.specs.Answered.{Answered, IsExecutionOf}
use Rattle.gql_engine.specs.Ready.{Ready}
use Rattle.gql_engine.specs.Wanted.{Members, Wanted}
use Rattle.gql_gateway.specs.Gateway.{HasData, IsJoinedBy, LacksKey}
use Rattle.gql_gateway.proofs.Divisible.{TextLaws, ready-divisible}

pub record LocalLaws : Type 0 where
  pub texts : TextLaws
  pub ranked : (schema : Schema) (text : List ℕ) (document : ExecutableDocument) → DocumentText schema text document
      → (rank : ℕ → ℕ) × AreRanked document.fragments rank
  pub contents : (fragments : List Fragment) → AreAcyclic fragments → HaveContents fragments
  pub spreadless : (fragments : List Fragment) (selections : List Selection) → HasNoSpread (expanded fragments selections)
  pub schema : (wanted : Wanted) (one other : Ready wanted) → one.meant.schema ≡ other.meant.schema
  pub document : (wanted : Wanted) (one other : Ready wanted) → one.meant.document ≡ other.meant.document
  pub operation : (wanted : Wanted) (one other : Ready wanted) → one.operation ≡ other.operation
  pub variables : (wanted : Wanted) (one other : Ready wanted) → one.variables ≡ other.variables

module _ {X : Type 0} (type_of : X → List ℕ) (resolves : Resolving X) (root : X) (response : ExecutionResponse) where
  -- of the same operation
  moved : (schema schema' : Schema) (document document' : ExecutableDocument) (operation operation' : Operation) (variables variables' : Members)
      → schema ≡ schema' → document ≡ document' → operation ≡ operation' → variables ≡ variables'
      → IsWhole type_of resolves root schema document operation variables response → IsWhole type_of resolves root schema' document' operation' variables' response
  moved schema schema' document document' operation operation' variables variables' s d o v whole =
      let one = subst (λ (x : Schema). IsWhole type_of resolves root x document operation variables response) s whole in
      let two = subst (λ (x : ExecutableDocument). IsWhole type_of resolves root schema' x operation variables response) d one in
      let three = subst (λ (x : Operation). IsWhole type_of resolves root schema' document' x variables response) o two in
      subst (λ (x : Members). IsWhole type_of resolves root schema' document' operation' x response) v three

  -- it is the response that was written, where that has data
  is-written : (introspection : Bool) → introspection ≡ true → (schema : Schema) (document : ExecutableDocument) (operation : Operation) (variables : Members)
      → IsWhole type_of resolves root schema document operation variables response
      → (other : List ℕ) (execution : IsExecutionOf introspection type_of resolves root schema document operation variables other)
      → (members : Members) → execution.response.root ≡ Some members → response ≡ execution.response
  is-written true on schema document operation variables whole other execution members has =
      whole execution.root_type execution.response members execution.is_root execution.is_response.executed has
  is-written false on schema document operation variables whole other execution members has = absurd (let e : false ≡ true = on in cc)

module _ {X : Type 0} (laws : LocalLaws) (type_of : X → List ℕ) (resolves : Resolving X) (root : X) (never : NeverSkips resolves) (wanted : Wanted) where
  divided-whole : (ready : Ready wanted) (response : ExecutionResponse)
      → Divides (TellsBy type_of resolves root) ready.meant.schema ready.meant.document ready.operation ready.variables (Ok response)
      → IsWhole type_of resolves root ready.meant.schema ready.meant.document ready.operation ready.variables response
  divided-whole ready response divides =
      let document = ready.meant.document in
      let divisible = ready-divisible laws.texts wanted ready in
      let ranked = laws.ranked ready.meant.schema wanted.query document ready.meant.are.is_document in
      joined-whole type_of resolves root never ready.meant.schema document ready.operation ready.variables divisible
      (laws.contents document.fragments divisible.acyclic) ranked.0 ranked.1
      (laws.spreadless document.fragments ready.operation.selection_set.selections) response divides.divided

  pub none-lacks : (key : Named) → LacksKey (TellsBy type_of resolves root) wanted key → ⊥
  none-lacks key lacks =
      let ready = lacks.ready in
      let document = ready.meant.document in
      let divisible = ready-divisible laws.texts wanted ready in
      let ranked = laws.ranked ready.meant.schema wanted.query document ready.meant.are.is_document in
      none-missing type_of resolves root never ready.meant.schema document ready.operation ready.variables divisible
      (laws.contents document.fragments divisible.acyclic) ranked.0 ranked.1
      (laws.spreadless document.fragments ready.operation.selection_set.selections) key lacks.divides.divided

  pub joined-same : wanted.introspection ≡ true → (bytes other : List ℕ) → IsJoinedBy (TellsBy type_of resolves root) wanted bytes
      → (answered : Answered type_of resolves root wanted other) → HasData answered → bytes ≡ other
  joined-same on bytes other joined answered has =
      let one = joined.ready in
      let two = answered.ready in
      let whole =
      moved type_of resolves root joined.response one.meant.schema two.meant.schema one.meant.document two.meant.document one.operation two.operation
      one.variables two.variables (laws.schema wanted one two) (laws.document wanted one two) (laws.operation wanted one two) (laws.variables wanted one two)
      (divided-whole one joined.response joined.divides) in
      let same : joined.response ≡ answered.executed.response =
      is-written type_of resolves root joined.response wanted.introspection on two.meant.schema two.meant.document two.operation two.variables whole other
      answered.executed has.0 has.1 in
      joined.written ∙ ap (λ (response : ExecutionResponse). compact (response_value response)) same ∙ sym answered.executed.written
