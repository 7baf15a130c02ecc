-- Whatever the full query is answered with, it is what is shown.
use Rattle.std.proofs.Common.{◌≡◌, ℕ, Option, Some, [], ◌∷◌, codes, ap, ◌∙◌, subst}
use Rattle.gql_ast_base.specs.Names.{Named}
use Rattle.gql_client_schema.specs.Answers.{IsQueryOn, IsAnsweredWith, GivesAgain}
use Rattle.gql_client_schema_laws.specs.Answer.{data_value, schema_value}
use Rattle.gql_client_schema_laws.specs.Shown.{Shows}
use Rattle.gql_document_types.specs.Spreads.{AreAcyclic, spread_graph}
use Rattle.gql_document_types.specs.declared.document.ExecutableDocument.{ExecutableDocument}
use Rattle.gql_exec_laws.proofs.Collected.{spreads-ranked}
use Rattle.gql_client_schema_laws.specs.Data.{IsData}
use Rattle.gql_client_schema_laws.specs.Introspection.{HasIntrospection}
use Rattle.gql_client_schema_laws.specs.Selected.{full_document, full_files, full_fragments}
use Rattle.gql_client_schema_laws.specs.Whole.{IsWhole, HasSchemaField}
use Rattle.gql_client_schema_laws.proofs.Answered.{answered-members}
use Rattle.gql_client_schema_laws.proofs.Document.{OneDocument, only-document}
use Rattle.gql_client_schema_laws.proofs.Known.{SoundLaw}
use Rattle.gql_graph.specs.Cycles.{IsOnCycle}
use Rattle.gql_graph.specs.Graph.{Graph}
use Rattle.gql_graph.specs.Ranks.{IsRanked}
use Rattle.gql_response.specs.Response.{data_value as response_data}
use Rattle.gql_response.specs.declared.execution_response.ExecutionResponse.{ExecutionResponse}
use Rattle.gql_schema_types.specs.declared.schema.Schema.{Schema}
use Rattle.gql_sdl.specs.declared.shown.ShownSchema.{ShownSchema}
use Rattle.jb_tree.specs.declared.value.Value.{Value}

-- a graph without cycles has ranks
abbrev RanksLaw : Type 0
RanksLaw = (g : Graph) → ((v : ℕ) → IsOnCycle g v → ⊥) → (rank : ℕ → ℕ) × IsRanked g rank

module _ (sound : SoundLaw) (once : OneDocument) (ranks : RanksLaw) (schema : Schema) (root : Named) (shown : ShownSchema) (known : HasIntrospection schema) (whole : IsWhole schema)
    (is_root : schema.schema_definition.query ≡ Some root) (own : HasSchemaField schema root) (shows : Shows schema shown) where
  pub answer-given : (document : ExecutableDocument) (response : ExecutionResponse) → IsQueryOn schema document → IsAnsweredWith schema document response
      → IsData response ((codes "__schema", schema_value shown) ∷ [])
  answer-given document response query answers =
      let same : document ≡ full_document schema full_files root = only-document schema known root is_root own sound once document query.built in
      let acyclic : AreAcyclic (full_fragments schema) = subst (λ (d : ExecutableDocument). AreAcyclic d.fragments) same query.acyclic in
      let ranked = ranks (spread_graph (full_fragments schema)) acyclic in
      answered-members schema full_files ranked.0 (spreads-ranked (full_fragments schema) ranked.0 ranked.1) known whole root is_root own shown shows response
      (subst (λ (d : ExecutableDocument). IsAnsweredWith schema d response) same answers)

  pub again-given : (given : Option Value) → GivesAgain schema given → given ≡ Some (data_value shown)
  again-given given gives =
      let told : IsData gives.response ((codes "__schema", schema_value shown) ∷ []) = answer-given gives.document gives.response gives.query gives.answers in
      gives.again ∙ ap (λ r. Some (response_data r)) told.members_are
