-- What the full query is answered with on a schema.
use Rattle.std.proofs.Common.{◌≡◌, ℕ, zero, suc, Option, Some, None, List, [], ◌∷◌, codes, refl, ap, ◌∙◌, subst}
use Rattle.std.specs.Option.{option_and_then}
use Rattle.gql_ast_base.specs.Names.{Named}
use Rattle.gql_client_schema.specs.Answers.{IsAnsweredWith}
use Rattle.gql_client_schema_laws.specs.Answer.{schema_value, kind_among}
use Rattle.gql_client_schema_laws.specs.Parts.{said_type}
use Rattle.gql_client_schema_laws.specs.Given.{why}
use Rattle.gql_client_schema_laws.specs.Shown.{Shows}
use Rattle.gql_document_types.specs.Ranks.{AreRanked}
use Rattle.gql_document_types.specs.declared.operation.Operation.{Operation}
use Rattle.gql_document_types.specs.declared.selection.Selection.{Selection}
use Rattle.gql_exec.proofs.Depths.{one_more, any-depth}
use Rattle.gql_exec.specs.Partial.{request_of_schema}
use Rattle.gql_exec.specs.Thing.{Thing, of_user}
use Rattle.gql_exec.specs.Group.{Group}
use Rattle.gql_exec.specs.Response.{IsExecuted}
use Rattle.gql_client_schema_laws.specs.Data.{IsData}
use Rattle.gql_client_schema_laws.specs.FullQuery as full
use Rattle.gql_client_schema_laws.specs.Introspection.{HasIntrospection}
use Rattle.gql_client_schema_laws.specs.Selected.{full_document, full_fragments, full_operation, selected}
use Rattle.gql_client_schema_laws.specs.Whole.{IsWhole, HasSchemaField}
use Rattle.gql_client_schema_laws.proofs.FieldsFound.{its_name, its_kind}
use Rattle.gql_client_schema_laws.proofs.Making.{all_made, world}
use Rattle.gql_client_schema_laws.proofs.MadeReferences.{raised}
use Rattle.gql_client_schema_laws.proofs.SchemaSet.{root-executed, schema-shown}
use Rattle.gql_resolvers.specs.Depth.{Suffices}
use Rattle.gql_resolvers.specs.Execute.{Made, Member, execute}
use Rattle.gql_resolvers.specs.World.{World}
use Rattle.gql_response.specs.declared.execution_response.ExecutionResponse.{ExecutionResponse}
use Rattle.gql_schema_types.specs.Schemas.{object_of}
use Rattle.gql_schema_types.specs.Types.{type_called, type_name, as_object}
use Rattle.gql_schema_types.specs.declared.schema.Schema.{Schema}
use Rattle.gql_schema_types.specs.declared.types.ExtendedType.{ExtendedType}
use Rattle.gql_schema_types.specs.declared.types.ExtendedType.TheVariants as type
use Rattle.gql_schema_types.specs.declared.types.ObjectType.{ObjectType}
use Rattle.gql_sdl.specs.declared.shown.ShownSchema.{ShownSchema}
use Rattle.gql_source.specs.File.{Files}

-- an object type has the name that it is found by
object-name : (types : List ExtendedType) (name : List ℕ) (U : ObjectType) → option_and_then as_object (type_called name types) ≡ Some U → U.name.text ≡ name
object-name types name U is = by (type_called name types) refl is
  where
    of_type : (t : ExtendedType) → type_called name types ≡ Some t → as_object t ≡ Some U → U.name.text ≡ name
    of_type (type.Object it) called same = ap (λ (o : ObjectType). o.name.text) (let e : U ≡ it = cc in e) ∙ its_name types name (type.Object it) called
    of_type (type.Scalar it) called same = absurd cc
    of_type (type.Interface it) called same = absurd cc
    of_type (type.Union it) called same = absurd cc
    of_type (type.Enum it) called same = absurd cc
    of_type (type.InputObject it) called same = absurd cc

    by : (o : Option ExtendedType) → type_called name types ≡ o → option_and_then as_object o ≡ Some U → U.name.text ≡ name
    by None called same = absurd cc
    by (Some t) called same = of_type t called same

module _ (schema : Schema) (files : Files) (rank : ℕ → ℕ) (ranked : AreRanked (full_fragments schema) rank) (known : HasIntrospection schema) (whole : IsWhole schema)
    (root : Named) (is_root : schema.schema_definition.query ≡ Some root) (own : HasSchemaField schema root) (shown : ShownSchema) (shows : Shows schema shown) where
  abbrev w : World (Thing (Unit {0})) ObjectType Group (List (List Selection))
  w = world schema files rank ranked known

  -- so many steps more
  abbrev deeper_by : ℕ → ℕ → ℕ
  deeper_by zero d = d
  deeper_by (suc n) d = suc (deeper_by n d)

  still : (n d : ℕ) (U : ObjectType) (s : List (List Selection)) → Suffices w d U s → Suffices w (deeper_by n d) U s
  still zero d U s enough = enough
  still (suc n) d U s enough = one_more w (deeper_by n d) U s (still n d U s enough)

  kinds : (name : List ℕ) (t : ExtendedType) → type_called name schema.types ≡ Some t → kind_among shown.types name ≡ (said_type (why schema) t).kind
  kinds name t is = ap (λ ts. kind_among ts name) shows.types ∙ its_kind (why schema) name schema.types t is

  names : (name : List ℕ) (t : ExtendedType) → type_called name schema.types ≡ Some t → (type_name t).text ≡ name
  names name t is = its_name schema.types name t is

  abbrev sets : List (List Selection)
  sets = selected schema root full.full_asked ∷ []

  abbrev told : List Member
  told = (codes "__schema", schema_value shown) ∷ []

  root-is : (U : ObjectType) → U.name.text ≡ root.text → (d : ℕ) → execute w (suc (suc (suc (suc (suc (raised 8 d)))))) U (of_user schema tt) [] sets ≡ all_made told
  root-is U named d =
      root-executed schema files rank ranked known shown.types kinds names whole root is_root shown shows U named own d []
      ∙ ap (λ v. all_made ((codes "__schema", v) ∷ [])) (schema-shown schema files rank ranked known shown.types kinds names whole root is_root shown shows refl)

  abbrev response_of : Made Member → ExecutionResponse
  response_of made = record { errors = made.1; root = made.0 }

  executed-members : (U : ObjectType) → U.name.text ≡ root.text → (response : ExecutionResponse)
      → IsExecuted (request_of_schema schema (full_document schema files root) []) U (of_user schema tt) (selected schema root full.full_asked) response → IsData response told
  executed-members U named response executed =
      let d = executed.depth in
      let is : response ≡ response_of (all_made told) =
      executed.is
      ∙ ap response_of (any-depth w d (deeper_by 14 d) U sets executed.enough (still 14 d U sets executed.enough) (of_user schema tt) [] ∙ root-is U named d) in
      record { no_errors = ap (λ (r : ExecutionResponse). r.errors) is; members_are = ap (λ (r : ExecutionResponse). r.root) is }

  pub answered-members : (response : ExecutionResponse) → IsAnsweredWith schema (full_document schema files root) response → IsData response told
  answered-members response answers = by answers.operation answers.is_only answers.root answers.is_root answers.executed
    where
      of_same : (operation : Operation) → full_operation schema root ≡ operation → (U : ObjectType) → object_of schema operation.selection_set.ty.text ≡ Some U
          → IsExecuted (request_of_schema schema (full_document schema files root) []) U (of_user schema tt) operation.selection_set.selections response → IsData response told
      of_same operation same =
          subst (λ (o : Operation). (U : ObjectType) → object_of schema o.selection_set.ty.text ≡ Some U
          → IsExecuted (request_of_schema schema (full_document schema files root) []) U (of_user schema tt) o.selection_set.selections response → IsData response told) same
          (λ U is. executed-members U (object-name schema.types root.text U is) response)

      unwrapped : (a b : Operation) → Some a ≡ Some b → a ≡ b
      unwrapped a b is = cc

      by : (operation : Operation) → Some (full_operation schema root) ≡ Some operation → (U : ObjectType) → object_of schema operation.selection_set.ty.text ≡ Some U
          → IsExecuted (request_of_schema schema (full_document schema files root) []) U (of_user schema tt) operation.selection_set.selections response → IsData response told
      by operation only U is executed = of_same operation (unwrapped (full_operation schema root) operation only) U is executed
