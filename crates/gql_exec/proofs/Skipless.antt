-- What an execution explains, where no resolver leaves anything out.
use Rattle.std.proofs.Common.{ℕ, Bool, true, false, if◌then◌else◌, List, [], ◌∷◌, Result, Ok, Err}
use Rattle.std.specs.Prelude.{codes}
use Rattle.std.specs.Str.{bytes_eq}
use Rattle.jb_tree.specs.declared.value.Value.TheVariants as json
use Rattle.gql_coerce.specs.declared.told.ArgumentFault.{ArgumentFault}
use Rattle.gql_document_types.specs.declared.document.ExecutableDocument.{ExecutableDocument}
use Rattle.gql_document_types.specs.declared.selection.Selection.{Selection}
use Rattle.gql_response.specs.declared.execution_response.ExecutionResponse.{ExecutionResponse}
use Rattle.gql_exec.specs.Asks.{answer, asked, arguments_at, definition_on}
use Rattle.gql_exec.specs.Executing.{Resolving, is_hidden, answers_by, request_by}
use Rattle.gql_exec.specs.Group.{Group}
use Rattle.gql_exec.specs.NeverSkips.{NeverSkips, IsNeverSkipped, IsFullyExplained}
use Rattle.gql_exec.specs.Request.{Members, Request}
use Rattle.gql_exec.specs.RequestWorld.{plain_world}
use Rattle.gql_exec.specs.Response.{IsExplained}
use Rattle.gql_resolvers.proofs.Skipless.{no_skip}
use Rattle.gql_resolvers.specs.Resolved.{Meaning, gives_leaf, fails_with}
use Rattle.gql_resolvers.specs.Skips.{SkipsNothing, IsSkipless, ReachesNoSkip}
use Rattle.gql_schema_types.specs.declared.schema.Schema.{Schema}
use Rattle.gql_schema_types.specs.declared.types.ObjectType.{ObjectType}

pub either-skipless : {X : Type 0} (b : Bool) (m n : Meaning X) → SkipsNothing m → SkipsNothing n → SkipsNothing (if b then m else n)
either-skipless true m n one other = one
either-skipless false m n one other = other

module _ {X : Type 0} (r : Request X) (never : IsNeverSkipped r) where
  answer-skipless : (U : ObjectType) (x : X) (f : List ℕ) (arguments : Members) → SkipsNothing (answer r U x f arguments)
  answer-skipless U x f arguments =
      either-skipless (bytes_eq f (codes "__typename")) (gives_leaf (json.String U.name.text)) (r.answers U x f arguments) tt (never U x f arguments)

  asked-skipless : (U : ObjectType) (x : X) (f : List ℕ) (found : Result Members ArgumentFault) → IsSkipless (asked r U x f found)
  asked-skipless U x f (Ok arguments) = answer-skipless U x f arguments
  asked-skipless U x f (Err fault) = tt

  asks-skipless : (U : ObjectType) (x : X) (g : Group) → IsSkipless ((plain_world r).asks U x g)
  asks-skipless U x g = asked-skipless U x g.first.name.text (arguments_at r (definition_on r.schema U g.first) g.first)

  pub reaches-none : (root : ObjectType) (initial : X) (sets : List (List Selection)) → ReachesNoSkip (plain_world r) root initial sets
  reaches-none root initial sets = no_skip (plain_world r) asks-skipless root initial sets

  pub fully-explained : (root : ObjectType) (initial : X) (selections : List Selection) (response : ExecutionResponse)
      → IsExplained r root initial selections response → IsFullyExplained r root initial selections response
  fully-explained root initial selections response h = record {
    true_faults = h.true_faults;
    distinct = h.distinct;
    explained = h.explained (reaches-none root initial (selections ∷ []));
  }

-- with introspection or without it
pub request-never : {X : Type 0} (introspection : Bool) (schema : Schema) (document : ExecutableDocument) (variables : Members) (types : X → List ℕ) (resolves : Resolving X)
    → NeverSkips resolves → IsNeverSkipped (request_by introspection schema document variables types resolves)
request-never introspection schema document variables types resolves never T x f arguments =
    either-skipless (is_hidden introspection schema T f) (fails_with (codes "schema introspection is disabled")) (resolves schema T x f arguments) tt
    (never schema T x f arguments)
