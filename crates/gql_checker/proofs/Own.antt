-- What the engine answers, as it is read back, is explained; or it is too deep to be read.
use Rattle.std.proofs.Common.{◌≡◌, ℕ, zero, suc, Bool, true, false, List, [], ◌∷◌, Result, Ok, Err, refl, sym, ap, ◌∙◌, subst}
use Rattle.std.specs.List.{AllByRecursion}
use Rattle.jb_io.specs.Levels.{is_deep_at}
use Rattle.jb_print.specs.Compact.{compact}
use Rattle.jb_read.specs.Texts.{text_value}
use Rattle.jb_read.specs.declared.fault.ReadFault.{ReadFault}
use Rattle.jb_tree.specs.declared.value.Value.{Value}
use Rattle.gql_checker_laws.specs.Judgement.{is_explained}
use Rattle.gql_document_types.specs.declared.document.ExecutableDocument.{ExecutableDocument}
use Rattle.gql_document_types.specs.declared.operation.Operation.{Operation}
use Rattle.gql_document_types.specs.declared.selection.Selection.{Selection}
use Rattle.gql_engine.specs.Answered.{IsExecutionOf, IsFullyExplainedBy}
use Rattle.gql_engine.specs.Wanted.{Members}
use Rattle.gql_exec.specs.Thing.{of_user, type_of_thing}
use Rattle.gql_exec.specs.ThingMeaning.{Resolving, thing_meaning}
use Rattle.gql_exec.specs.Executing.{request_by}
use Rattle.gql_exec.specs.NeverSkips.{IsFullyExplained}
use Rattle.gql_exec.specs.Request.{Request}
use Rattle.gql_exec.specs.RequestWorld.{plain_world}
use Rattle.gql_resolvers.specs.World.{World}
use Rattle.gql_response.specs.Held.{unplaced}
use Rattle.gql_response.specs.Reading.{response_of, response_read}
use Rattle.gql_response.specs.declared.execution_response.ExecutionResponse.{ExecutionResponse}
use Rattle.gql_response.specs.declared.fault.ResponseFault.{ResponseFault}
use Rattle.gql_response.specs.declared.fault.ResponseFault.TheVariants.{Read}
use Rattle.gql_response.specs.declared.graphql_error.GraphQLError.{GraphQLError}
use Rattle.gql_response_check.specs.Verdict.{IsVerdictBy, IsVerdictOf, IsVerdictOn}
use Rattle.gql_response_check.specs.declared.verdict.Verdict.TheVariants.{Explained, NotResponse}
use Rattle.gql_schema_types.specs.declared.schema.Schema.{Schema}
use Rattle.gql_schema_types.specs.declared.types.ObjectType.{ObjectType}
use Rattle.gql_checker_laws.specs.Tells.{AreExplained, Tells}
use Rattle.gql_checker_laws.specs.Verdict.{IsFirstFalse}
use Rattle.gql_checker_laws.proofs.Monotone.{read-explained}

-- no error is false where all are true
none-false : {X T G S : Type 0} (w : World X T G S) (root : T) (initial : X) (all : S) (errors : List GraphQLError) (index : ℕ)
    → AllByRecursion (Tells w root initial all) errors → IsFirstFalse w root initial all errors index → ⊥
none-false w root initial all [] index each first = first
none-false w root initial all (error ∷ errors) zero each first = first each.0
none-false w root initial all (error ∷ errors) (suc index) each first = none-false w root initial all errors index each.1 first.1

module _ {X : Type 0} (r : Request X) (root : ObjectType) (initial : X) (selections : List Selection) where
  on-explained : (response : ExecutionResponse) → AreExplained (plain_world r) root initial (selections ∷ []) response
      → IsVerdictOn r root initial selections response Explained
  on-explained response are = record {
    judgement = is_explained;
    judged = record {
      is = are;
      explained = λ _. refl;
      first_false = λ index first. absurd (none-false (plain_world r) root initial (selections ∷ []) response.errors index are.faults first);
    };
    is = refl;
  }

  read-back : (response : ExecutionResponse) (read : Result ExecutionResponse ResponseFault) → read ≡ Ok (unplaced response)
      → IsFullyExplained r root initial selections response → IsVerdictOf r root initial selections read Explained
  read-back response read is fully =
      subst (λ (it : Result ExecutionResponse ResponseFault). IsVerdictOf r root initial selections it Explained) (sym is)
      (on-explained (unplaced response) (read-explained (plain_world r) root initial (selections ∷ []) response fully.true_faults fully.explained))

  unread : (fault : ResponseFault) (read : Result ExecutionResponse ResponseFault) → read ≡ Err fault
      → IsVerdictOf r root initial selections read (NotResponse fault)
  unread fault read is = subst (λ (it : Result ExecutionResponse ResponseFault). IsVerdictOf r root initial selections it (NotResponse fault)) (sym is) refl

-- the bytes of an execution's response, read
module _ {X : Type 0} (types : X → List ℕ) (resolves : Resolving X) (x : X) (S : Schema) (Q : ExecutableDocument) (o : Operation) (variables : Members)
    (bytes : List ℕ) (read : Result ExecutionResponse ResponseFault) where
  pub own-explained : (introspection : Bool) (it : IsExecutionOf introspection types resolves x S Q o variables bytes)
      → IsFullyExplainedBy introspection types resolves x S Q o variables it.root_type it.response → read ≡ Ok (unplaced it.response)
      → IsVerdictBy introspection S Q o variables types resolves x read Explained
  own-explained true it fully is = record {
    root = it.root_type;
    found = it.is_root;
    is = read-back (request_by true S Q variables (type_of_thing types) (thing_meaning resolves)) it.root_type (of_user S x) o.selection_set.selections
        it.response read is fully;
  }
  own-explained false it fully is = record {
    root = it.root_type;
    found = it.is_root;
    is = read-back (request_by false S Q variables types resolves) it.root_type x o.selection_set.selections it.response read is fully;
  }

  pub own-deep : (introspection : Bool) (it : IsExecutionOf introspection types resolves x S Q o variables bytes) (fault : ResponseFault) → read ≡ Err fault
      → IsVerdictBy introspection S Q o variables types resolves x read (NotResponse fault)
  own-deep true it fault is = record {
    root = it.root_type;
    found = it.is_root;
    is = unread (request_by true S Q variables (type_of_thing types) (thing_meaning resolves)) it.root_type (of_user S x) o.selection_set.selections fault read is;
  }
  own-deep false it fault is = record {
    root = it.root_type;
    found = it.is_root;
    is = unread (request_by false S Q variables types resolves) it.root_type x o.selection_set.selections fault read is;
  }

pub deep-read : (v : Value) (bytes : List ℕ) (place : ℕ) → bytes ≡ compact v → text_value (compact v) ≡ Err (is_deep_at place)
    → response_read bytes ≡ Err (Read (is_deep_at place))
deep-read v bytes place is deep = ap response_read is ∙ ap (λ (it : Result Value ReadFault). response_of it) deep
