-- An operation that is divided, step by step.
use Rattle.std.proofs.Common.{◌≡◌, ◌≤◌, List, Option, Some, None, Result, Ok, Err, refl, sym, ap, ap₂, ◌∙◌, subst}
use Rattle.jb_text.specs.declared.refused.Refused.{Refused}
use Rattle.jb_text.specs.declared.refused.Refused.TheVariants.{Fault, Memory}
use Rattle.gql_ast_base.specs.Names.{Named}
use Rattle.gql_collect.specs.Collected.{setting}
use Rattle.gql_document_types.specs.Count.{count}
use Rattle.gql_document_types.specs.Expanded.{expanded, expanded_operation}
use Rattle.gql_document_types.specs.declared.document.ExecutableDocument.{ExecutableDocument}
use Rattle.gql_document_types.specs.declared.operation.Operation.{Operation}
use Rattle.gql_exec.specs.Request.{Members}
use Rattle.gql_response.specs.declared.execution_response.ExecutionResponse.{ExecutionResponse}
use Rattle.gql_schema_types.specs.Schemas.{object_of}
use Rattle.gql_schema_types.specs.declared.schema.Schema.{Schema}
use Rattle.gql_schema_types.specs.declared.types.ObjectType.{ObjectType}
use Rattle.gql_gateway.specs.Concrete.{concrete}
use Rattle.gql_gateway.specs.Divided.{IsOfHere, IsOfThere, IsDivided, IsWithin, DividesTo}
use Rattle.gql_gateway.specs.bridge.Divided.{JoinsTo}
use Rattle.gql_gateway.specs.Joined.{joined, keys_on}
use Rattle.gql_gateway.specs.Remote.{Telling}
use Rattle.gql_gateway.specs.declared.dividing.DivideFault.{DivideFault}
use Rattle.gql_gateway.specs.declared.dividing.DivideFault.TheVariants.{TooLarge, Remote, MissingKey}
use Rattle.gql_gateway.specs.declared.dividing.TheConstants.{MOST_SELECTIONS}
use Rattle.gql_gateway.specs.declared.root_key.RootKey.{RootKey}

module _ (tells : Telling) (schema : Schema) (document : ExecutableDocument) (operation : Operation) (variables : Members) where
  abbrev AreKeysOf : Schema → ExecutableDocument → Members → List RootKey → Type 0
  AreKeysOf s d v keys =
      (U : ObjectType) → object_of s operation.selection_set.ty.text ≡ Some U → keys ≡ keys_on (setting d.fragments s U v) operation.selection_set.selections

  pub divided : (s : Schema) (d : ExecutableDocument) (v : Members) → s ≡ schema → d ≡ document → v ≡ variables
      → (keys : List RootKey) → AreKeysOf s d v keys
      → (here there : ExecutionResponse) → IsOfHere schema document operation variables here → IsOfThere tells schema document operation variables there
      → (answer : Result ExecutionResponse Named) → joined keys here there ≡ answer → IsDivided tells schema document operation variables answer
  divided s d v same_schema same_document same_variables keys are here there is_here is_there answer is =
      let of_schema : AreKeysOf schema d v keys = subst (λ (x : Schema). AreKeysOf x d v keys) same_schema are in
      let of_document : AreKeysOf schema document v keys = subst (λ (x : ExecutableDocument). AreKeysOf schema x v keys) same_document of_schema in
      let of_all : AreKeysOf schema document variables keys = subst (λ (x : Members). AreKeysOf schema document x keys) same_variables of_document in
      record {
        here = here;
        is_here = is_here;
        there = there;
        is_there = is_there;
        is = ap (λ ks. joined ks here there) (sym (of_all is_here.root_type is_here.is_root)) ∙ is;
      }

-- an operation is divided where its expansion is
module _ (tells : Telling) (Failed : Type 0) (schema : Schema) (document : ExecutableDocument) (operation : Operation) (variables : Members) where
  expanded-divides : IsWithin document operation → (answer : Result ExecutionResponse (Refused DivideFault))
      → JoinsTo tells Failed schema document (expanded_operation document.fragments operation) variables answer
      → DividesTo tells Failed schema document operation variables answer
  expanded-divides within (Ok response) joins = record { within = within; divided = joins }
  expanded-divides within (Err (Fault TooLarge)) joins = absurd joins
  expanded-divides within (Err (Fault Remote)) joins = (within, joins)
  expanded-divides within (Err (Fault (MissingKey key))) joins = record { within = within; divided = joins }
  expanded-divides within (Err Memory) joins = tt

  pub divides : (d : ExecutableDocument) (whole : Operation) → d ≡ document → whole ≡ expanded_operation d.fragments operation
      → count (expanded d.fragments operation.selection_set.selections) ≤ MOST_SELECTIONS → (answer : Result ExecutionResponse (Refused DivideFault))
      → JoinsTo tells Failed schema document whole variables answer → DividesTo tells Failed schema document operation variables answer
  divides d whole same is within answer joins =
      expanded-divides (subst (λ (x : ExecutableDocument). IsWithin x operation) same within) answer
      (subst (λ (o : Operation). JoinsTo tells Failed schema document o variables answer)
      (is ∙ ap (λ (x : ExecutableDocument). expanded_operation x.fragments operation) same) joins)
