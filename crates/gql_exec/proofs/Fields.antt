-- What is made at the place of a group's field, by what comes of the field.
use Rattle.std.proofs.Common.{◌≡◌, List, Option, Result, sym, ap, ◌∙◌}
use Rattle.jb_tree.specs.declared.value.Value.{Value}
use Rattle.gql_ast_base.specs.Names.{Named}
use Rattle.gql_ast.specs.declared.field_definition.FieldDefinition.{FieldDefinition}
use Rattle.gql_response.specs.declared.graphql_error.GraphQLError.{GraphQLError}
use Rattle.gql_schema_types.specs.declared.types.ObjectType.{ObjectType}
use Rattle.gql_collect.specs.Groups.{response_name}
use Rattle.gql_resolvers.specs.Execute.{completed, field_made}
use Rattle.gql_resolvers.specs.Resolved.{fails_with}
use Rattle.gql_resolvers.specs.Spot.{field_spot}
use Rattle.gql_resolvers.specs.Trail.{Trail}
use Rattle.gql_resolvers.specs.Meaning.{meaning_by}
use Rattle.gql_resolvers.specs.declared.resolve_error.FieldError.{FieldError}
use Rattle.gql_resolvers.specs.declared.resolved_value.ResolvedValue.{ResolvedValue}
use Rattle.gql_coerce.specs.declared.told.ArgumentFault.{ArgumentFault}
use Rattle.gql_exec.specs.Asks as asks
use Rattle.gql_exec.specs.Group.{Group}
use Rattle.gql_exec.specs.Request.{Request}
use Rattle.gql_exec.specs.RequestWorld.{plain_world}
use Rattle.gql_exec.specs.bridge.Asking.{outcome_of}
use Rattle.gql_exec.specs.declared.asking.Asked.{Asked}
use Rattle.gql_exec.specs.declared.asking.Asked.TheVariants.{Gave, Failed, Refused}
use Rattle.gql_exec.proofs.Completing.{at_field, field-spot}
use Rattle.gql_exec.proofs.Done.{IsDone, IsRefused, done-field, done-unasked}

module _ {O X V E : Type 0} (see : O → X) (r : Request X) (before after : List GraphQLError) (Are : V → Option (List Value) → Type 0) (result : Result V E) (U : ObjectType) (x : X) (outer : Trail) (g : Group)
    (key : Named) (definition : FieldDefinition) (asked : Asked O)
    (named : key ≡ response_name g.first) (defined : definition ≡ asks.definition_on r.schema U g.first)
    (comes : outcome_of see asked ≡ asks.asks r U x g.first) where
  there : at_field outer g key definition.ty ≡ field_spot (plain_world r) U outer g
  there = field-spot (plain_world r) U outer g key definition.ty named (ap (λ (d : FieldDefinition). d.ty) defined)

  comes-as : (other : Asked O) → asked ≡ other → outcome_of see other ≡ asks.asks r U x g.first
  comes-as other is = ap (outcome_of see) (sym is) ∙ comes

  abbrev pub IsFieldDone : Type 0
  IsFieldDone = IsDone (plain_world r) before after Are result g (λ run. field_made (plain_world r) run (field_spot (plain_world r) U outer g) ((plain_world r).asks U x g))

  pub field-gave : (resolved : ResolvedValue O) → asked ≡ Gave resolved
      → IsDone (plain_world r) before after Are result g (λ run. completed (plain_world r) run (at_field outer g key definition.ty) (meaning_by see resolved)) → IsFieldDone
  field-gave resolved is done =
      done-field (plain_world r) before after Are result U x outer g (at_field outer g key definition.ty) (meaning_by see resolved) there (comes-as (Gave resolved) is) done

  pub field-failed : (error : FieldError) → asked ≡ Failed error
      → IsDone (plain_world r) before after Are result g (λ run. completed (plain_world r) run (at_field outer g key definition.ty) (fails_with error.message)) → IsFieldDone
  field-failed error is done =
      done-field (plain_world r) before after Are result U x outer g (at_field outer g key definition.ty) (fails_with error.message) there (comes-as (Failed error) is) done

  pub field-faulted : (fault : ArgumentFault) → asked ≡ Refused fault
      → IsRefused (plain_world r) before after Are result (at_field outer g key definition.ty) (asks.fault_of fault) → IsFieldDone
  field-faulted fault is done =
      done-unasked (plain_world r) before after Are result U x outer g (at_field outer g key definition.ty) (asks.fault_of fault) there (comes-as (Refused fault) is) done
