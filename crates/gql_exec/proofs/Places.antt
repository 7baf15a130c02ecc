-- What is made at a place, from what is made of its parts.
use Rattle.std.proofs.Common.{◌≡◌, List, [], ◌∷◌, Option, Some, None, refl, sym, ap, ◌∙◌, subst}
use Rattle.jb_tree.specs.declared.value.Value.{Value}
use Rattle.jb_tree.specs.declared.value.Value.TheVariants as json
use Rattle.gql_document_types.specs.declared.selection.Selection.{Selection}
use Rattle.gql_response.specs.declared.graphql_error.GraphQLError.{GraphQLError}
use Rattle.gql_schema_types.specs.declared.types.ObjectType.{ObjectType}
use Rattle.gql_resolvers.specs.Execute.{Member, null_or_pass, settled, completed, field_made, one_object, execute}
use Rattle.gql_resolvers.specs.Fault.{told_at, fault_error}
use Rattle.gql_resolvers.specs.Resolved.{Meaning, gives_object, Misfit, Fault, Outcome, answered, refused}
use Rattle.gql_resolvers.specs.Spot.{Spot, trail, field_spot}
use Rattle.gql_resolvers.specs.Trail.{Trail}
use Rattle.gql_ast_base.specs.TypeParts.{is_non_null}
use Rattle.gql_resolvers.specs.World.{World}
use Rattle.gql_exec.specs.Group.{Group}
use Rattle.gql_exec.specs.bridge.Executed.{IsMade, MakesBelow, Executes}
use Rattle.gql_exec.proofs.Completing.{made-as, completed-misfit, completed-object, object-some, object-none}

module _ {X : Type 0} (w : World X ObjectType Group (List (List Selection))) (spot : Spot Group) (before after : List GraphQLError) where
  -- an answer that does not fit
  pub made-misfit : (m : Meaning X) (misfit : Misfit) (found : Option (List Value)) → w.misfit spot.type m ≡ Some misfit
      → IsMade found before after (settled spot (None, fault_error w spot (told_at (w.span_of spot.group) misfit) ∷ []))
      → MakesBelow w spot.group found before after (λ run. completed w run spot m)
  made-misfit m misfit found is made depth enough =
      made-as found found before after _ _ refl (sym (completed-misfit w (execute w depth) spot m misfit is)) made

  -- an object that fits
  pub made-fitting : (x : X) (U : ObjectType) (found : Option (List Value)) → w.misfit spot.type (gives_object x) ≡ None → w.type_of x ≡ Some U
      → MakesBelow w spot.group found before after (λ run. settled spot (one_object (run U x (trail spot) (w.below spot.group))))
      → MakesBelow w spot.group found before after (λ run. completed w run spot (gives_object x))
  made-fitting x U found fits is makes depth enough =
      made-as found found before after _ _ refl (sym (completed-object w (execute w depth) spot x U fits is)) (makes depth enough)

  -- what is selected below an object
  moved : (U : ObjectType) (x : X) (outer : Trail) (sets : List (List Selection)) (found : Option (List Member)) → outer ≡ trail spot → sets ≡ w.below spot.group
      → Executes w U x outer sets found before after → Executes w U x (trail spot) (w.below spot.group) found before after
  moved U x outer sets found there below executes =
      subst (λ o. Executes w U x o (w.below spot.group) found before after) there (subst (λ s. Executes w U x outer s found before after) below executes)

  pub made-members : (U : ObjectType) (x : X) (outer : Trail) (sets : List (List Selection)) (members : List Member) → outer ≡ trail spot → sets ≡ w.below spot.group
      → Executes w U x outer sets (Some members) before after
      → MakesBelow w spot.group (Some (json.Object members ∷ [])) before after (λ run. settled spot (one_object (run U x (trail spot) (w.below spot.group))))
  made-members U x outer sets members there below executes depth enough =
      object-some spot members before after (execute w depth U x (trail spot) (w.below spot.group))
      (moved U x outer sets (Some members) there below executes depth (enough U))

  pub made-null : (U : ObjectType) (x : X) (outer : Trail) (sets : List (List Selection)) → outer ≡ trail spot → sets ≡ w.below spot.group
      → Executes w U x outer sets None before after
      → MakesBelow w spot.group (null_or_pass (is_non_null spot.type)) before after (λ run. settled spot (one_object (run U x (trail spot) (w.below spot.group))))
  made-null U x outer sets there below executes depth enough =
      object-none spot before after (execute w depth U x (trail spot) (w.below spot.group)) (moved U x outer sets None there below executes depth (enough U))

module _ {X : Type 0} (w : World X ObjectType Group (List (List Selection))) (U : ObjectType) (x : X) (outer : Trail) (g : Group) (before after : List GraphQLError) where
  -- a field whose resolver answers
  pub field-answered : (spot : Spot Group) (m : Meaning X) (found : Option (List Value)) → spot ≡ field_spot w U outer g → answered m ≡ w.asks U x g
      → MakesBelow w g found before after (λ run. completed w run spot m)
      → MakesBelow w g found before after (λ run. field_made w run (field_spot w U outer g) (w.asks U x g))
  field-answered spot m found there is makes depth enough =
      made-as found found before after _ _ refl
      (ap (λ (s : Spot Group). completed w (execute w depth) s m) there ∙ ap (λ (o : Outcome X). field_made w (execute w depth) (field_spot w U outer g) o) is)
      (makes depth enough)

  -- a field that is refused before its resolver is asked
  pub field-refused : (spot : Spot Group) (fault : Fault) (found : Option (List Value)) → spot ≡ field_spot w U outer g → refused fault ≡ w.asks U x g
      → IsMade found before after (settled spot (None, fault_error w spot fault ∷ []))
      → MakesBelow w g found before after (λ run. field_made w run (field_spot w U outer g) (w.asks U x g))
  field-refused spot fault found there is made depth enough =
      made-as found found before after _ _ refl
      (ap (λ (s : Spot Group). settled s (None, fault_error w s fault ∷ [])) there ∙ ap (λ (o : Outcome X). field_made w (execute w depth) (field_spot w U outer g) o) is)
      made
