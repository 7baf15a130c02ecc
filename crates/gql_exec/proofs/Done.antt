-- What a function of the cycle answers, told of the place that its caller knows.
use Rattle.std.proofs.Common.{◌≡◌, List, [], ◌∷◌, ◌++◌, Option, Some, None, Result, IfOk, refl, sym, subst}
use Rattle.std.proofs.lemmas.Result.{IfOk-weaker}
use Rattle.jb_tree.specs.declared.value.Value.{Value}
use Rattle.gql_ast_base.specs.declared.type_ref.TypeRef.{TypeRef}
use Rattle.gql_document_types.specs.declared.selection.Selection.{Selection}
use Rattle.gql_response.specs.declared.graphql_error.GraphQLError.{GraphQLError}
use Rattle.gql_schema_types.specs.declared.types.ObjectType.{ObjectType}
use Rattle.gql_resolvers.specs.Execute.{Made, Below, settled, value_made, completed, field_made, one_object, execute}
use Rattle.gql_resolvers.specs.Fault.{told_at, fault_error}
use Rattle.gql_resolvers.specs.Resolved.{Meaning, gives_object, Misfit, Fault, answered, refused}
use Rattle.gql_resolvers.specs.Spot.{Spot, trail, field_spot}
use Rattle.gql_resolvers.specs.Trail.{Trail}
use Rattle.gql_resolvers.specs.World.{World}
use Rattle.gql_exec.specs.Group.{Group}
use Rattle.gql_exec.specs.bridge.Executed.{IsMade, Makes, MakesBelow}
use Rattle.gql_exec.specs.bridge.Output.{Finds, IsWritten}
use Rattle.gql_exec.specs.bridge.Trails.{null_at}
use Rattle.gql_exec.specs.declared.completed.Completed.{Completed}
use Rattle.gql_exec.proofs.Outputs.{finds-as}
use Rattle.gql_exec.proofs.Completing.{made-as, completed-fits}
use Rattle.gql_exec.proofs.Places.{made-misfit, made-fitting, field-answered, field-refused}

module _ {X V E : Type 0} (w : World X ObjectType Group (List (List Selection))) (before after : List GraphQLError) (Are : V → Option (List Value) → Type 0) (result : Result V E) where
  -- what is made, unless out of memory
  abbrev pub IsDone : Group → (Below w → Made Value) → Type 0
  IsDone g make = IfOk result (λ done. Makes w (Are done) g before after make)

  -- a fault is listed, and the place is null
  abbrev pub IsRefused : Spot Group → Fault → Type 0
  IsRefused spot fault = IfOk result (λ done. Finds (Are done) (λ found. IsMade found before after (settled spot (None, fault_error w spot fault ∷ []))))

  -- what is made below this group is made below that one in other words
  pub done-as : (g h : Group) (make other : Below w → Made Value)
      → ((found : Option (List Value)) → MakesBelow w g found before after make → MakesBelow w h found before after other) → IsDone g make → IsDone h other
  done-as g h make other further done =
      IfOk-weaker result (λ d. Makes w (Are d) g before after make) (λ d. Makes w (Are d) h before after other)
      (λ d it. finds-as (Are d) (λ found. MakesBelow w g found before after make) (λ found. MakesBelow w h found before after other) further it) done

  pub refused-as : (spot : Spot Group) (fault : Fault) (h : Group) (other : Below w → Made Value)
      → ((found : Option (List Value)) → IsMade found before after (settled spot (None, fault_error w spot fault ∷ [])) → MakesBelow w h found before after other)
      → IsRefused spot fault → IsDone h other
  refused-as spot fault h other further done =
      IfOk-weaker result (λ d. Finds (Are d) (λ found. IsMade found before after (settled spot (None, fault_error w spot fault ∷ []))))
      (λ d. Makes w (Are d) h before after other)
      (λ d it. finds-as (Are d) (λ found. IsMade found before after (settled spot (None, fault_error w spot fault ∷ []))) (λ found. MakesBelow w h found before after other) further it)
      done

  -- the same answer in other words
  pub done-meant : (spot : Spot Group) (m n : Meaning X) → m ≡ n → IsDone spot.group (λ run. completed w run spot n)
      → IsDone spot.group (λ run. completed w run spot m)
  done-meant spot m n is done = subst (λ k. IsDone spot.group (λ run. completed w run spot k)) (sym is) done

  pub done-misfit : (spot : Spot Group) (m : Meaning X) (misfit : Misfit) → w.misfit spot.type m ≡ Some misfit
      → IsRefused spot (told_at (w.span_of spot.group) misfit) → IsDone spot.group (λ run. completed w run spot m)
  done-misfit spot m misfit is =
      refused-as spot (told_at (w.span_of spot.group) misfit) spot.group (λ run. completed w run spot m)
      (λ found made. made-misfit w spot before after m misfit found is made)

  pub done-fits : (spot : Spot Group) (m : Meaning X) → w.misfit spot.type m ≡ None
      → IsDone spot.group (λ run. settled spot (value_made w run spot m)) → IsDone spot.group (λ run. completed w run spot m)
  done-fits spot m is =
      done-as spot.group spot.group (λ run. settled spot (value_made w run spot m)) (λ run. completed w run spot m)
      (λ found makes depth enough. made-as found found before after _ _ refl (sym (completed-fits w (execute w depth) spot m is)) (makes depth enough))

  pub done-object : (spot : Spot Group) (x : X) (U : ObjectType) → w.misfit spot.type (gives_object x) ≡ None → w.type_of x ≡ Some U
      → IsDone spot.group (λ run. settled spot (one_object (run U x (trail spot) (w.below spot.group))))
      → IsDone spot.group (λ run. completed w run spot (gives_object x))
  done-object spot x U fits is =
      done-as spot.group spot.group (λ run. settled spot (one_object (run U x (trail spot) (w.below spot.group)))) (λ run. completed w run spot (gives_object x))
      (λ found makes. made-fitting w spot before after x U found fits is makes)

  -- at the place of a group's field
  pub done-field : (U : ObjectType) (x : X) (outer : Trail) (g : Group) (spot : Spot Group) (m : Meaning X) → spot ≡ field_spot w U outer g → answered m ≡ w.asks U x g
      → IsDone g (λ run. completed w run spot m) → IsDone g (λ run. field_made w run (field_spot w U outer g) (w.asks U x g))
  done-field U x outer g spot m there is =
      done-as g g (λ run. completed w run spot m) (λ run. field_made w run (field_spot w U outer g) (w.asks U x g))
      (λ found makes. field-answered w U x outer g before after spot m found there is makes)

  pub done-unasked : (U : ObjectType) (x : X) (outer : Trail) (g : Group) (spot : Spot Group) (fault : Fault) → spot ≡ field_spot w U outer g → refused fault ≡ w.asks U x g
      → IsRefused spot fault → IsDone g (λ run. field_made w run (field_spot w U outer g) (w.asks U x g))
  done-unasked U x outer g spot fault there is =
      refused-as spot fault g (λ run. field_made w run (field_spot w U outer g) (w.asks U x g))
      (λ found made. field-refused w U x outer g before after spot fault found there is made)

  -- the same answer at the same place, both in other words
  pub done-there : (here there : Spot Group) (m n : Meaning X) → here ≡ there → n ≡ m → IsDone here.group (λ run. completed w run here m)
      → IsDone there.group (λ run. completed w run there n)
  done-there here there m n same is done =
      done-meant there n m is (subst (λ s. IsDone s.group (λ run. completed w run s m)) same done)

-- a null at a place below which nothing is left in the output
pub null-done : {X S V E : Type 0} (w : World X ObjectType Group (List (List Selection))) (before after : List GraphQLError) (is_made : S → S → V → Value → Type 0)
    (start between end : S) (result : Result (Completed V) E) (ty : TypeRef) (g : Group) (make : Below w → Made Value)
    → between ≡ start → IfOk result (λ done. IsWritten is_made between end done (null_at ty)) → MakesBelow w g (null_at ty) before after make
    → IfOk result (λ done. Makes w (IsWritten is_made start end done) g before after make)
null-done w before after is_made start between end result ty g make same written makes =
    IfOk-weaker result (λ done. IsWritten is_made between end done (null_at ty)) (λ done. Makes w (IsWritten is_made start end done) g before after make)
    (λ done it. record { found = null_at ty; are = subst (λ s. IsWritten is_made s end done (null_at ty)) same it; hold = makes }) written

-- a null at a place whose fault was listed
pub null-listed : {X S V E : Type 0} (w : World X ObjectType Group (List (List Selection))) (before after : List GraphQLError) (is_made : S → S → V → Value → Type 0)
    (start end : S) (result : Result (Completed V) E) (spot : Spot Group) (fault : Fault) → after ≡ before ++ fault_error w spot fault ∷ []
    → IfOk result (λ done. IsWritten is_made start end done (null_at spot.type)) → IsRefused w before after (λ done. IsWritten is_made start end done) result spot fault
null-listed w before after is_made start end result spot fault listed written =
    IfOk-weaker result (λ done. IsWritten is_made start end done (null_at spot.type))
    (λ done. Finds (IsWritten is_made start end done) (λ found. IsMade found before after (settled spot (None, fault_error w spot fault ∷ []))))
    (λ done it. record { found = null_at spot.type; are = it; hold = record { is = refl; listed = listed } }) written
