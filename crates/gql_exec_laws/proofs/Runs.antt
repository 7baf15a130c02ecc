-- Expanded selections are executed like the selections.
use Rattle.std.proofs.Common.{◌≡◌, ◌↔◌, ℕ, zero, suc, ◌+◌, List, [], ◌∷◌, map, Option, Some, None, refl, sym, ap, ◌∙◌, subst}
use Rattle.jb_tree.specs.declared.value.Value.{Value}
use Rattle.gql_ast_base.specs.declared.type_ref.TypeRef.{TypeRef}
use Rattle.gql_document_types.specs.declared.fragment.Fragment.{Fragment}
use Rattle.gql_document_types.specs.declared.selection.Selection.{Selection}
use Rattle.gql_schema_types.specs.declared.types.ObjectType.{ObjectType}
use Rattle.gql_document_types.specs.Contents.{HaveContents}
use Rattle.gql_document_types.specs.Expanded.{expanded}
use Rattle.gql_document_types.specs.Ranks.{AreRanked}
use Rattle.gql_resolvers.specs.Depth.{AllGroups, Suffices}
use Rattle.gql_resolvers.specs.Execute.{Made, Member, then_rest, settled, unless_misfit}
use Rattle.gql_resolvers.specs.Execute.{one_array, one_object, with_key, Below, object_made, value_made, items_made, field_made, groups_made, execute}
use Rattle.gql_resolvers.specs.Resolved.{Meaning, Meanings, gives_leaf, gives_object, gives_list, gives_skip, fails_with, no_answer, answer_then}
use Rattle.gql_resolvers.specs.Resolved.{Outcome, answered, refused}
use Rattle.gql_resolvers.specs.Spot.{Spot, item_spot, field_spot}
use Rattle.gql_resolvers.specs.Trail.{Segment, Trail}
use Rattle.gql_resolvers.specs.World.{World, key_of}
use Rattle.gql_exec.specs.Group.{Group}
use Rattle.gql_exec.specs.Request.{Request}
use Rattle.gql_exec.specs.RequestWorld.{plain, plain_world}
use Rattle.gql_exec.specs.Response.{IsExecuted}
use Rattle.gql_response.specs.declared.execution_response.ExecutionResponse.{ExecutionResponse}
use Rattle.gql_exec_laws.specs.Others.{among}
use Rattle.gql_exec_laws.proofs.Groups.{with_pieces, groups-expanded}

module _ {X : Type 0} (r : Request X) (others : List Fragment) where
  abbrev without : Request X
  without = among others r

  abbrev w : World X ObjectType Group (List (List Selection))
  w = plain_world r

  abbrev v : World X ObjectType Group (List (List Selection))
  v = plain_world without

  abbrev with_sets : List (List Selection) → List (List Selection)
  with_sets sets = map (expanded r.fragments) sets

  abbrev with_each : Group → Group
  with_each = with_pieces r.fragments

  abbrev at : Trail → Segment → TypeRef → Group → Spot Group
  at around step ty g = record { around = around; step = step; type = ty; group = g }

  -- a run of what is expanded that gives what the other gives of what is not
  module _ (run : Below w) (other : Below v) (same : (U : ObjectType) (x : X) (outer : Trail) (sets : List (List Selection)) → other U x outer (with_sets sets) ≡ run U x outer sets) where
    module _ (g : Group) where
      object-same : (a : Trail) (s : Segment) (t : TypeRef) (x : X) (o : Option ObjectType)
          → object_made v other (at a s t (with_each g)) x o ≡ object_made w run (at a s t g) x o
      object-same a s t x None = refl
      object-same a s t x (Some U) = ap one_object (same U x ((s, t) ∷ a) g.pieces)

      mutual
        value-same : (a : Trail) (s : Segment) (t : TypeRef) (m : Meaning X) → value_made v other (at a s t (with_each g)) m ≡ value_made w run (at a s t g) m
        value-same a s t (gives_leaf leaf) = refl
        value-same a s t (gives_object x) = object-same a s t x (w.type_of x)
        value-same a s t (gives_list ms) = ap one_array (items-same a s t 0 ms)
        value-same a s t gives_skip = refl
        value-same a s t (fails_with text) = refl

        items-same : (a : Trail) (s : Segment) (t : TypeRef) (i : ℕ) (ms : Meanings X)
            → items_made v other (at a s t (with_each g)) i ms ≡ items_made w run (at a s t g) i ms
        items-same a s t i no_answer = refl
        items-same a s t i (answer_then m ms) =
            let it = item_spot (at a s t (with_each g)) i in
            let that = item_spot (at a s t g) i in
            ap (λ (made : Made Value). then_rest (settled it (unless_misfit v it (v.misfit it.type m) made)) (items_made v other (at a s t (with_each g)) (i + 1) ms)) (value-same it.around it.step it.type m)
            ∙ ap (λ (rest : Made Value). then_rest (settled that (unless_misfit w that (w.misfit that.type m) (value_made w run that m))) rest) (items-same a s t (i + 1) ms)

      field-same : (a : Trail) (s : Segment) (t : TypeRef) (outcome : Outcome X) → field_made v other (at a s t (with_each g)) outcome ≡ field_made w run (at a s t g) outcome
      field-same a s t (answered m) =
          ap (λ (made : Made Value). settled (at a s t g) (unless_misfit w (at a s t g) (w.misfit t m) made)) (value-same a s t m)
      field-same a s t (refused fault) = refl

    groups-same : (U : ObjectType) (x : X) (outer : Trail) (gs : List Group) → groups_made v other U x outer (map with_each gs) ≡ groups_made w run U x outer gs
    groups-same U x outer [] = refl
    groups-same U x outer (g ∷ gs) =
        let here = field_spot w U outer g in
        ap (λ (made : Made Value). then_rest (with_key (key_of w g) made) (groups_made v other U x outer (map with_each gs))) (field-same g here.around here.step here.type (w.asks U x g))
        ∙ ap (λ (rest : Made Member). then_rest (with_key (key_of w g) (field_made w run here (w.asks U x g))) rest) (groups-same U x outer gs)

  module _ (have : HaveContents r.fragments) (rank : ℕ → ℕ) (ranked : AreRanked r.fragments rank) (order : ℕ → ℕ) (ordered : AreRanked others order) where
    plain-same : (U : ObjectType) (sets : List (List Selection)) → plain without U (with_sets sets) ≡ map with_each (plain r U sets)
    plain-same U sets = groups-expanded r.fragments others r.schema U r.variables have rank ranked order ordered sets

    pub run-same : (d : ℕ) (U : ObjectType) (x : X) (outer : Trail) (sets : List (List Selection)) → execute v d U x outer (with_sets sets) ≡ execute w d U x outer sets
    run-same zero U x outer sets = refl
    run-same (suc d) U x outer sets =
        ap (groups_made v (execute v d) U x outer) (plain-same U sets) ∙ groups-same (execute w d) (execute v d) (run-same d) U x outer (plain r U sets)

    -- ---- how deep is enough

    abbrev IsEnough : ℕ → ObjectType → List (List Selection) → Type 0
    IsEnough d U sets = Suffices w d U sets → Suffices v d U (with_sets sets)

    all-enough : (d : ℕ) → ((U : ObjectType) (sets : List (List Selection)) → IsEnough d U sets) → (gs : List Group)
        → AllGroups w (λ g. (W : ObjectType) → Suffices w d W (w.below g)) gs → AllGroups v (λ g. (W : ObjectType) → Suffices v d W (v.below g)) (map with_each gs)
    all-enough d deep [] enough = tt
    all-enough d deep (g ∷ gs) enough = (λ W. deep W g.pieces (enough.0 W), all-enough d deep gs enough.1)

    pub enough-same : (d : ℕ) (U : ObjectType) (sets : List (List Selection)) → IsEnough d U sets
    enough-same zero U sets enough = plain-same U sets ∙ ap (map with_each) enough
    enough-same (suc d) U sets enough =
        subst (AllGroups v (λ g. (W : ObjectType) → Suffices v d W (v.below g))) (sym (plain-same U sets)) (all-enough d (enough-same d) (plain r U sets) enough)

    -- and the other way round

    nothing-before : (gs : List Group) → map with_each gs ≡ [] → gs ≡ []
    nothing-before [] none = refl
    nothing-before (g ∷ gs) none = cc

    abbrev WasEnough : ℕ → ObjectType → List (List Selection) → Type 0
    WasEnough d U sets = Suffices v d U (with_sets sets) → Suffices w d U sets

    all-before : (d : ℕ) → ((U : ObjectType) (sets : List (List Selection)) → WasEnough d U sets) → (gs : List Group)
        → AllGroups v (λ g. (W : ObjectType) → Suffices v d W (v.below g)) (map with_each gs) → AllGroups w (λ g. (W : ObjectType) → Suffices w d W (w.below g)) gs
    all-before d deep [] enough = tt
    all-before d deep (g ∷ gs) enough = (λ W. deep W g.pieces (enough.0 W), all-before d deep gs enough.1)

    pub enough-before : (d : ℕ) (U : ObjectType) (sets : List (List Selection)) → WasEnough d U sets
    enough-before zero U sets enough = nothing-before (plain r U sets) (sym (plain-same U sets) ∙ enough)
    enough-before (suc d) U sets enough =
        all-before d (enough-before d) (plain r U sets) (subst (AllGroups v (λ g. (W : ObjectType) → Suffices v d W (v.below g))) (plain-same U sets) enough)

    -- ---- responses

    abbrev response_of : Made Member → ExecutionResponse
    response_of made = record { errors = made.1; root = made.0 }

    pub executed-alike : (U : ObjectType) (x : X) (selections : List Selection) (response : ExecutionResponse)
        → IsExecuted without U x (expanded r.fragments selections) response ↔ IsExecuted r U x selections response
    executed-alike U x selections response = (
      λ other. record {
        depth = other.depth;
        enough = enough-before other.depth U (selections ∷ []) other.enough;
        is = other.is ∙ ap response_of (run-same other.depth U x [] (selections ∷ []));
      },
      λ made. record {
        depth = made.depth;
        enough = enough-same made.depth U (selections ∷ []) made.enough;
        is = made.is ∙ sym (ap response_of (run-same made.depth U x [] (selections ∷ [])));
      },
    )
