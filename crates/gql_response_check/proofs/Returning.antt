-- What a function of the walk gives, told of the place and the answer that its caller knows.
use Rattle.std.proofs.Common.{◌≡◌, ℕ, List, Bool, true, false, Option, Some, None, is_some, length, Result, IfOk, refl, sym, ap, ◌∙◌, subst}
use Rattle.std.proofs.lemmas.Result.{IfOk-weaker}
use Rattle.jb_tree.specs.declared.value.Value.{Value}
use Rattle.gql_ast_base.specs.Names.{Named}
use Rattle.gql_ast_base.specs.TypeParts.{is_non_null}
use Rattle.gql_ast.specs.declared.field_definition.FieldDefinition.{FieldDefinition}
use Rattle.gql_coerce.specs.declared.told.ArgumentFault.{ArgumentFault}
use Rattle.gql_collect.specs.Grouping.{groups_seen}
use Rattle.gql_collect.specs.Groups.{SameGroups, applying, response_name}
use Rattle.gql_collect.specs.declared.group.Group.{Group as FieldsOfKey}
use Rattle.gql_document_types.specs.declared.selection.Selection.{Selection}
use Rattle.gql_exec.specs.bridge.Asking.{outcome_of}
use Rattle.gql_exec.specs.Asks as asks
use Rattle.gql_exec.specs.Executing.{Resolving}
use Rattle.gql_exec.specs.bridge.Executing.{request_of, world_of}
use Rattle.gql_exec.specs.Group.{Group}
use Rattle.gql_exec.specs.RequestWorld.{setting_on}
use Rattle.gql_exec.specs.declared.asking.Asked.{Asked}
use Rattle.gql_exec.specs.declared.asking.Asked.TheVariants.{Gave, Failed, Refused}
use Rattle.gql_exec.specs.declared.executing.Executing.{Executing}
use Rattle.gql_exec.proofs.Completing.{at_field, field-spot}
use Rattle.gql_resolvers.specs.Execute.{Member}
use Rattle.gql_resolvers.specs.Fault.{told_at}
use Rattle.gql_resolvers.specs.Meaning.{meaning_by, meanings_by}
use Rattle.gql_resolvers.specs.Resolved.{Fault, Meaning, Misfit, Outcome, answered, refused, fails_with, gives_leaf, gives_list, gives_object, gives_skip}
use Rattle.gql_resolvers.specs.Spot.{Spot, field_spot, item_spot, trail}
use Rattle.gql_resolvers.specs.Trail.{Trail, path_of}
use Rattle.gql_resolvers.specs.World.{World}
use Rattle.gql_resolvers.specs.declared.resolve_error.FieldError.{FieldError}
use Rattle.gql_resolvers.specs.declared.resolved_value.ResolvedValue.{ResolvedValue}
use Rattle.gql_schema_types.specs.declared.types.ObjectType.{ObjectType}
use Rattle.gql_source.specs.File.{Files}
use Rattle.gql_checker_laws.specs.Claims.{Claim, nothing}
use Rattle.gql_checker_laws.specs.Walk.{inner_found, outcome_found, set_found, settled}
use Rattle.gql_checker_laws.specs.Findings.{with_all_told}
use Rattle.gql_checker_laws.specs.Found.{FindsBelow, IsFound}
use Rattle.gql_checker_laws.specs.Places.{fault_found, item_found, own_found, place_found}
use Rattle.gql_checker_laws.specs.Reported.{is_idle, is_leaf, items_of, members_of}
use Rattle.gql_checker_laws.specs.Told.{any_told, told_numbers}
use Rattle.gql_checker_laws.proofs.Ending.{idle-none, idle-not, outcome-fault, outcome-place, place-leaf, place-misfit, place-object, place-skip}
use Rattle.gql_checker_laws.proofs.Finding.{found-as, found-nothing, found-told}
use Rattle.gql_checker_laws.proofs.Inside.{list-found, typed-found}
use Rattle.gql_response_check.specs.bridge.Finds.{FindsAnswer, FindsFault, FindsField, FindsItem, FindsItems, FindsMembers, FindsOwn, FindsParts}
use Rattle.gql_response_check.specs.bridge.Views.{claims_in, findings_of, value_in}
use Rattle.gql_response_check.specs.declared.findings.Findings.{Findings}
use Rattle.gql_response_check.specs.declared.reported.Reported.{Reported}

-- a fault that claims tell before its place is looked at
pub done-fault : {E : Type 0} (sources : Files) (spot : Spot Group) (fault : Fault) (reported : Reported) (before between after : Findings) (comes : Bool) (result : Result Bool E)
    → comes ≡ any_told sources fault (claims_in reported) → findings_of between ≡ with_all_told (told_numbers sources fault (claims_in reported)) (findings_of before)
    → IfOk result (FindsOwn spot comes false reported between after) → IfOk result (FindsFault sources spot fault reported before after)
done-fault sources spot fault reported before between after comes result is told =
    IfOk-weaker result (FindsOwn spot comes false reported between after) (FindsFault sources spot fault reported before after)
    (λ passes own. record {
      finds =
          found-told (any_told sources fault (claims_in reported)) (is_non_null spot.type) (told_numbers sources fault (claims_in reported)) (path_of (trail spot))
          (value_in reported) (findings_of before) (findings_of between) (findings_of after) passes told
          (subst (λ b. IsFound (own_found spot b false (value_in reported)) (findings_of between) (findings_of after) passes) is own.finds);
    })

module _ {X E : Type 0} (e : Executing) (types : X → List ℕ) (resolves : Resolving X) (reported : Reported) (before after : Findings) (result : Result Bool E) where
  abbrev w : World X ObjectType Group (List (List Selection))
  w = world_of e types resolves

  abbrev v : Option Value
  v = value_in reported

  abbrev cs : List Claim
  cs = claims_in reported

  -- this answer is found at the place
  abbrev pub Answers : Spot Group → Meaning X → Type 0
  Answers spot m = IfOk result (FindsAnswer e types resolves spot m reported before after)

  -- ---- an answer

  pub done-leaf : (spot : Spot Group) (leaf : Value) (given : Bool) → w.misfit spot.type (gives_leaf leaf) ≡ None → given ≡ is_leaf leaf (value_in reported)
      → IfOk result (FindsOwn spot false given reported before after) → Answers spot (gives_leaf leaf)
  done-leaf spot leaf given fits is =
      IfOk-weaker result (FindsOwn spot false given reported before after) (FindsAnswer e types resolves spot (gives_leaf leaf) reported before after)
      (λ passes own. record {
        finds = λ depth enough.
            found-as (own_found spot false given v) (place_found w (set_found w depth) spot (gives_leaf leaf) v cs) (findings_of before) (findings_of after) passes
            (ap (λ b. own_found spot false b v) is ∙ sym (place-leaf w (set_found w depth) spot leaf v cs fits)) own.finds;
      })

  pub done-skip : (spot : Spot Group) → IfOk result (FindsOwn spot false false reported before after) → Answers spot gives_skip
  done-skip spot =
      IfOk-weaker result (FindsOwn spot false false reported before after) (FindsAnswer e types resolves spot gives_skip reported before after)
      (λ passes own. record {
        finds = λ depth enough.
            found-as (own_found spot false false v) (place_found w (set_found w depth) spot gives_skip v cs) (findings_of before) (findings_of after) passes
            (sym (place-skip w (set_found w depth) spot v cs refl)) own.finds;
      })

  pub done-misfit : (spot : Spot Group) (m : Meaning X) (misfit : Misfit) → w.misfit spot.type m ≡ Some misfit
      → IfOk result (FindsFault w.sources spot (told_at (w.span_of spot.group) misfit) reported before after) → Answers spot m
  done-misfit spot m misfit is =
      IfOk-weaker result (FindsFault w.sources spot (told_at (w.span_of spot.group) misfit) reported before after) (FindsAnswer e types resolves spot m reported before after)
      (λ passes fault. record {
        finds = λ depth enough.
            found-as (fault_found w.sources spot (told_at (w.span_of spot.group) misfit) v cs) (place_found w (set_found w depth) spot m v cs)
            (findings_of before) (findings_of after) passes (sym (place-misfit w (set_found w depth) spot m misfit v cs is)) fault.finds;
      })

  pub done-object : (spot : Spot Group) (x : X) (U : ObjectType) → w.misfit spot.type (gives_object x) ≡ None → w.type_of x ≡ Some U
      → IfOk result (FindsMembers e types resolves spot U x reported before after) → Answers spot (gives_object x)
  done-object spot x U fits is =
      IfOk-weaker result (FindsMembers e types resolves spot U x reported before after) (FindsAnswer e types resolves spot (gives_object x) reported before after)
      (λ passes members. record {
        finds = λ depth enough.
            found-as _ (place_found w (set_found w depth) spot (gives_object x) v cs) (findings_of before) (findings_of after) passes
            (sym (place-object w (set_found w depth) spot x U v cs fits is)) (members.finds depth enough);
      })

  -- the same answer in other words
  pub done-meant : (spot : Spot Group) (m n : Meaning X) → m ≡ n → Answers spot n → Answers spot m
  done-meant spot m n is done = subst (λ k. Answers spot k) (sym is) done

  -- ---- where something is looked for

  pub done-item : (list : Spot Group) (index : ℕ) (here : Spot Group) (m n : Meaning X) → here ≡ item_spot list index → n ≡ m
      → is_idle (value_in reported) (claims_in reported) ≡ false → Answers here m
      → IfOk result (FindsItem e types resolves list index n reported before after)
  done-item list index here m n there is busy done =
      IfOk-weaker result (FindsAnswer e types resolves (item_spot list index) n reported before after) (FindsItem e types resolves list index n reported before after)
      (λ passes it. record {
        finds = λ depth enough.
            found-as (place_found w (set_found w depth) (item_spot list index) n v cs) (item_found w (set_found w depth) (item_spot list index) n v cs)
            (findings_of before) (findings_of after) passes (sym (idle-not v cs (place_found w (set_found w depth) (item_spot list index) n v cs) busy)) (it.finds depth enough);
      }) (done-meant (item_spot list index) n m is (subst (λ s. Answers s m) there done))

  module _ (U : ObjectType) (x : X) (outer : Trail) (g : Group) (spot : Spot Group) (there : spot ≡ field_spot w U outer g)
      (busy : is_idle (value_in reported) (claims_in reported) ≡ false) where
    outcome-as : (o : Outcome X) (depth : ℕ) → o ≡ w.asks U x g
        → outcome_found w (set_found w depth) spot o v cs ≡ outcome_found w (set_found w depth) (field_spot w U outer g) (w.asks U x g) v cs
    outcome-as o depth is =
        ap (λ (s : Spot Group). outcome_found w (set_found w depth) s o v cs) there
        ∙ ap (λ (p : Outcome X). outcome_found w (set_found w depth) (field_spot w U outer g) p v cs) is

    pub done-field : (m : Meaning X) → spot.group ≡ g → answered m ≡ w.asks U x g → Answers spot m → IfOk result (FindsField e types resolves U x outer g reported before after)
    done-field m group is =
        IfOk-weaker result (FindsAnswer e types resolves spot m reported before after) (FindsField e types resolves U x outer g reported before after)
        (λ passes it. record {
          finds = λ depth enough.
              found-as (place_found w (set_found w depth) spot m v cs) (outcome_found w (set_found w depth) (field_spot w U outer g) (w.asks U x g) v cs)
              (findings_of before) (findings_of after) passes
              (sym (outcome-place w (set_found w depth) spot m v cs busy) ∙ outcome-as (answered m) depth is)
              (subst (λ h. FindsBelow w h (findings_of before) (findings_of after) passes (λ run. place_found w run spot m v cs)) group it.finds depth enough);
        })

    pub done-unasked : (fault : Fault) → refused fault ≡ w.asks U x g → IfOk result (FindsFault w.sources spot fault reported before after)
        → IfOk result (FindsField e types resolves U x outer g reported before after)
    done-unasked fault is =
        IfOk-weaker result (FindsFault w.sources spot fault reported before after) (FindsField e types resolves U x outer g reported before after)
        (λ passes it. record {
          finds = λ depth enough.
              found-as (fault_found w.sources spot fault v cs) (outcome_found w (set_found w depth) (field_spot w U outer g) (w.asks U x g) v cs)
              (findings_of before) (findings_of after) passes
              (sym (outcome-fault w (set_found w depth) spot fault v cs busy) ∙ outcome-as (refused fault) depth is) it.finds;
        })

  -- a group's field, by what comes of it
  module _ {O : Type 0} (see : O → X) (U : ObjectType) (x : X) (outer : Trail) (g : Group) (key : Named) (definition : FieldDefinition) (asked : Asked O)
      (named : key ≡ response_name g.first) (defined : definition ≡ asks.definition_on (request_of e types resolves).schema U g.first)
      (comes : outcome_of see asked ≡ asks.asks (request_of e types resolves) U x g.first)
      (busy : is_idle (value_in reported) (claims_in reported) ≡ false) where
    there : at_field outer g key definition.ty ≡ field_spot w U outer g
    there = field-spot w U outer g key definition.ty named (ap (λ (d : FieldDefinition). d.ty) defined)

    comes-as : (other : Asked O) → asked ≡ other → outcome_of see other ≡ asks.asks (request_of e types resolves) U x g.first
    comes-as other is = ap (outcome_of see) (sym is) ∙ comes

    abbrev pub IsFieldDone : Type 0
    IsFieldDone = IfOk result (FindsField e types resolves U x outer g reported before after)

    pub field-gave : (resolved : ResolvedValue O) → asked ≡ Gave resolved → Answers (at_field outer g key definition.ty) (meaning_by see resolved) → IsFieldDone
    field-gave resolved is done =
        done-field U x outer g (at_field outer g key definition.ty) there busy (meaning_by see resolved) refl (comes-as (Gave resolved) is) done

    pub field-failed : (error : FieldError) → asked ≡ Failed error → Answers (at_field outer g key definition.ty) (fails_with error.message) → IsFieldDone
    field-failed error is done =
        done-field U x outer g (at_field outer g key definition.ty) there busy (fails_with error.message) refl (comes-as (Failed error) is) done

    pub field-refused : (fault : ArgumentFault) → asked ≡ Refused fault
        → IfOk result (FindsFault w.sources (at_field outer g key definition.ty) (asks.fault_of fault) reported before after) → IsFieldDone
    field-refused fault is done =
        done-unasked U x outer g (at_field outer g key definition.ty) there busy (asks.fault_of fault) (comes-as (Refused fault) is) done

  -- ---- a place whose parts were looked at before

  pub done-list : {O : Type 0} (see : O → X) (spot : Spot Group) (items : List (Result (ResolvedValue O) FieldError)) (vs : Option (List Value)) (given : Bool)
      (between : Findings) (p : Bool) → w.misfit spot.type (gives_list (meanings_by see items)) ≡ None
      → vs ≡ items_of (length items) (value_in reported) → given ≡ is_some vs
      → FindsItems e types resolves spot (meanings_by see items) vs (claims_in reported) before between p
      → IfOk result (FindsOwn spot p given reported between after) → Answers spot (gives_list (meanings_by see items))
  done-list see spot items vs given between p fits is some inside =
      IfOk-weaker result (FindsOwn spot p given reported between after) (FindsAnswer e types resolves spot (gives_list (meanings_by see items)) reported before after)
      (λ q own. record {
        finds = list-found see w spot items v cs vs given (findings_of before) (findings_of between) (findings_of after) p q fits is some inside.finds own.finds;
      })

  pub done-typed : (U : ObjectType) (groups : List FieldsOfKey) (spot : Spot Group)
      → SameGroups (groups_seen groups) (applying (setting_on (request_of e types resolves) U) spot.group.pieces) → (x : X) (ms : Option (List Member)) (given : Bool)
      (outer : Trail) (between : Findings) (p : Bool) → outer ≡ trail spot → ms ≡ members_of groups (value_in reported) → given ≡ is_some ms
      → FindsParts e types resolves U x outer groups ms (claims_in reported) before between p
      → IfOk result (FindsOwn spot p given reported between after) → IfOk result (FindsMembers e types resolves spot U x reported before after)
  done-typed U groups spot same x ms given outer between p at is some inside =
      IfOk-weaker result (FindsOwn spot p given reported between after) (FindsMembers e types resolves spot U x reported before after)
      (λ q own. record {
        finds =
            typed-found (request_of e types resolves) U groups spot same x v cs ms given outer (findings_of before) (findings_of between) (findings_of after) p q at is some
            inside.finds own.finds;
      })

-- ---- nothing is looked for

module _ {X : Type 0} (e : Executing) (types : X → List ℕ) (resolves : Resolving X) (reported : Reported) (now : Findings)
    (idle : is_idle (value_in reported) (claims_in reported) ≡ true) where
  abbrev it : World X ObjectType Group (List (List Selection))
  it = world_of e types resolves

  pub idle-field : (U : ObjectType) (x : X) (outer : Trail) (g : Group) → FindsField e types resolves U x outer g reported now now false
  idle-field U x outer g = record {
    finds = λ depth enough.
        let spot = field_spot it U outer g in
        let found = settled it spot (it.asks U x g) (value_in reported) (claims_in reported) (inner_found it (set_found it depth) spot (it.asks U x g) (value_in reported) (claims_in reported)) in
        found-as nothing _ (findings_of now) (findings_of now) false (sym (idle-none (value_in reported) (claims_in reported) found idle)) (found-nothing (findings_of now));
  }

  pub idle-item : (list : Spot Group) (index : ℕ) (m : Meaning X) → FindsItem e types resolves list index m reported now now false
  idle-item list index m = record {
    finds = λ depth enough.
        let found = place_found it (set_found it depth) (item_spot list index) m (value_in reported) (claims_in reported) in
        found-as nothing _ (findings_of now) (findings_of now) false (sym (idle-none (value_in reported) (claims_in reported) found idle)) (found-nothing (findings_of now));
  }
