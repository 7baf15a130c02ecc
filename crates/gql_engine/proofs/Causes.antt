-- The causes of refusals as steps in a row.
use Rattle.std.proofs.Common.{◌≡◌, ◌≢◌, ◌<◌, ◌⊎◌, ℕ, true, List, Some, None, Ok, Err, refl, ◌∙◌, sym, ap, subst, inl, inr, arith}
use Rattle.jb_tree.specs.declared.value.Value.{Value}
use Rattle.jb_tree.specs.Value.{object_members}
use Rattle.jb_read.specs.declared.fault.ReadFault.{ReadFault}
use Rattle.jb_read.specs.Spelling.{JsonText}
use Rattle.jb_read.specs.Faults.{JsonFault}
use Rattle.gql_coerce.specs.Variables.{coerced_variables}
use Rattle.gql_coerce.specs.declared.fault.CoercionFault.{CoercionFault}
use Rattle.gql_diag.specs.List.{Diagnostics}
use Rattle.gql_response.specs.RequestFault.{request_error}
use Rattle.gql_parser.specs.DocumentFaults.{DocumentFaults}
use Rattle.gql_parser.specs.DocumentText.{DocumentText}
use Rattle.gql_parser.specs.SameFaults.{TellTheSame}
use Rattle.gql_document_types.specs.ChosenOperation.{chosen, refusal, why_none}
use Rattle.gql_document_types.specs.declared.document.ExecutableDocument.{ExecutableDocument}
use Rattle.gql_document_types.specs.declared.operation.Operation.{Operation}
use Rattle.gql_collect.specs.DepthPlace.{depth_place}
use Rattle.gql_collect.specs.Expanded.{expanded_depth}
use Rattle.gql_collect.specs.Nested.{Place}
use Rattle.gql_collect.specs.Refusal.{IsFoundDeep, too_deep}
use Rattle.gql_collect.specs.View.{fragments_nested, nested}
use Rattle.gql_collect.specs.RequestErrors.{request_error as fault_told}
use Rattle.gql_response.specs.declared.graphql_error.GraphQLError.{GraphQLError}
use Rattle.gql_parser.specs.SchemaFaults.{SchemaFaults}
use Rattle.gql_parser.specs.SchemaText.{SchemaText}
use Rattle.gql_schema_types.specs.declared.schema.Schema.{Schema}
use Rattle.gql_engine.specs.declared.answer_error.AnswerError.{AnswerError}
use Rattle.gql_engine.specs.declared.answer_error.AnswerError.TheVariants as error
use Rattle.gql_engine.specs.declared.answer_error.RequestKind.TheVariants as kind
use Rattle.gql_engine.specs.declared.answer_error.VariablesFault.TheVariants.{Read, NotObject}
use Rattle.gql_engine.specs.AnswerError.{Call, ComesFor, HasCause, IsNoObject, IsNoVariables, IsObjectText, IsValid, wanted_with}
use Rattle.gql_engine.specs.Depths.{IsShallow}
use Rattle.gql_engine.specs.Ready.{Ready}
use Rattle.gql_engine.specs.Meant.{AreFaults, Meant, no_schema, no_document}
use Rattle.gql_engine.specs.Responding.{HasCauseOf}
use Rattle.gql_engine.specs.Unanswered.{IsUnchosen, IsTooDeep, IsUncoerced, Unanswered, no_texts, no_operation, no_depth, no_variables}
use Rattle.gql_engine.specs.Wanted.{Members, Wanted}
use Rattle.gql_engine.proofs.Results.{same_some, some_or_none, same_ok, same_err, ok_or_err}
use Rattle.gql_engine.proofs.InTurn.{First, one_error, none_fails}

-- what a text means is one thing, and what is wrong with it is told in one way
pub record Laws : Type 0 where
  pub one_value : (bytes : List ℕ) (v w : Value) → JsonText bytes v → JsonText bytes w → v ≡ w
  pub no_value : (bytes : List ℕ) (v : Value) (f : ReadFault) → JsonText bytes v → JsonFault bytes f → ⊥
  pub one_fault : (bytes : List ℕ) (f g : ReadFault) → JsonFault bytes f → JsonFault bytes g → f ≡ g
  pub one_schema : (text : List ℕ) (S T : Schema) → SchemaText text S → SchemaText text T → S ≡ T
  pub no_schema : (text : List ℕ) (S : Schema) (list : Diagnostics) → SchemaText text S → SchemaFaults text list → ⊥
  pub one_list : (text : List ℕ) (list told : Diagnostics) → SchemaFaults text list → SchemaFaults text told → list ≡ told
  pub one_document : (S : Schema) (text : List ℕ) (Q R : ExecutableDocument) → DocumentText S text Q → DocumentText S text R → Q ≡ R
  pub no_document : (S : Schema) (text : List ℕ) (Q : ExecutableDocument) (list : Diagnostics) → DocumentText S text Q → DocumentFaults S text list → ⊥
  pub same_list : (S : Schema) (text : List ℕ) (list told : Diagnostics) → DocumentFaults S text list → DocumentFaults S text told → TellTheSame list told

-- both are this refusal
both : (c : AnswerError) → ComesFor c c → (e f : AnswerError) → e ≡ c → f ≡ c → ComesFor e f
both c self e f h k = subst (λ (x : AnswerError). ComesFor x f) (sym h) (subst (λ (x : AnswerError). ComesFor c x) (sym k) self)

-- ---- the steps of what is wanted

module _ (w : Wanted) where
  abbrev FailsVariables : Schema → ExecutableDocument → Operation → AnswerError → Type 0
  FailsVariables S Q o e =
      (fault : CoercionFault) × (coerced_variables S.types o.variables w.variables ≡ Err fault) × (e ≡ error.Request kind.Variable (request_error (fault_told fault) Q.sources))

  abbrev FailsDepth : ExecutableDocument → Operation → AnswerError → Type 0
  FailsDepth Q o e =
      (place : Place) × (w.introspection ≡ true) × IsFoundDeep Q.fragments o.selection_set.selections place × (e ≡ error.Request kind.Depth (request_error (too_deep place) Q.sources))

  abbrev OfDepth : Schema → ExecutableDocument → Operation → AnswerError → Type 0
  OfDepth S Q o = First (λ (u : Unit {0}). IsShallow w.introspection Q o) (FailsDepth Q o) (λ u. FailsVariables S Q o)

  abbrev IsOperation : ExecutableDocument → Operation → Type 0
  IsOperation Q o = chosen w.operation_name Q.operations ≡ Some o

  abbrev FailsOperation : ExecutableDocument → AnswerError → Type 0
  FailsOperation Q e =
      (chosen w.operation_name Q.operations ≡ None) × (e ≡ error.Request kind.Operation (request_error (refusal (why_none w.operation_name Q.operations)) Q.sources))

  abbrev OfOperation : Schema → ExecutableDocument → AnswerError → Type 0
  OfOperation S Q = First (IsOperation Q) (FailsOperation Q) (OfDepth S Q)

  abbrev FailsDocument : Schema → AnswerError → Type 0
  FailsDocument S e = (list : Diagnostics) × DocumentFaults S w.query list × (e ≡ error.Document list)

  abbrev OfDocument : Schema → AnswerError → Type 0
  OfDocument S = First (DocumentText S w.query) (FailsDocument S) (OfOperation S)

  abbrev FailsSchema : AnswerError → Type 0
  FailsSchema e = (list : Diagnostics) × SchemaFaults w.schema list × (e ≡ error.Schema list)

  abbrev pub OfSchema : AnswerError → Type 0
  OfSchema = First (SchemaText w.schema) FailsSchema OfDocument

  module _ (laws : Laws) where
    operations_apart : (Q : ExecutableDocument) (o : Operation) (e : AnswerError) → IsOperation Q o → FailsOperation Q e → ⊥
    operations_apart Q o e h k = some_or_none (chosen w.operation_name Q.operations) o h k.0

    one_operation : (Q : ExecutableDocument) (o p : Operation) → IsOperation Q o → IsOperation Q p → o ≡ p
    one_operation Q o p h k = same_some (chosen w.operation_name Q.operations) o p h k

    documents_apart : (S : Schema) (Q : ExecutableDocument) (e : AnswerError) → DocumentText S w.query Q → FailsDocument S e → ⊥
    documents_apart S Q e h k = laws.no_document S w.query Q k.0 h k.1

    schemas_apart : (S : Schema) (e : AnswerError) → SchemaText w.schema S → FailsSchema e → ⊥
    schemas_apart S e h k = laws.no_schema w.schema S k.0 h k.1

    same_variables : (S : Schema) (Q : ExecutableDocument) (o : Operation) (e f : AnswerError) → FailsVariables S Q o e → FailsVariables S Q o f → ComesFor e f
    same_variables S Q o e f h k =
        let told : CoercionFault → AnswerError = λ (x : CoercionFault). error.Request kind.Variable (request_error (fault_told x) Q.sources) in
        let same : k.0 ≡ h.0 = same_err (coerced_variables S.types o.variables w.variables) k.0 h.0 k.1 h.1 in
        both (told h.0) refl e f h.2 (k.2 ∙ ap told same)

    one_unit : (Q : ExecutableDocument) (o : Operation) (u v : Unit {0}) → IsShallow w.introspection Q o → IsShallow w.introspection Q o → u ≡ v
    one_unit Q o u v h k = refl

    depths_apart : (Q : ExecutableDocument) (o : Operation) (u : Unit {0}) (e : AnswerError) → IsShallow w.introspection Q o → FailsDepth Q o e → ⊥
    depths_apart Q o u e h k =
        let low : expanded_depth (fragments_nested Q.fragments) (nested Q.fragments o.selection_set.selections) < 3 = h k.1 in
        omega (arith, low, k.2.deep)

    same_places : (Q : ExecutableDocument) (o : Operation) (e f : AnswerError) → FailsDepth Q o e → FailsDepth Q o f → ComesFor e f
    same_places Q o e f h k =
        let told : Place → AnswerError = λ (x : Place). error.Request kind.Depth (request_error (too_deep x) Q.sources) in
        let same : k.0 ≡ h.0 = same_some (depth_place (fragments_nested Q.fragments) (nested Q.fragments o.selection_set.selections)) k.0 h.0 k.2.first h.2.first in
        both (told h.0) refl e f h.3 (k.3 ∙ ap told same)

    same_depths : (S : Schema) (Q : ExecutableDocument) (o : Operation) (e f : AnswerError) → OfDepth S Q o e → OfDepth S Q o f → ComesFor e f
    same_depths S Q o =
        one_error (λ (u : Unit {0}). IsShallow w.introspection Q o) (FailsDepth Q o) (λ u. FailsVariables S Q o) (one_unit Q o) (depths_apart Q o) ComesFor
        (same_places Q o) (λ u. same_variables S Q o)

    same_operations : (S : Schema) (Q : ExecutableDocument) (e f : AnswerError) → OfOperation S Q e → OfOperation S Q f → ComesFor e f
    same_operations S Q =
        one_error (IsOperation Q) (FailsOperation Q) (OfDepth S Q) (one_operation Q) (operations_apart Q) ComesFor
        (λ e f h k. both (error.Request kind.Operation (request_error (refusal (why_none w.operation_name Q.operations)) Q.sources)) refl e f h.1 k.1)
        (same_depths S Q)

    same_documents : (S : Schema) (e f : AnswerError) → OfDocument S e → OfDocument S f → ComesFor e f
    same_documents S =
        one_error (DocumentText S w.query) (FailsDocument S) (OfOperation S) (laws.one_document S w.query) (documents_apart S) ComesFor
        (λ e f h k. subst (λ (x : AnswerError). ComesFor x f) (sym h.2) (subst (λ (x : AnswerError). ComesFor (error.Document h.0) x) (sym k.2) (laws.same_list S w.query h.0 k.0 h.1 k.1)))
        (same_operations S)

    pub same_schemas : (e f : AnswerError) → OfSchema e → OfSchema f → ComesFor e f
    same_schemas =
        one_error (SchemaText w.schema) FailsSchema OfDocument (laws.one_schema w.schema) schemas_apart ComesFor
        (λ e f h k. both (error.Schema h.0) refl e f h.2 (k.2 ∙ ap (λ (l : Diagnostics). error.Schema l) (laws.one_list w.schema k.0 h.0 k.1 h.1)))
        same_documents

    -- where nothing is in the way of a response, no step fails
    pub none_of_ready : Ready w → (e : AnswerError) → OfSchema e → ⊥
    none_of_ready r =
        let S = r.meant.schema in
        let Q = r.meant.document in
        let o = r.operation in
        none_fails (SchemaText w.schema) FailsSchema OfDocument (laws.one_schema w.schema) schemas_apart S r.meant.are.is_schema
        (none_fails (DocumentText S w.query) (FailsDocument S) (OfOperation S) (laws.one_document S w.query) (documents_apart S) Q r.meant.are.is_document
        (none_fails (IsOperation Q) (FailsOperation Q) (OfDepth S Q) (one_operation Q) (operations_apart Q) o r.is_chosen
        (none_fails (λ (u : Unit {0}). IsShallow w.introspection Q o) (FailsDepth Q o) (λ u. FailsVariables S Q o) (one_unit Q o) (depths_apart Q o) tt r.is_shallow
        (λ e h. ok_or_err (coerced_variables S.types o.variables w.variables) r.variables h.0 r.are_coerced h.1))))

    pub of_texts : (list : Diagnostics) → AreFaults w.schema w.query list → (e : AnswerError) × OfSchema e
    of_texts list (no_schema l h) = (error.Schema l, inl (l, h, refl))
    of_texts list (no_document l h) = (error.Document l, inr (h.schema, h.is_schema, inl (l, h.faults, refl)))

    pub of_unchosen : (told : GraphQLError) → IsUnchosen w told → OfSchema (error.Request kind.Operation told)
    of_unchosen told h =
        inr (h.meant.schema, h.meant.are.is_schema, inr (h.meant.document, h.meant.are.is_document, inl (h.none, ap (λ (x : GraphQLError). error.Request kind.Operation x) h.told)))

    pub of_too_deep : (told : GraphQLError) → IsTooDeep w told → OfSchema (error.Request kind.Depth told)
    of_too_deep told h =
        inr (
          h.meant.schema,
          h.meant.are.is_schema,
          inr (
            h.meant.document,
            h.meant.are.is_document,
            inr (h.operation, h.is_chosen, inl (h.place, h.on, h.deep, ap (λ (x : GraphQLError). error.Request kind.Depth x) h.told)),
          ),
        )

    pub of_uncoerced : (told : GraphQLError) → IsUncoerced w told → OfSchema (error.Request kind.Variable told)
    of_uncoerced told h =
        inr (
          h.meant.schema,
          h.meant.are.is_schema,
          inr (
            h.meant.document,
            h.meant.are.is_document,
            inr (h.operation, h.is_chosen, inr (tt, h.is_shallow, (h.fault, h.fails, ap (λ (x : GraphQLError). error.Request kind.Variable x) h.told))),
          ),
        )

    -- the cause of a refusal as the failure of a step
    of_cause : (e : AnswerError) → e ≢ error.Memory → HasCauseOf w e → OfSchema e
    of_cause (error.Variables x) told h = absurd h
    of_cause (error.Schema list) told h = inl (list, h, refl)
    of_cause (error.Document list) told h = inr (h.schema, h.is_schema, inl (list, h.faults, refl))
    of_cause (error.Request kind.Operation x) told h = of_unchosen x h
    of_cause (error.Request kind.Depth x) told h = of_too_deep x h
    of_cause (error.Request kind.Variable x) told h = of_uncoerced x h
    of_cause error.Memory told h = absurd (told refl)

    -- two causes are one, and none is that of memory
    pub one_cause : (e f : AnswerError) → e ≢ error.Memory → HasCauseOf w e → HasCauseOf w f → ComesFor e f
    one_cause e (error.Variables x) told h k = absurd k
    one_cause e (error.Schema x) told h k = same_schemas e (error.Schema x) (of_cause e told h) (of_cause (error.Schema x) (λ m. cc m) k)
    one_cause e (error.Document x) told h k = same_schemas e (error.Document x) (of_cause e told h) (of_cause (error.Document x) (λ m. cc m) k)
    one_cause e (error.Request x y) told h k = same_schemas e (error.Request x y) (of_cause e told h) (of_cause (error.Request x y) (λ m. cc m) k)
    one_cause e error.Memory told h k = tt

    -- where nothing is in the way of a response, none holds but that of memory
    pub memory_of_ready : Ready w → (e : AnswerError) → HasCauseOf w e → e ≡ error.Memory
    memory_of_ready r (error.Variables x) h = absurd h
    memory_of_ready r (error.Schema x) h = absurd (none_of_ready r (error.Schema x) (of_cause (error.Schema x) (λ m. cc m) h))
    memory_of_ready r (error.Document x) h = absurd (none_of_ready r (error.Document x) (of_cause (error.Document x) (λ m. cc m) h))
    memory_of_ready r (error.Request x y) h = absurd (none_of_ready r (error.Request x y) (of_cause (error.Request x y) (λ m. cc m) h))
    memory_of_ready r error.Memory h = refl

    -- and it is so in one way
    pub one_ready_schema : (r s : Ready w) → r.meant.schema ≡ s.meant.schema
    one_ready_schema r s = laws.one_schema w.schema r.meant.schema s.meant.schema r.meant.are.is_schema s.meant.are.is_schema

    pub one_ready_document : (r s : Ready w) → r.meant.document ≡ s.meant.document
    one_ready_document r s =
        laws.one_document s.meant.schema w.query r.meant.document s.meant.document
        (subst (λ (S : Schema). DocumentText S w.query r.meant.document) (one_ready_schema r s) r.meant.are.is_document) s.meant.are.is_document

    pub one_ready_operation : (r s : Ready w) → r.operation ≡ s.operation
    one_ready_operation r s =
        same_some (chosen w.operation_name s.meant.document.operations) r.operation s.operation
        (subst (λ (Q : ExecutableDocument). chosen w.operation_name Q.operations ≡ Some r.operation) (one_ready_document r s) r.is_chosen) s.is_chosen

    pub one_ready_values : (r s : Ready w) → r.variables ≡ s.variables
    one_ready_values r s =
        same_ok (coerced_variables s.meant.schema.types s.operation.variables w.variables) r.variables s.variables
        (subst (λ (S : Schema). coerced_variables S.types s.operation.variables w.variables ≡ Ok r.variables) (one_ready_schema r s)
        (subst (λ (o : Operation). coerced_variables r.meant.schema.types o.variables w.variables ≡ Ok r.variables) (one_ready_operation r s) r.are_coerced)) s.are_coerced

    pub none_unanswered : {errors : List GraphQLError} → Ready w → Unanswered w errors → ⊥
    none_unanswered r (no_texts list h) = none_of_ready r (of_texts list h).0 (of_texts list h).1
    none_unanswered r (no_operation told h) = none_of_ready r (error.Request kind.Operation told) (of_unchosen told h)
    none_unanswered r (no_depth told h) = none_of_ready r (error.Request kind.Depth told) (of_too_deep told h)
    none_unanswered r (no_variables told h) = none_of_ready r (error.Request kind.Variable told) (of_uncoerced told h)

-- both texts mean something, or something is wrong with one
pub meant_or_faulty : Laws → (schema query : List ℕ) (list : Diagnostics) → Meant schema query → AreFaults schema query list → ⊥
meant_or_faulty laws schema query list m (no_schema l h) = laws.no_schema schema m.schema l m.are.is_schema h
meant_or_faulty laws schema query list m (no_document l h) =
    laws.no_document h.schema query m.document l
    (subst (λ (S : Schema). DocumentText S query m.document) (laws.one_schema schema m.schema h.schema m.are.is_schema h.is_schema) m.are.is_document) h.faults

-- ---- the steps of a call

-- a cause of what is wanted is one of the call that wants it
pub has_cause : (call : Call) (members : Members) → IsObjectText call.variables members → (e : AnswerError) → HasCauseOf (wanted_with call members) e → HasCause call e
has_cause call members object (error.Variables fault) h = absurd h
has_cause call members object (error.Schema list) h = record { members = members; object = object; holds = h }
has_cause call members object (error.Document list) h = record { members = members; object = object; holds = h }
has_cause call members object (error.Request kind.Operation e) h = record { members = members; object = object; holds = h }
has_cause call members object (error.Request kind.Depth e) h = record { members = members; object = object; holds = h }
has_cause call members object (error.Request kind.Variable e) h = record { members = members; object = object; holds = h }
has_cause call members object error.Memory h = tt

-- and so is that of variables that are not read
pub unread_cause : (call : Call) (e : AnswerError) → IsNoVariables call.variables e → HasCause call e
unread_cause call (error.Variables (Read fault)) h = h
unread_cause call (error.Variables NotObject) h = h
unread_cause call (error.Schema list) h = absurd h
unread_cause call (error.Document list) h = absurd h
unread_cause call (error.Request step e) h = absurd h
unread_cause call error.Memory h = tt

-- a JSON text of an object has one list of members
pub same_members : Laws → (text : List ℕ) (xs ys : Members) → IsObjectText text xs → IsObjectText text ys → xs ≡ ys
same_members laws text xs ys h k =
    let e : object_members h.value ≡ object_members k.value = ap object_members (laws.one_value text h.value k.value h.read k.read) in
    let a : object_members h.value ≡ Some xs = h.object in
    let b : object_members k.value ≡ Some ys = k.object in
    cc (e, a, b)

no_object : Laws → (text : List ℕ) (xs : Members) → IsNoObject text → IsObjectText text xs → ⊥
no_object laws text xs h k =
    let e : object_members h.value ≡ object_members k.value = ap object_members (laws.one_value text h.value k.value h.read k.read) in
    let none : object_members h.value ≡ None = h.other in
    let some : object_members k.value ≡ Some xs = k.object in
    cc (e, none, some)

module _ (laws : Laws) (call : Call) where
  abbrev Plain : Members → Type 0
  Plain members = IsObjectText call.variables members

  abbrev IsUnread : AnswerError → Type 0
  IsUnread e = (fault : ReadFault) × JsonFault call.variables fault × (e ≡ error.Variables (Read fault))

  abbrev IsOther : AnswerError → Type 0
  IsOther e = IsNoObject call.variables × (e ≡ error.Variables NotObject)

  abbrev FailsCall : AnswerError → Type 0
  FailsCall e = IsUnread e ⊎ IsOther e

  abbrev OfCall : AnswerError → Type 0
  OfCall = First Plain FailsCall (λ members. OfSchema (wanted_with call members))

  one_object : (xs ys : Members) → Plain xs → Plain ys → xs ≡ ys
  one_object xs ys h k = same_members laws call.variables xs ys h k

  calls_apart : (xs : Members) (e : AnswerError) → Plain xs → FailsCall e → ⊥
  calls_apart xs e h (inl k) = laws.no_value call.variables h.value k.0 h.read k.1
  calls_apart xs e h (inr k) = no_object laws call.variables xs k.0 h

  same_calls : (e f : AnswerError) → FailsCall e → FailsCall f → ComesFor e f
  same_calls e f (inl h) (inl k) =
      both (error.Variables (Read h.0)) refl e f h.2 (k.2 ∙ ap (λ (x : ReadFault). error.Variables (Read x)) (laws.one_fault call.variables k.0 h.0 k.1 h.1))
  same_calls e f (inl h) (inr k) = absurd (laws.no_value call.variables k.0.value h.0 k.0.read h.1)
  same_calls e f (inr h) (inl k) = absurd (laws.no_value call.variables h.0.value k.0 h.0.read k.1)
  same_calls e f (inr h) (inr k) = both (error.Variables NotObject) refl e f h.1 k.1

  same_steps : (e f : AnswerError) → OfCall e → OfCall f → ComesFor e f
  same_steps =
      one_error Plain FailsCall (λ members. OfSchema (wanted_with call members)) one_object calls_apart ComesFor same_calls
      (λ members. same_schemas (wanted_with call members) laws)

  steps : (e : AnswerError) → e ≢ error.Memory → HasCause call e → OfCall e
  steps (error.Variables (Read fault)) told h = inl (inl (fault, h, refl))
  steps (error.Variables NotObject) told h = inl (inr (h, refl))
  steps (error.Schema list) told h = inr (h.members, h.object, inl (list, h.holds, refl))
  steps (error.Document list) told h = inr (h.members, h.object, inr (h.holds.schema, h.holds.is_schema, inl (list, h.holds.faults, refl)))
  steps (error.Request kind.Operation x) told h = inr (h.members, h.object, of_unchosen (wanted_with call h.members) laws x h.holds)
  steps (error.Request kind.Depth x) told h = inr (h.members, h.object, of_too_deep (wanted_with call h.members) laws x h.holds)
  steps (error.Request kind.Variable x) told h = inr (h.members, h.object, of_uncoerced (wanted_with call h.members) laws x h.holds)
  steps error.Memory told h = absurd (told refl)

  -- two causes are one, and none is that of memory
  pub comes : (e f : AnswerError) → e ≢ error.Memory → HasCause call e → HasCause call f → ComesFor e f
  comes e (error.Variables x) told h k = same_steps e (error.Variables x) (steps e told h) (steps (error.Variables x) (λ m. cc m) k)
  comes e (error.Schema x) told h k = same_steps e (error.Schema x) (steps e told h) (steps (error.Schema x) (λ m. cc m) k)
  comes e (error.Document x) told h k = same_steps e (error.Document x) (steps e told h) (steps (error.Document x) (λ m. cc m) k)
  comes e (error.Request x y) told h k = same_steps e (error.Request x y) (steps e told h) (steps (error.Request x y) (λ m. cc m) k)
  comes e error.Memory told h k = tt

  -- what is valid has no cause of a refusal
  no_cause : IsValid call → (e : AnswerError) → OfCall e → ⊥
  no_cause v =
      none_fails Plain FailsCall (λ members. OfSchema (wanted_with call members)) one_object calls_apart v.members v.object
      (none_of_ready (wanted_with call v.members) laws v.holds)

  pub only_memory : IsValid call → (e : AnswerError) → HasCause call e → e ≡ error.Memory
  only_memory v (error.Variables x) h = absurd (no_cause v (error.Variables x) (steps (error.Variables x) (λ m. cc m) h))
  only_memory v (error.Schema x) h = absurd (no_cause v (error.Schema x) (steps (error.Schema x) (λ m. cc m) h))
  only_memory v (error.Document x) h = absurd (no_cause v (error.Document x) (steps (error.Document x) (λ m. cc m) h))
  only_memory v (error.Request x y) h = absurd (no_cause v (error.Request x y) (steps (error.Request x y) (λ m. cc m) h))
  only_memory v error.Memory h = refl
