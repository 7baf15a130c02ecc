-- Objects of introspection are executed alike, whatever the user's objects are.
use Rattle.std.proofs.Common.{◌≡◌, ℕ, zero, suc, ◌+◌, Bool, true, false, if◌then◌else◌, List, [], ◌∷◌, Option, Some, None, Result, Ok, Err, refl, sym, ap, ◌∙◌, codes}
use Rattle.std.specs.Str.{bytes_eq}
use Rattle.jb_tree.specs.declared.value.Value.{Value}
use Rattle.jb_tree.specs.declared.value.Value.TheVariants as json
use Rattle.gql_ast_base.specs.declared.type_ref.TypeRef.{TypeRef}
use Rattle.gql_coerce.specs.declared.told.ArgumentFault.{ArgumentFault}
use Rattle.gql_document_types.specs.declared.fragment.Fragment.{Fragment}
use Rattle.gql_document_types.specs.declared.selection.Field.{Field}
use Rattle.gql_document_types.specs.declared.selection.Selection.{Selection}
use Rattle.gql_schema_types.specs.declared.schema.Schema.{Schema}
use Rattle.gql_schema_types.specs.declared.types.ObjectType.{ObjectType}
use Rattle.gql_source.specs.File.{Files}
use Rattle.gql_resolvers.specs.Execute.{Made, Member, then_rest, settled, unless_misfit, one_array, one_object, with_key, Below, object_made, value_made, items_made, field_made, groups_made, execute}
use Rattle.gql_resolvers.specs.Resolved.{Meaning, Meanings, gives_leaf, gives_object, gives_list, gives_skip, fails_with, no_answer, answer_then, Misfit, Outcome, answered, refused}
use Rattle.gql_resolvers.specs.Spot.{Spot, trail, item_spot, field_spot}
use Rattle.gql_resolvers.specs.Trail.{Trail}
use Rattle.gql_resolvers.specs.World.{World, key_of}
use Rattle.gql_introspection.specs.Meta.{Meta}
use Rattle.gql_introspection.specs.MetaMeaning.{meta_meaning}
use Rattle.gql_exec.specs.Asks.{definition_on, arguments_at, answer, fault_of, asked, asks, is_introspection}
use Rattle.gql_exec.specs.Group.{Group}
use Rattle.gql_exec.specs.Request.{Members, Request}
use Rattle.gql_exec.specs.RequestWorld.{plain_world}
use Rattle.gql_exec.specs.Mapped.{mapped, all_mapped}
use Rattle.gql_exec.specs.IntrospectedRequest.{introspected_request}
use Rattle.gql_exec.specs.Thing.{Thing, of_library}
use Rattle.gql_exec.specs.ThingMeaning.{Resolving, root_meaning}

-- what introspection answers, as an answer of an execution
abbrev pub told_of : {X : Type 0} → Schema → Meaning Meta → Meaning (Thing X)
told_of own m = mapped (of_library own) m

abbrev pub outcome_of : {X : Type 0} → Schema → Outcome Meta → Outcome (Thing X)
outcome_of own (answered m) = answered (told_of own m)
outcome_of own (refused fault) = refused fault

-- `__typename`, else this
abbrev pub named_or : ObjectType → List ℕ → Meaning Meta → Meaning Meta
named_or U f m = if bytes_eq f (codes "__typename") then gives_leaf (json.String U.name.text) else m

abbrev pub after_arguments : (Members → Meaning Meta) → Result Members ArgumentFault → Outcome Meta
after_arguments answers (Ok arguments) = answered (answers arguments)
after_arguments answers (Err fault) = refused (fault_of fault)

-- what an object of introspection answers
abbrev pub library_answer : ObjectType → Schema → Meta → List ℕ → Members → Meaning Meta
library_answer U own m f arguments = named_or U f (if is_introspection own U f then root_meaning own f arguments else meta_meaning m f arguments)

module _ {X : Type 0} (schema : Schema) (sources : Files) (fragments : List Fragment) (variables : Members) (types : X → List ℕ) (resolves : Resolving X) where
  abbrev pub introspected : Request (Thing X)
  introspected = introspected_request schema sources fragments variables types resolves

  library-answer : (U : ObjectType) (own : Schema) (m : Meta) (f : List ℕ) (arguments : Members)
      → answer introspected U (of_library own m) f arguments ≡ told_of own (library_answer U own m f arguments)
  library-answer U own m f arguments = by (bytes_eq f (codes "__typename")) (is_introspection own U f)
    where
      by : (named root : Bool)
          → (if named then gives_leaf (json.String U.name.text) else (if root then told_of {X = X} own (root_meaning own f arguments) else told_of {X = X} own (meta_meaning m f arguments)))
          ≡ told_of {X = X} own (if named then gives_leaf (json.String U.name.text) else (if root then root_meaning own f arguments else meta_meaning m f arguments))
      by true root = refl
      by false true = refl
      by false false = refl

  pub library-asks : (U : ObjectType) (own : Schema) (m : Meta) (f : Field)
      → asks introspected U (of_library own m) f
      ≡ outcome_of own (after_arguments (library_answer U own m f.name.text) (arguments_at introspected (definition_on schema U f) f))
  library-asks U own m f = by (arguments_at introspected (definition_on schema U f) f)
    where
      by : (found : Result Members ArgumentFault)
          → asked introspected U (of_library own m) f.name.text found ≡ outcome_of own (after_arguments (library_answer U own m f.name.text) found)
      by (Ok arguments) = ap answered (library-answer U own m f.name.text arguments)
      by (Err fault) = refl

module _ {X Y : Type 0} (schema : Schema) (sources : Files) (fragments : List Fragment) (variables : Members)
    (types : X → List ℕ) (resolves : Resolving X) (others : Y → List ℕ) (answers : Resolving Y) where
  abbrev pub one : World (Thing X) ObjectType Group (List (List Selection))
  one = plain_world (introspected schema sources fragments variables types resolves)

  abbrev pub two : World (Thing Y) ObjectType Group (List (List Selection))
  two = plain_world (introspected schema sources fragments variables others answers)

  -- runs that agree on objects of introspection
  abbrev pub Agree : Below one → Below two → Type 0
  Agree run other = (U : ObjectType) (own : Schema) (m : Meta) (outer : Trail) (sets : List (List Selection)) → run U (of_library own m) outer sets ≡ other U (of_library own m) outer sets

  misfit-same : (ty : TypeRef) (own : Schema) (m : Meaning Meta) → one.misfit ty (told_of own m) ≡ two.misfit ty (told_of own m)
  misfit-same ty own (gives_leaf v) = refl
  misfit-same ty own (gives_object m) = refl
  misfit-same ty own (gives_list ms) = refl
  misfit-same ty own gives_skip = refl
  misfit-same ty own (fails_with text) = refl

  unless-same : (spot : Spot Group) (o : Option Misfit) (made : Made Value) → unless_misfit one spot o made ≡ unless_misfit two spot o made
  unless-same spot None made = refl
  unless-same spot (Some misfit) made = refl

  module _ (run : Below one) (other : Below two) (agree : Agree run other) where
    object-same : (spot : Spot Group) (own : Schema) (m : Meta) (found : Option ObjectType)
        → object_made one run spot (of_library own m) found ≡ object_made two other spot (of_library own m) found
    object-same spot own m None = refl
    object-same spot own m (Some U) = ap (one_object) (agree U own m (trail spot) (one.below spot.group))

    -- at a place, whatever is made of it there
    fit-same : (spot : Spot Group) (own : Schema) (m : Meaning Meta) → value_made one run spot (told_of own m) ≡ value_made two other spot (told_of own m)
        → unless_misfit one spot (one.misfit spot.type (told_of own m)) (value_made one run spot (told_of own m))
        ≡ unless_misfit two spot (two.misfit spot.type (told_of own m)) (value_made two other spot (told_of own m))
    fit-same spot own m same =
        ap (λ (v : Made Value). unless_misfit one spot (one.misfit spot.type (told_of own m)) v) same
        ∙ ap (λ (o : Option Misfit). unless_misfit one spot o (value_made two other spot (told_of own m))) (misfit-same spot.type own m)
        ∙ unless-same spot (two.misfit spot.type (told_of own m)) (value_made two other spot (told_of own m))

    mutual
      value-same : (spot : Spot Group) (own : Schema) (m : Meaning Meta) → value_made one run spot (told_of own m) ≡ value_made two other spot (told_of own m)
      value-same spot own (gives_leaf v) = refl
      value-same spot own (gives_object m) = object-same spot own m (one.type_of (of_library own m))
      value-same spot own (gives_list ms) = ap (one_array) (items-same spot 0 own ms)
      value-same spot own gives_skip = refl
      value-same spot own (fails_with text) = refl

      items-same : (list : Spot Group) (i : ℕ) (own : Schema) (ms : Meanings Meta)
          → items_made one run list i (all_mapped (of_library own) ms) ≡ items_made two other list i (all_mapped (of_library own) ms)
      items-same list i own no_answer = refl
      items-same list i own (answer_then m ms) =
          let spot = item_spot list i in
          let first = ap (λ (v : Made Value). settled spot v) (fit-same spot own m (value-same spot own m)) in
          ap (λ (v : Made Value). then_rest v (items_made one run list (i + 1) (all_mapped (of_library own) ms))) first
          ∙ ap (λ (r : Made Value). then_rest (settled spot (unless_misfit two spot (two.misfit spot.type (told_of own m)) (value_made two other spot (told_of own m)))) r)
          (items-same list (i + 1) own ms)

    pub field-same : (spot : Spot Group) (own : Schema) (o : Outcome Meta) → field_made one run spot (outcome_of own o) ≡ field_made two other spot (outcome_of own o)
    field-same spot own (answered m) = ap (λ (v : Made Value). settled spot v) (fit-same spot own m (value-same spot own m))
    field-same spot own (refused fault) = refl

    field-on : (spot : Spot Group) (U : ObjectType) (own : Schema) (m : Meta) (g : Group)
        → field_made one run spot (one.asks U (of_library own m) g) ≡ field_made two other spot (two.asks U (of_library own m) g)
    field-on spot U own m g =
        let o = after_arguments (library_answer U own m g.first.name.text) (arguments_at (introspected schema sources fragments variables types resolves) (definition_on schema U g.first) g.first) in
        ap (λ (x : Outcome (Thing X)). field_made one run spot x) (library-asks schema sources fragments variables types resolves U own m g.first)
        ∙ field-same spot own o
        ∙ ap (λ (x : Outcome (Thing Y)). field_made two other spot x) (sym (library-asks schema sources fragments variables others answers U own m g.first))

    groups-same : (U : ObjectType) (own : Schema) (m : Meta) (outer : Trail) (gs : List Group)
        → groups_made one run U (of_library own m) outer gs ≡ groups_made two other U (of_library own m) outer gs
    groups-same U own m outer [] = refl
    groups-same U own m outer (g ∷ gs) =
        ap (λ (v : Made Value). then_rest (with_key (key_of one g) v) (groups_made one run U (of_library own m) outer gs)) (field-on (field_spot one U outer g) U own m g)
        ∙ ap (λ (r : Made Member). then_rest (with_key (key_of one g) (field_made two other (field_spot two U outer g) (two.asks U (of_library own m) g))) r) (groups-same U own m outer gs)

  pub alike : (depth : ℕ) → Agree (execute one depth) (execute two depth)
  alike zero U own m outer sets = refl
  alike (suc d) U own m outer sets = groups-same (execute one d) (execute two d) (alike d) U own m outer (one.groups U sets)
