-- The same of executions over what was told: without introspection, and with it.
use Rattle.std.proofs.Common.{◌≡◌, ◌⊎◌, ℕ, Bool, true, false, if◌then◌else◌, List, [], ◌∷◌, refl, sym, ap, ap₂, ◌∙◌, subst, codes, inl, inr}
use Rattle.std.specs.List.{AllByRecursion}
use Rattle.std.specs.Str.{bytes_eq}
use Rattle.gql_document_types.specs.declared.document.ExecutableDocument.{ExecutableDocument}
use Rattle.gql_document_types.specs.declared.selection.Selection.{Selection}
use Rattle.gql_exec.specs.Mapped.{mapped, all_mapped}
use Rattle.gql_exec.specs.Thing.{Thing, of_library, of_user, type_of_thing}
use Rattle.gql_exec.specs.ThingMeaning.{own_meaning, root_meaning, thing_meaning}
use Rattle.gql_exec.specs.Asks.{is_introspection}
use Rattle.gql_exec.specs.Executing.{answers_by, is_hidden, request_by}
use Rattle.gql_exec.specs.Request.{Members, Request}
use Rattle.gql_exec.specs.RequestWorld.{plain_world}
use Rattle.gql_introspection.proofs.MetaSkips.{meta-whole, type-field-whole}
use Rattle.gql_introspection.specs.MetaMeaning.{meta_meaning}
use Rattle.gql_introspection.specs.RootFields.{schema_field_meaning, type_field_meaning}
use Rattle.gql_resolvers.specs.Resolved.{Meaning, Meanings, gives_leaf, gives_object, gives_list, gives_skip, fails_with, no_answer, answer_then}
use Rattle.gql_resolvers.specs.Skips.{ReachesNoSkip, SkipsNothing}
use Rattle.gql_schema_types.specs.declared.schema.Schema.{Schema}
use Rattle.gql_schema_types.specs.declared.types.ObjectType.{ObjectType}
use Rattle.gql_rounds.specs.Asked.{AreAsked}
use Rattle.gql_rounds.specs.Known.{Entity, Known, beside, type_of_entity}
use Rattle.gql_rounds.specs.Levels.{level}
use Rattle.gql_rounds.specs.Table.{Table, has_key}
use Rattle.gql_rounds.specs.ToldMeaning.{told, told_by}
use Rattle.gql_rounds.specs.Wanted.{key_of, request_by_table, root_stand, wanted}
use Rattle.gql_rounds.specs.declared.ask.Ask.{Ask}
use Rattle.gql_rounds.proofs.AskedNothing.{AllOf, mapped-of, none-skipped}

-- ---- answers

module _ {X Y Z : Type 0} (f : Y → Z) (g : X → Y) where
  mutual
    twice-mapped : (m : Meaning X) → mapped f (mapped g m) ≡ mapped (λ x. f (g x)) m
    twice-mapped (gives_leaf v) = refl
    twice-mapped (gives_object x) = refl
    twice-mapped (gives_list ms) = ap gives_list (all-twice-mapped ms)
    twice-mapped gives_skip = refl
    twice-mapped (fails_with text) = refl

    all-twice-mapped : (ms : Meanings X) → all_mapped f (all_mapped g ms) ≡ all_mapped (λ x. f (g x)) ms
    all-twice-mapped no_answer = refl
    all-twice-mapped (answer_then m ms) = ap₂ answer_then (twice-mapped m) (all-twice-mapped ms)

if-mapped : {X Y : Type 0} (stands : X → Y) (b : Bool) (text : List ℕ) (m : Meaning X)
    → (if b then fails_with text else mapped stands m) ≡ mapped stands (if b then fails_with text else m)
if-mapped stands true text m = refl
if-mapped stands false text m = refl

none-asked : (asks : List Ask) → AllByRecursion (λ (ask : Ask). has_key {V = Ask} (key_of ask) [] ≡ true) asks → asks ≡ []
none-asked [] all = refl
none-asked (ask ∷ asks) all = absurd (let e : false ≡ true = all.0 in cc)

module _ (schema : Schema) (document : ExecutableDocument) (variables : Members) (table : Table) (root : ObjectType) (selections : List Selection)
    (are : AreAsked (request_by_table schema document variables table) root selections []) where
  abbrev r : Request Known
  r = request_by_table schema document variables table

  quiet : (n : ℕ) → wanted r (level (plain_world r) (root_stand root selections) n) ≡ []
  quiet n = none-asked (wanted r (level (plain_world r) (root_stand root selections) n)) (are.whole n)

  -- ---- without introspection

  abbrev NoLibrary : Entity → Type 0
  NoLibrary entity = ⊥

  pub plain-whole : ReachesNoSkip (plain_world (request_by false schema document variables type_of_entity told)) root
      (beside table (record { number = 0; type_name = [] })) (selections ∷ [])
  plain-whole =
      none-skipped false schema document variables table type_of_entity told (beside table) NoLibrary (λ x. refl)
      (λ U x f arguments.
      inl (if-mapped (beside table) (is_hidden false schema U f) (codes "schema introspection is disabled") (told_by table schema U x f arguments)))
      (λ U y f arguments its. absurd its) root selections quiet

  -- ---- with introspection

  abbrev IsLibrary : Thing Entity → Type 0
  IsLibrary (of_user own x) = ⊥
  IsLibrary (of_library own object) = Unit {0}

  abbrev stands : Known → Thing Entity
  stands x = of_user schema (beside table x)

  root-whole : (own : Schema) (b : Bool) (arguments : Members) → SkipsNothing (if b then schema_field_meaning own else type_field_meaning own arguments)
  root-whole own true arguments = tt
  root-whole own false arguments = type-field-whole own arguments

  root-library : (own : Schema) (f : List ℕ) (arguments : Members) → AllOf IsLibrary (mapped (of_library own) (root_meaning own f arguments))
  root-library own f arguments =
      mapped-of IsLibrary (of_library own) (λ object. tt) (root_meaning own f arguments) (root-whole own (bytes_eq f (codes "__schema")) arguments)

  either-library : (b : Bool) (one other : Meaning (Thing Entity)) → AllOf IsLibrary one → AllOf IsLibrary other → AllOf IsLibrary (if b then one else other)
  either-library true one other first second = first
  either-library false one other first second = second

  library-answers : (U : ObjectType) (y : Thing Entity) (f : List ℕ) (arguments : Members) → IsLibrary y
      → AllOf IsLibrary (answers_by true (thing_meaning told) schema U y f arguments)
  library-answers U (of_user own x) f arguments its = absurd its
  library-answers U (of_library own object) f arguments its =
      either-library (is_introspection own U f) (mapped (of_library own) (root_meaning own f arguments)) (mapped (of_library own) (meta_meaning object f arguments))
      (root-library own f arguments)
      (mapped-of IsLibrary (of_library own) (λ it. tt) (meta_meaning object f arguments) (meta-whole object f arguments))

  own-answers : (U : ObjectType) (x : Known) (f : List ℕ) (arguments : Members)
      → (answers_by true (thing_meaning told) schema U (stands x) f arguments ≡ mapped stands (answers_by false (told_by table) schema U x f arguments))
      ⊎ AllOf IsLibrary (answers_by true (thing_meaning told) schema U (stands x) f arguments)
  own-answers U x f arguments = by_field (is_introspection schema U f)
    where
      by_field : (b : Bool)
          → ((if b then mapped (of_library schema) (root_meaning schema f arguments) else mapped (of_user schema) (mapped (beside table) (told_by table schema U x f arguments)))
          ≡ mapped stands (if b then fails_with (codes "schema introspection is disabled") else told_by table schema U x f arguments))
          ⊎ AllOf IsLibrary (if b then mapped (of_library schema) (root_meaning schema f arguments) else mapped (of_user schema) (mapped (beside table) (told_by table schema U x f arguments)))
      by_field true = inr (root-library schema f arguments)
      by_field false = inl (twice-mapped (of_user schema) (beside table) (told_by table schema U x f arguments))

  pub introspected-whole : ReachesNoSkip (plain_world (request_by true schema document variables (type_of_thing type_of_entity) (thing_meaning told))) root
      (of_user schema (beside table (record { number = 0; type_name = [] }))) (selections ∷ [])
  introspected-whole =
      none-skipped true schema document variables table (type_of_thing type_of_entity) (thing_meaning told) stands IsLibrary (λ x. refl)
      own-answers library-answers root selections quiet
