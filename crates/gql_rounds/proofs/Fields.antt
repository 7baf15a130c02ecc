-- What a field brings and asks for, by what comes of it.
use Rattle.std.proofs.Common.{◌≡◌, Bool, false, if◌then◌else◌, List, [], ◌++◌, sym, ap, ◌∙◌}
use Rattle.std.proofs.lemmas.List.{append-nil}
use Rattle.gql_ast_base.specs.declared.type_ref.TypeRef.{TypeRef}
use Rattle.gql_ast.specs.declared.field_definition.FieldDefinition.{FieldDefinition}
use Rattle.gql_exec.specs.bridge.Asking.{outcome_of}
use Rattle.gql_exec.specs.Asks.{asks, definition_on}
use Rattle.gql_exec.specs.bridge.Executing.{request_of as executed}
use Rattle.gql_exec.specs.Group.{Group}
use Rattle.gql_exec.specs.Request.{Request}
use Rattle.gql_exec.specs.RequestWorld.{plain_world}
use Rattle.gql_exec.specs.declared.asking.Asked.{Asked}
use Rattle.gql_document_types.specs.declared.selection.Field.{Field}
use Rattle.gql_exec.specs.declared.executing.Executing.{Executing}
use Rattle.gql_resolvers.specs.Resolved.{Meaning, Outcome, answered}
use Rattle.gql_schema_types.specs.declared.types.ObjectType.{ObjectType}
use Rattle.gql_rounds.specs.Known.{Known, beside, entity_of, type_of_entity}
use Rattle.gql_rounds.specs.Levels.{below_group, brought, given}
use Rattle.gql_rounds.specs.Table.{Table}
use Rattle.gql_rounds.specs.ToldMeaning.{told}
use Rattle.gql_rounds.specs.Walked.{request_in}
use Rattle.gql_rounds.specs.Wanted.{KnownStand, ask_for, is_left_out, is_skip, wanted_by_group}
use Rattle.gql_rounds.specs.bridge.Wanted.{KnownWorld, all_noted}
use Rattle.gql_rounds.specs.declared.told.Told.{Told}
use Rattle.gql_rounds.proofs.Meanings.{asks-known, known_outcome}
use Rattle.gql_rounds.proofs.Noted.{Entries}

-- what is asked of an object beside what was told, as the caller knows it
pub known-asked : (e : Executing) → e.introspection ≡ false → (t : Table) (U : ObjectType) (x : Known) (f : Field) (asked : Asked Told)
    → outcome_of entity_of asked ≡ asks (executed e type_of_entity told) U (beside t x) f → known_outcome (outcome_of entity_of asked) ≡ asks (request_in e t) U x f
known-asked e hidden t U x f asked comes =
    ap known_outcome comes ∙ asks-known e.request.schema.now e.request.document.now e.variables.now t e.introspection hidden U x f

module _ (r : Request Known) (U : ObjectType) (x : Known) (g : Group) where
  abbrev w : KnownWorld
  w = plain_world r

  -- it gives this
  pub gave-below : (definition : FieldDefinition) (m : Meaning Known) → definition ≡ definition_on r.schema U g.first → answered m ≡ asks r U x g.first
      → (now old : List KnownStand) → now ≡ old ++ given w g.pieces definition.ty m → now ≡ old ++ below_group w U x g
  gave-below definition m defined comes now old is =
      is
      ∙ ap (λ (d : FieldDefinition). old ++ given w g.pieces d.ty m) defined
      ∙ ap (λ (o : Outcome Known). old ++ brought w g.pieces (definition_on r.schema U g.first).ty o) comes

  pub gave-wanted : (m : Meaning Known) → answered m ≡ asks r U x g.first → (now old : Entries)
      → now ≡ all_noted old (if is_skip m then ask_for r U x g.first else []) → now ≡ all_noted old (wanted_by_group r U x g)
  gave-wanted m comes now old is = is ∙ ap (λ (o : Outcome Known). all_noted old (if is_left_out o then ask_for r U x g.first else [])) comes

  -- it brings nothing and is not left out
  pub nothing-below : (o : Outcome Known) → o ≡ asks r U x g.first → ((ty : TypeRef) → brought w g.pieces ty o ≡ []) → (old : List KnownStand)
      → old ≡ old ++ below_group w U x g
  nothing-below o comes none old =
      sym (append-nil old)
      ∙ ap (λ l. old ++ l) (sym (none (definition_on r.schema U g.first).ty))
      ∙ ap (λ (p : Outcome Known). old ++ brought w g.pieces (definition_on r.schema U g.first).ty p) comes

  pub nothing-wanted : (o : Outcome Known) → o ≡ asks r U x g.first → is_left_out o ≡ false → (old : Entries) → old ≡ all_noted old (wanted_by_group r U x g)
  nothing-wanted o comes stays old =
      ap (λ (b : Bool). all_noted old (if b then ask_for r U x g.first else [])) (sym stays)
      ∙ ap (λ (p : Outcome Known). all_noted old (if is_left_out p then ask_for r U x g.first else [])) comes

-- nothing is added
pub none-added : (old more : List KnownStand) → more ≡ [] → old ≡ old ++ more
none-added old more none = sym (append-nil old) ∙ ap (λ l. old ++ l) (sym none)
