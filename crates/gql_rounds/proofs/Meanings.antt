-- What objects mean beside what was told, and as the caller knows them.
use Rattle.std.proofs.Common.{◌≡◌, ℕ, Bool, true, false, if◌then◌else◌, List, Result, Ok, Err, refl, sym, ap, ◌∙◌, subst, codes}
use Rattle.std.specs.Str.{bytes_eq}
use Rattle.jb_tree.specs.declared.value.Value.TheVariants as json
use Rattle.gql_coerce.specs.declared.told.ArgumentFault.{ArgumentFault}
use Rattle.gql_document_types.specs.declared.document.ExecutableDocument.{ExecutableDocument}
use Rattle.gql_document_types.specs.declared.selection.Field.{Field}
use Rattle.gql_exec.specs.Mapped.{all_mapped, mapped}
use Rattle.gql_exec.specs.Asks.{answer, arguments_at, asked, asks, definition_on}
use Rattle.gql_exec.specs.Executing.{answers_by, is_hidden, request_by}
use Rattle.gql_exec.specs.Request.{Members, Request}
use Rattle.gql_resolvers.specs.Resolved.{Meaning, Meanings, gives_leaf, gives_object, gives_list, gives_skip, fails_with, no_answer, answer_then}
use Rattle.gql_resolvers.specs.Resolved.{Outcome, answered, refused}
use Rattle.gql_schema_types.specs.declared.schema.Schema.{Schema}
use Rattle.gql_schema_types.specs.declared.types.ObjectType.{ObjectType}
use Rattle.gql_rounds.specs.Known.{Entity, Known, beside, type_of_entity}
use Rattle.gql_rounds.specs.Table.{Table}
use Rattle.gql_rounds.specs.ToldMeaning.{told, told_by}
use Rattle.gql_rounds.specs.bridge.Walked.{known_in}
use Rattle.gql_rounds.specs.Wanted.{request_by_table}

mutual
  pub mapped-back : (t : Table) (m : Meaning Known) → mapped known_in (mapped (beside t) m) ≡ m
  mapped-back t (gives_leaf v) = refl
  mapped-back t (gives_object x) = refl
  mapped-back t (gives_list ms) = ap gives_list (all-back t ms)
  mapped-back t gives_skip = refl
  mapped-back t (fails_with text) = refl

  all-back : (t : Table) (ms : Meanings Known) → all_mapped known_in (all_mapped (beside t) ms) ≡ ms
  all-back t no_answer = refl
  all-back t (answer_then m ms) =
      ap (λ n. answer_then n (all_mapped known_in (all_mapped (beside t) ms))) (mapped-back t m) ∙ ap (answer_then m) (all-back t ms)

abbrev pub known_outcome : Outcome Entity → Outcome Known
known_outcome (answered m) = answered (mapped known_in m)
known_outcome (refused fault) = refused fault

-- what comes of a field of an object beside what was told, with introspection off, is what comes of it for the caller
module _ (schema : Schema) (document : ExecutableDocument) (variables : Members) (t : Table) where
  abbrev theirs : Bool → Request Entity
  theirs b = request_by b schema document variables type_of_entity told

  abbrev ours : Request Known
  ours = request_by_table schema document variables t

  told-known : (U : ObjectType) (x : Known) (f : List ℕ) (arguments : Members)
      → mapped known_in (answers_by false told schema U (beside t x) f arguments) ≡ answers_by false (told_by t) schema U x f arguments
  told-known U x f arguments = by (is_hidden false schema U f)
    where
      by : (b : Bool) → mapped known_in (if b then fails_with (codes "schema introspection is disabled") else told schema U (beside t x) f arguments)
          ≡ (if b then fails_with (codes "schema introspection is disabled") else told_by t schema U x f arguments)
      by true = refl
      by false = mapped-back t (told_by t schema U x f arguments)

  answer-known : (U : ObjectType) (x : Known) (f : List ℕ) (arguments : Members)
      → mapped known_in (answer (theirs false) U (beside t x) f arguments) ≡ answer ours U x f arguments
  answer-known U x f arguments = by (bytes_eq f (codes "__typename"))
    where
      by : (b : Bool) → mapped known_in (if b then gives_leaf (json.String U.name.text) else answers_by false told schema U (beside t x) f arguments)
          ≡ (if b then gives_leaf (json.String U.name.text) else answers_by false (told_by t) schema U x f arguments)
      by true = refl
      by false = told-known U x f arguments

  asked-known : (U : ObjectType) (x : Known) (f : List ℕ) (arguments : Result Members ArgumentFault)
      → known_outcome (asked (theirs false) U (beside t x) f arguments) ≡ asked ours U x f arguments
  asked-known U x f (Ok arguments) = ap answered (answer-known U x f arguments)
  asked-known U x f (Err fault) = refl

  pub asks-known : (b : Bool) → b ≡ false → (U : ObjectType) (x : Known) (f : Field) → known_outcome (asks (theirs b) U (beside t x) f) ≡ asks ours U x f
  asks-known b hidden U x f =
      subst (λ (c : Bool). known_outcome (asks (theirs c) U (beside t x) f) ≡ asks ours U x f) (sym hidden)
      (asked-known U x f.name.text (arguments_at ours (definition_on schema U f) f))
