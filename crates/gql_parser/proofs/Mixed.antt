-- What the phases of reading a schema and a document in one come to.
use Rattle.std.proofs.Common.{◌≡◌, ◌≢◌, List, [], ◌∷◌, ◌++◌, Result, Ok, Err, IsErrAnd, Bool, true, false, refl, sym, ◌∙◌, subst}
use Rattle.std.proofs.lemmas.Bool.{false≢true}
use Rattle.jb_text.specs.declared.refused.Refused.{Refused}
use Rattle.jb_text.specs.declared.refused.Refused.TheVariants.{Fault, Memory}
use Rattle.gql_source.specs.File.{Files}
use Rattle.gql_diag.specs.List.{Diagnostics, IsStableSort}
use Rattle.gql_diag.specs.Order.{list_order}
use Rattle.gql_diag_messages.specs.declared.diagnostic_data.DiagnosticData.{DiagnosticData}
use Rattle.gql_document_types.specs.declared.document.ExecutableDocument.{ExecutableDocument}
use Rattle.gql_rules.specs.DocumentFaults.{AreDocumentFaults, AreFirstOrAll}
use Rattle.gql_schema_rules.specs.Scalars.{validated}
use Rattle.gql_schema_rules.specs.SchemaFaults.{AreSchemaFaults}
use Rattle.gql_schema_types.specs.declared.schema.Schema.{Schema}
use Rattle.gql_parser.specs.MixedRead.{AreMixedFaults, AreRuleFaults, AreTold, IsHeld, IsMixed, IsMixedAnswer}
use Rattle.gql_parser.specs.Parsers.{ParserState, Given}
use Rattle.gql_parser.proofs.Sorts.{nothing_after, nothing_before}

-- ---- a list, tested for being empty

pub not_empty : (b : Bool) (items : List DiagnosticData) → (items ≡ [] → b ≡ true) → b ≡ false → items ≢ []
not_empty b items is test none = false≢true (sym test ∙ is none)

-- what a call has listed where nothing was listed before
abbrev pub HasListed : (List DiagnosticData → Type 0) → List DiagnosticData → List DiagnosticData → Type 0
HasListed AreFaults old new = (faults : List DiagnosticData) × AreFaults faults × IsStableSort list_order (old ++ faults) new

module _ (AreFaults : List DiagnosticData → Type 0) where
  -- some diagnostics alone
  pub alone : (faults : List DiagnosticData) → faults ≢ [] → AreFirstOrAll AreFaults faults faults
  alone [] some = absurd (some refl)
  alone (fault ∷ faults) some = refl

  pub all_made : (firsts faults : List DiagnosticData) → firsts ≡ [] → AreFaults faults → AreFirstOrAll AreFaults firsts faults
  all_made [] faults none are = are
  all_made (first ∷ firsts) faults none are = absurd cc

  sort_of : (old new : List DiagnosticData) (listed : HasListed AreFaults old new) → old ≡ [] → IsStableSort list_order listed.0 new
  sort_of old new listed start = subst (λ (l : List DiagnosticData). IsStableSort list_order (l ++ listed.0) new) start listed.2

  pub none_listed : (old new : List DiagnosticData) → old ≡ [] → HasListed AreFaults old new → new ≡ [] → AreFaults []
  none_listed old new start listed none = subst AreFaults (nothing_before listed.0 new (sort_of old new listed start).permutation none) listed.1

  pub some_listed : (old : List DiagnosticData) (files : Files) (list : Diagnostics) → old ≡ [] → HasListed AreFaults old list.items → list.items ≢ []
      → list.sources ≡ files → AreTold AreFaults files list
  some_listed old files list start listed some sources =
      let sort = sort_of old list.items listed start in
      record {
        faults = listed.0;
        are = listed.1;
        some = λ none. some (nothing_after listed.0 list.items sort.permutation none);
        items = sort;
        sources = sources;
      }

-- ---- the rules

module _ (P Q : List DiagnosticData → Type 0) (weaker : (faults : List DiagnosticData) → P faults → Q faults) where
  told_so : (files : Files) (list : Diagnostics) → AreTold P files list → AreTold Q files list
  told_so files list told = record {
    faults = told.faults;
    are = weaker told.faults told.are;
    some = told.some;
    items = told.items;
    sources = told.sources;
  }

  held_so : {X : Type 0} (files : Files) (answer : Result X (Refused Diagnostics)) → IsHeld P files answer → IsHeld Q files answer
  held_so files (Ok made) held = weaker [] held
  held_so files (Err (Fault list)) held = told_so files list held
  held_so files (Err Memory) held = tt

module _ (AreFaults : List DiagnosticData → Type 0) (files : Files) where
  -- out of memory tells nothing of the rules
  pub no_memory : (X : Type 0) (answer : Result X (Refused Diagnostics)) → IsErrAnd answer (λ f. f ≡ Memory) → IsHeld AreFaults files answer
  no_memory X (Ok made) is = absurd is
  no_memory X (Err f) is = subst (λ (g : Refused Diagnostics). IsHeld {X = X} AreFaults files (Err g)) (sym is) tt

  refused : (X Y : Type 0) (e : Refused Diagnostics) → IsHeld {X = Y} AreFaults files (Err e) → IsHeld {X = X} AreFaults files (Err e)
  refused X Y (Fault list) held = held
  refused X Y Memory held = tt

  -- a refusal that is handed on
  pub handed_on : (X Y : Type 0) (e : Refused Diagnostics) (answer : Result X (Refused Diagnostics)) → IsErrAnd answer (λ f. f ≡ e)
      → IsHeld {X = Y} AreFaults files (Err e) → IsHeld AreFaults files answer
  handed_on X Y e (Ok made) is held = absurd is
  handed_on X Y e (Err f) is held = subst (λ (g : Refused Diagnostics). IsHeld {X = X} AreFaults files (Err g)) (sym is) (refused X Y e held)

-- where the rules on schemas hold, those on documents tell
holds : (its_schema settled : Schema) (its_document : ExecutableDocument) → AreSchemaFaults its_schema [] → settled ≡ validated its_schema
    → (faults : List DiagnosticData) → AreDocumentFaults settled its_document faults → AreRuleFaults its_schema its_document faults
holds its_schema settled its_document none is faults are = record {
  broken = [];
  are_broken = none;
  whole = subst (λ (s : Schema). AreDocumentFaults s its_document faults) is are;
}

pub settled_so : {X : Type 0} (its_schema settled : Schema) (its_document : ExecutableDocument) (kept files : Files) (answer : Result X (Refused Diagnostics))
    → AreSchemaFaults its_schema [] → settled ≡ validated its_schema → kept ≡ files → IsHeld (AreDocumentFaults settled its_document) kept answer
    → IsHeld (AreRuleFaults its_schema its_document) files answer
settled_so its_schema settled its_document kept files answer none is same held =
    subst (λ (f : Files). IsHeld (AreRuleFaults its_schema its_document) f answer) same
    (held_so (AreDocumentFaults settled its_document) (AreRuleFaults its_schema its_document) (holds its_schema settled its_document none is) kept answer held)

pub broken : (its_schema : Schema) (its_document : ExecutableDocument) (files : Files) (list : Diagnostics)
    → AreTold (AreSchemaFaults its_schema) files list → AreTold (AreRuleFaults its_schema its_document) files list
broken its_schema its_document files list told = record {
  faults = told.faults;
  are = record { broken = told.faults; are_broken = told.are; whole = alone (AreDocumentFaults (validated its_schema) its_document) told.faults told.some };
  some = told.some;
  items = told.items;
  sources = told.sources;
}

-- ---- the rules behind the builds

module _ (its_schema : Schema) (its_document : ExecutableDocument) (builds : List DiagnosticData) where
  pub built_well : {X : Type 0} (items : List DiagnosticData) (files : Files) (answer : Result X (Refused Diagnostics)) → IsStableSort list_order builds items
      → items ≡ [] → IsHeld (AreRuleFaults its_schema its_document) files answer → IsHeld (AreMixedFaults its_schema its_document builds) files answer
  built_well items files answer sort none held =
      let right = nothing_before builds items sort.permutation none in
      held_so (AreRuleFaults its_schema its_document) (AreMixedFaults its_schema its_document builds)
      (λ faults are. all_made (AreRuleFaults its_schema its_document) builds faults right are) files answer held

  pub built_badly : (list : Diagnostics) → IsStableSort list_order builds list.items → list.items ≢ []
      → AreTold (AreMixedFaults its_schema its_document builds) list.sources list
  built_badly list sort some =
      let wrong : builds ≢ [] = λ none. some (nothing_after builds list.items sort.permutation none) in
      record {
        faults = builds;
        are = alone (AreRuleFaults its_schema its_document) builds wrong;
        some = wrong;
        items = sort;
        sources = refl;
      }

-- ---- the answer

pub answered : (parser : ParserState) (given : Given) (answer : Result (Schema × ExecutableDocument) (Refused Diagnostics)) → IsMixed parser given answer
    → IsMixedAnswer parser given answer
answered parser given (Ok made) is = is
answered parser given (Err (Fault list)) is = is
answered parser given (Err Memory) is = tt
