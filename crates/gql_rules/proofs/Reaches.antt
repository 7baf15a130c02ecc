-- The uses in fragments, judged for the operations that reach them.
use Rattle.std.proofs.Common.{◌≡◌, ℕ, ◌+◌, Bool, true, false, ◌||◌, cond, if◌then◌else◌, List, [], ◌∷◌, ◌++◌, map, filter, Option, Some, None, fold, is_some, not, position, refl, sym, ap, ◌∙◌}
use Rattle.std.specs.List.{flat_map, list_any}
use Rattle.std.specs.Option.{option_and_then, option_map_or}
use Rattle.std.specs.Str.{bytes_eq}
use Rattle.std.proofs.lemmas.List.{map-append, append-nil}
use Rattle.std.proofs.lemmas.List.Elements.{filter-append}
use Rattle.std.proofs.lemmas.List.Folds.{fold-map, list_any-append}
use Rattle.gql_ast.specs.declared.operation.VariableDefinition.{VariableDefinition}
use Rattle.gql_ast_base.specs.declared.type_ref.TypeRef.{TypeRef}
use Rattle.gql_ast.specs.TypeText.{type_text}
use Rattle.gql_diag_messages.specs.declared.rule.Rule.TheVariants.{DisallowedVariableUsage}
use Rattle.gql_document_types.specs.declared.fragment.Fragment.{Fragment}
use Rattle.gql_document_types.specs.declared.operation.Operation.{Operation}
use Rattle.gql_rules_values.specs.Faults.{fault}
use Rattle.gql_rules_nodes.specs.Reached.{is_reached}
use Rattle.gql_rules.proofs.Firsts.{or-false, any-one_more, first_of, first-one_more, any-told, any-all_told, first-told, none-first, none-told, flat-same}
use Rattle.gql_rules.proofs.Noted.{is_some-position, noted}
use Rattle.gql_rules.specs.DisallowedVariableUsage.{breaks, misfit, disallowed_type, types_fault}
use Rattle.gql_rules.specs.bridge.Judged.{Judged, fresh, fresh_row, judged_in, row_judged, rows_judged, told, row_told}
use Rattle.gql_rules.specs.OneOfVariable.{may_be_null, literal_told}
use Rattle.gql_rules.specs.bridge.Operations.{with_use, rows_noted, fresh_rows, rows_told, own_row, names_after, operation_told}
use Rattle.gql_rules.specs.UndefinedVariable.{is_undefined, undefined_fault, variable_called}
use Rattle.gql_rules.specs.UnusedVariable.{is_used, unless_used}
use Rattle.gql_rules.specs.Uses.{Use, operation_uses, fragment_uses}
use Rattle.gql_rules.specs.VariableFaults.{Reach, first_told, use_faults, reaching, fragments_faults, reached_uses, operation_faults}
use Rattle.gql_schema_types.specs.declared.schema.Schema.{Schema}

or_assoc : (a b c : Bool) → ((a || b) || c) ≡ (a || (b || c))
or_assoc true b c = refl
or_assoc false b c = refl

module _ (schema : Schema) where
  -- ---- a use, judged for some operations

  abbrev lacks : Use → Operation → Bool
  lacks used operation = is_undefined operation.variables used

  abbrev type_in : Use → Operation → Option TypeRef
  type_in used operation = disallowed_type schema.types operation.variables used

  abbrev null_in : Use → Operation → Bool
  null_in used operation = may_be_null operation.variables used

  abbrev pub judged_by : List Operation → Use → Judged
  judged_by operations used = record { used = used; undefined = list_any (lacks used) operations; variable = first_of (type_in used) operations; nullable = list_any (null_in used) operations }

  one_more : (operations : List Operation) (operation : Operation) (used : Use)
      → judged_in schema.types operation.variables (judged_by operations used) ≡ judged_by (operations ++ operation ∷ []) used
  one_more operations operation used = λ i. record {
    used = used;
    undefined = sym (any-one_more (lacks used) operations operation) i;
    variable = sym (first-one_more (type_in used) operations operation) i;
    nullable = sym (any-one_more (null_in used) operations operation) i;
  }

  row-one_more : (operations : List Operation) (operation : Operation) (uses : List Use)
      → row_judged schema.types operation.variables (map (judged_by operations) uses) ≡ map (judged_by (operations ++ operation ∷ [])) uses
  row-one_more operations operation [] = refl
  row-one_more operations operation (used ∷ uses) = λ i. one_more operations operation used i ∷ row-one_more operations operation uses i

  -- ---- what is told of it

  type-told : (used : Use) (place : Option TypeRef) → used.place.ty ≡ place → (operations : List Operation)
      → option_map_or (λ ty. option_map_or (types_fault used ty) place []) (first_of (type_in used) operations) []
      ≡ first_told (λ operation. option_map_or (λ ty. option_map_or (types_fault used ty) place []) (type_in used operation) []) operations
  type-told used None is operations =
      ap (λ o. option_map_or (λ ty. []) o []) (none-first (type_in used) none operations)
      ∙ sym (none-told (λ operation. option_map_or (λ ty. []) (type_in used operation) []) (λ operation. ap (λ o. option_map_or (λ ty. []) o []) (none operation)) operations)
    where
      none : (operation : Operation) → type_in used operation ≡ None
      none operation = by_variable (variable_called operation.variables used.name.text)
        where
          by_variable : (o : Option VariableDefinition) → option_and_then (misfit schema.types used.place) o ≡ None
          by_variable None = refl
          by_variable (Some variable) = ap (λ p. if option_map_or (breaks schema.types variable used.place.has_default) p false then Some variable.ty else None) is
  type-told used (Some place) is operations = first-told (type_in used) (λ ty. fault DisallowedVariableUsage (used.name.text ∷ type_text ty ∷ type_text place ∷ []) used.location None) operations

  use-told : (operations : List Operation) (used : Use) → told (judged_by operations used) ≡ use_faults schema operations used
  use-told operations used = λ i.
      any-told (lacks used) (undefined_fault used) operations i
      ++ (type-told used used.place.ty refl operations i ++ any-all_told (null_in used) (literal_told used) operations i)

  row-told : (operations : List Operation) (uses : List Use) → row_told (map (judged_by operations) uses) ≡ flat_map (use_faults schema operations) uses
  row-told operations [] = refl
  row-told operations (used ∷ uses) = λ i. use-told operations used i ++ row-told operations uses i

  -- ---- the names that are used
  row-noted : (n : List ℕ) (names : List (List ℕ)) (operations : List Operation) (uses : List Use)
      → list_any (bytes_eq n) (fold with_use names (map (judged_by operations) uses)) ≡ (list_any (bytes_eq n) names || is_used uses n)
  row-noted n names operations uses =
      ap (list_any (bytes_eq n)) (fold-map with_use (judged_by operations) names uses) ∙ noted (λ (used : Use). used.name.text) n names uses

  abbrev pub rows_for : List Reach → ℕ → List Fragment → List (List Judged)
  rows_for reaches v [] = []
  rows_for reaches v (fragment ∷ fragments) = map (judged_by (reaching reaches v)) (fragment_uses schema fragment) ∷ rows_for reaches (v + 1) fragments

  pub rows-fresh : (v : ℕ) (fragments : List Fragment) → fresh_rows schema fragments ≡ rows_for [] v fragments
  rows-fresh v [] = refl
  rows-fresh v (fragment ∷ fragments) = ap (λ rows. map fresh (fragment_uses schema fragment) ∷ rows) (rows-fresh (v + 1) fragments)

  -- ---- one operation more
  reaching-one_more : (reaches : List Reach) (reach : Reach) (v : ℕ)
      → reaching (reaches ++ reach ∷ []) v ≡ (if is_reached reach.states v then reaching reaches v ++ reach.operation ∷ [] else reaching reaches v)
  reaching-one_more reaches reach v =
      ap (map (λ (r : Reach). r.operation)) (filter-append (λ (r : Reach). is_reached r.states v) reaches (reach ∷ []))
      ∙ by_test (is_reached reach.states v)
    where
      by_test : (b : Bool)
          → map (λ (r : Reach). r.operation) (filter (λ (r : Reach). is_reached r.states v) reaches ++ cond b (reach ∷ []) [])
          ≡ (if b then reaching reaches v ++ reach.operation ∷ [] else reaching reaches v)
      by_test true = map-append (λ (r : Reach). r.operation) (filter (λ (r : Reach). is_reached r.states v) reaches) (reach ∷ [])
      by_test false = ap (map (λ (r : Reach). r.operation)) (append-nil (filter (λ (r : Reach). is_reached r.states v) reaches))

  one_row : (b : Bool) (operations : List Operation) (operation : Operation) (uses : List Use)
      → (if b then row_judged schema.types operation.variables (map (judged_by operations) uses) else map (judged_by operations) uses)
      ≡ map (judged_by (if b then operations ++ operation ∷ [] else operations)) uses
  one_row true operations operation uses = row-one_more operations operation uses
  one_row false operations operation uses = refl

  pub rows-one_more : (reaches : List Reach) (reach : Reach) (v : ℕ) (fragments : List Fragment)
      → rows_judged schema.types reach.operation.variables reach.states v (rows_for reaches v fragments) ≡ rows_for (reaches ++ reach ∷ []) v fragments
  rows-one_more reaches reach v [] = refl
  rows-one_more reaches reach v (fragment ∷ fragments) =
      let uses = fragment_uses schema fragment in
      let here = one_row (is_reached reach.states v) (reaching reaches v) reach.operation uses
      ∙ ap (λ operations. map (judged_by operations) uses) (sym (reaching-one_more reaches reach v)) in
      λ i. here i ∷ rows-one_more reaches reach (v + 1) fragments i

  -- ---- what is told of the fragments
  pub rows-told : (reaches : List Reach) (v : ℕ) (fragments : List Fragment) → rows_told (rows_for reaches v fragments) ≡ fragments_faults schema reaches v fragments
  rows-told reaches v [] = refl
  rows-told reaches v (fragment ∷ fragments) =
      λ i. row-told (reaching reaches v) (fragment_uses schema fragment) i ++ rows-told reaches (v + 1) fragments i

  -- ---- what is told of an operation
  rows-noted : (n : List ℕ) (reaches : List Reach) (states : List ℕ) (v : ℕ) (names : List (List ℕ)) (fragments : List Fragment)
      → list_any (bytes_eq n) (rows_noted states v names (rows_for reaches v fragments)) ≡ (list_any (bytes_eq n) names || is_used (reached_uses schema states v fragments) n)
  rows-noted n reaches states v names [] = sym (or-false (list_any (bytes_eq n) names))
  rows-noted n reaches states v names (fragment ∷ fragments) =
      by_test (is_reached states v) (λ names. rows-noted n reaches states (v + 1) names fragments)
    where
      by_test : (b : Bool)
          → ((names : List (List ℕ)) → list_any (bytes_eq n) (rows_noted states (v + 1) names (rows_for reaches (v + 1) fragments))
          ≡ (list_any (bytes_eq n) names || is_used (reached_uses schema states (v + 1) fragments) n))
          → list_any (bytes_eq n) (rows_noted states (v + 1) (if b then fold with_use names (map (judged_by (reaching reaches v)) (fragment_uses schema fragment)) else names) (rows_for reaches (v + 1) fragments))
          ≡ (list_any (bytes_eq n) names || is_used ((if b then fragment_uses schema fragment else []) ++ reached_uses schema states (v + 1) fragments) n)
      by_test true later =
          let uses = fragment_uses schema fragment in
          let rest = reached_uses schema states (v + 1) fragments in
          later (fold with_use names (map (judged_by (reaching reaches v)) uses))
          ∙ ap (λ b. b || is_used rest n) (row-noted n names (reaching reaches v) uses)
          ∙ or_assoc (list_any (bytes_eq n) names) (is_used uses n) (is_used rest n)
          ∙ ap (λ b. list_any (bytes_eq n) names || b) (sym (list_any-append (λ (used : Use). bytes_eq n used.name.text) uses rest))
      by_test false later = later names

  names-after : (n : List ℕ) (reaches : List Reach) (operation : Operation) (states : List ℕ) (fragments : List Fragment)
      → is_some (position (bytes_eq n) (names_after schema operation states (rows_for reaches 0 fragments)))
      ≡ is_used (operation_uses schema operation ++ reached_uses schema states 0 fragments) n
  names-after n reaches operation states fragments =
      let own = operation_uses schema operation in
      let rest = reached_uses schema states 0 fragments in
      is_some-position (bytes_eq n) (names_after schema operation states (rows_for reaches 0 fragments))
      ∙ rows-noted n reaches states 0 (fold with_use [] (own_row schema operation)) fragments
      ∙ ap (λ b. b || is_used rest n) (row-noted n [] [] own)
      ∙ sym (list_any-append (λ (used : Use). bytes_eq n used.name.text) own rest)

  pub operation-told : (reaches : List Reach) (reach : Reach) (fragments : List Fragment)
      → operation_told schema reach.operation reach.states (rows_for reaches 0 fragments) ≡ operation_faults schema fragments reach
  operation-told reaches reach fragments =
      let own = operation_uses schema reach.operation in
      let of_uses : row_told (row_judged schema.types reach.operation.variables (own_row schema reach.operation)) ≡ flat_map (use_faults schema (reach.operation ∷ [])) own =
      ap row_told (row-one_more [] reach.operation own) ∙ row-told (reach.operation ∷ []) own in
      let of_variables = flat-same
      (λ (variable : VariableDefinition). unless_used (is_some (position (bytes_eq variable.name.text) (names_after schema reach.operation reach.states (rows_for reaches 0 fragments)))) variable)
      (λ (variable : VariableDefinition). unless_used (is_used (own ++ reached_uses schema reach.states 0 fragments) variable.name.text) variable)
      (λ variable. ap (λ b. unless_used b variable) (names-after variable.name.text reaches reach.operation reach.states fragments))
      reach.operation.variables in
      λ i. of_uses i ++ of_variables i
