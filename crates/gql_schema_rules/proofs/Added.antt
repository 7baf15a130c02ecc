-- Scalars that were added and are taken out again, and faults that a list has taken.
use Rattle.std.proofs.Common.{◌≡◌, ℕ, Bool, true, false, cond, not, inl, inr, Some, None, Result, Ok, Err, OnErr, List, [], ◌∷◌, ◌++◌, refl, sym, ap}
use Rattle.std.specs.List.{find}
use Rattle.std.proofs.lemmas.List.{append-nil}
use Rattle.gql_diag_messages.specs.declared.diagnostic_data.DiagnosticData.{DiagnosticData}
use Rattle.gql_diag.specs.Taken.{HasTakenSome}
use Rattle.std.specs.Str.{bytes_eq}
use Rattle.std.specs.Cmp.Lexicographic.{nat_list_eq_equiv}
use Rattle.gql_schema_rules.specs.Scalars.{new_scalar}
use Rattle.gql_schema_rules.specs.SchemaFaults.{AreSchemaFaults, HasListedAllFaults, HasListedSomeFaults}
use Rattle.gql_schema_types.specs.Entries.{without, is_called}
use Rattle.gql_schema_types.specs.Types.{type_name, type_called}
use Rattle.gql_schema_types.specs.declared.schema.Schema.{Schema}
use Rattle.gql_schema_types.specs.declared.types.ExtendedType.{ExtendedType}

pub taken_out : (name : List ℕ) (types : List ExtendedType) → type_called name types ≡ None → without type_name name (types ++ new_scalar name ∷ []) ≡ types
taken_out name [] none = ap (λ b. cond (not b) (new_scalar name ∷ []) []) (nat_list_eq_equiv.refl name)
taken_out name (t ∷ ts) none = by_test (bytes_eq name (type_name t).text) none (taken_out name ts)
  where
    by_test : (b : Bool) → cond b (Some t) (find (is_called type_name name) ts) ≡ None → (type_called name ts ≡ None → without type_name name (ts ++ new_scalar name ∷ []) ≡ ts)
        → cond (not b) (t ∷ without type_name name (ts ++ new_scalar name ∷ [])) (without type_name name (ts ++ new_scalar name ∷ [])) ≡ t ∷ ts
    by_test true none later = absurd cc
    by_test false none later = ap (λ l. t ∷ l) (later none)

-- what has taken some of the faults lists some of them
pub some_listed : (schema : Schema) (faults old new : List DiagnosticData) → AreSchemaFaults schema faults → HasTakenSome old faults new → HasListedSomeFaults schema old new
some_listed schema faults old new are taken =
    inr (faults, are, record { some = taken.some; rest = taken.rest; all = taken.all; listed = inl taken.taken })

-- what lists all of them lists some
pub all_listed : (schema : Schema) (old new : List DiagnosticData) → HasListedAllFaults schema old new → HasListedSomeFaults schema old new
all_listed schema old new all =
    inr (all.0, all.1, record { some = all.0; rest = []; all = sym (append-nil all.0); listed = inr all.2 })

-- what follows from what a refusal tells
pub on_refusal : {T E P Q : Type 0} (r : Result T E) → (P → Q) → OnErr r P → OnErr r Q
on_refusal (Ok x) f told = tt
on_refusal (Err e) f told = f told

-- what holds in any case
pub in_any_case : {T E Q : Type 0} (r : Result T E) → Q → OnErr r Q
in_any_case (Ok x) holds = tt
in_any_case (Err e) holds = holds
