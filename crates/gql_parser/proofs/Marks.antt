-- What a rule on cycles and chains tells is one list.
use Rattle.std.proofs.Common.{◌≡◌, ℕ, suc, Bool, true, false, List, [], ◌∷◌, ◌++◌, length, Some, slice_get, refl, sym, ◌∙◌, ap, ap₂, arith}
use Rattle.std.proofs.lemmas.Option.{slice_get_within}
use Rattle.gql_ast_base.specs.Names.{Named}
use Rattle.gql_diag_messages.specs.declared.diagnostic_data.DiagnosticData.{DiagnosticData}
use Rattle.gql_diag_messages.specs.declared.rule.Rule.{Rule}
use Rattle.gql_graph.specs.Cycles.{AreMarked}
use Rattle.gql_graph.specs.Graph.{Graph}
use Rattle.gql_schema_rules.specs.SchemaFaults.{AreSchemaFaults, parts_faults}
use Rattle.gql_schema_rules.specs.CycleFaults.{IsTold, faults_from}
use Rattle.gql_schema_types.specs.declared.schema.Schema.{Schema}

same_mark : (a b : Bool) → (Some a ≡ Some true → Some b ≡ Some true) → (Some b ≡ Some true → Some a ≡ Some true) → a ≡ b
same_mark true true f g = refl
same_mark false false f g = refl
same_mark true false f g = let e : Some false ≡ Some true = f refl in absurd cc
same_mark false true f g = let e : Some false ≡ Some true = g refl in absurd cc

same_marks : (xs ys : List Bool) → length xs ≡ length ys → ((v : ℕ) → slice_get xs v ≡ Some true → slice_get ys v ≡ Some true)
    → ((v : ℕ) → slice_get ys v ≡ Some true → slice_get xs v ≡ Some true) → xs ≡ ys
same_marks [] [] e f g = refl
same_marks [] (y ∷ ys) e f g = absurd (omega (arith, e))
same_marks (x ∷ xs) [] e f g = absurd (omega (arith, e))
same_marks (x ∷ xs) (y ∷ ys) e f g =
    ap₂ (λ b bs. b ∷ bs) (same_mark x y (f 0) (g 0)) (same_marks xs ys (omega (arith, e)) (λ v. f (suc v)) (λ v. g (suc v)))

pub one_marking : (Holds : ℕ → Type 0) (count : ℕ) (one other : List Bool) → AreMarked Holds count one → AreMarked Holds count other → one ≡ other
one_marking Holds count one other h k =
    same_marks one other (h.as_many ∙ sym k.as_many)
    (λ v is. k.marked v (omega (arith, h.as_many, slice_get_within one v true is)) (h.only v is))
    (λ v is. h.marked v (omega (arith, k.as_many, slice_get_within other v true is)) (k.only v is))

one_told : {X : Type 0} (own : X → Named) (rule : Rule) (g : Graph) (named : ℕ) (things : List X) (one other : List DiagnosticData)
    → IsTold own rule g named things one → IsTold own rule g named things other → one ≡ other
one_told own rule g named things one other h k =
    h.whole
    ∙ ap₂ (λ (r l : List Bool). faults_from own rule r l 0 things)
    (one_marking _ _ h.recursive k.recursive h.judged.on_cycles k.judged.on_cycles)
    (one_marking _ _ h.long k.long h.judged.on_chains k.judged.on_chains)
    ∙ sym k.whole

-- and so is all that the rules on schemas tell
pub one_list : (schema : Schema) (one other : List DiagnosticData) → AreSchemaFaults schema one → AreSchemaFaults schema other → one ≡ other
one_list schema one other h k =
    h.whole
    ∙ ap (λ (l : List DiagnosticData). ((parts_faults schema ++ l) ++ h.input_objects) ++ h.directives) (one_told _ _ _ _ _ h.interfaces k.interfaces h.are_interfaces k.are_interfaces)
    ∙ ap (λ (l : List DiagnosticData). ((parts_faults schema ++ k.interfaces) ++ l) ++ h.directives) (one_told _ _ _ _ _ h.input_objects k.input_objects h.are_input_objects k.are_input_objects)
    ∙ ap (λ (l : List DiagnosticData). ((parts_faults schema ++ k.interfaces) ++ k.input_objects) ++ l) (one_told _ _ _ _ _ h.directives k.directives h.are_directives k.are_directives)
    ∙ sym k.whole
