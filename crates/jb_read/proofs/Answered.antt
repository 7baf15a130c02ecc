-- What a reader's answer says by the grammar.
use Rattle.std.proofs.Common.{◌≡◌, ◌⊎◌, inl, inr, ℕ, List, Result, Ok, Err, refl, sym, ◌∙◌}
use Rattle.std.specs.Prelude.{IfOk, IfErr}
use Rattle.jb_text.specs.declared.refused.Refused.{Refused}
use Rattle.jb_text.specs.declared.refused.Refused.TheVariants as refused
use Rattle.jb_tree.specs.declared.value.Value.{Value}
use Rattle.jb_read.specs.declared.fault.ReadFault.{ReadFault}
use Rattle.jb_read.specs.Spelling.{JsonText, JsonFront}
use Rattle.jb_read.specs.Texts.{Answers, text_value, text_front}
use Rattle.jb_read.specs.Faults.{JsonFault, IsFaultOf, FrontFault, IsFrontFaultOf}
use Rattle.jb_read.proofs.Breaks.{faults_sound, faults_complete, front_faults_sound, front_faults_complete}
use Rattle.jb_read.proofs.Sound.{whole_sound, front_sound}
use Rattle.jb_read.proofs.Complete.{whole_complete, front_complete}

pub whole_spelled : (bytes : List ℕ) (r : Result Value (Refused ReadFault)) → Answers r (text_value bytes) → IfOk r (JsonText bytes)
whole_spelled bytes (Ok v) e = whole_sound bytes v e
whole_spelled bytes (Err e) h = tt

pub whole_only : (bytes : List ℕ) (r : Result Value (Refused ReadFault)) → Answers r (text_value bytes) → (v : Value) → JsonText bytes v → Answers r (Ok v)
whole_only bytes (Ok w) e v t = sym (whole_complete bytes v t) ∙ e
whole_only bytes (Err (refused.Fault f)) e v t = sym (whole_complete bytes v t) ∙ e
whole_only bytes (Err refused.Memory) e v t = tt

pub front_spelled : (bytes : List ℕ) (r : Result Value (Refused ReadFault)) → Answers r (text_front bytes) → IfOk r (JsonFront bytes)
front_spelled bytes (Ok v) e = front_sound bytes v e
front_spelled bytes (Err e) h = tt

pub front_only : (bytes : List ℕ) (r : Result Value (Refused ReadFault)) → Answers r (text_front bytes) → (v : Value) → JsonFront bytes v → Answers r (Ok v)
front_only bytes (Ok w) e v t = sym (front_complete bytes v t) ∙ e
front_only bytes (Err (refused.Fault f)) e v t = sym (front_complete bytes v t) ∙ e
front_only bytes (Err refused.Memory) e v t = tt

pub whole_faults : (bytes : List ℕ) (r : Result Value (Refused ReadFault)) → Answers r (text_value bytes) → IfErr r (IsFaultOf bytes)
whole_faults bytes (Ok v) e = tt
whole_faults bytes (Err (refused.Fault f)) e = faults_sound bytes f e
whole_faults bytes (Err refused.Memory) e = tt

pub front_faults : (bytes : List ℕ) (r : Result Value (Refused ReadFault)) → Answers r (text_front bytes) → IfErr r (IsFrontFaultOf bytes)
front_faults bytes (Ok v) e = tt
front_faults bytes (Err (refused.Fault f)) e = front_faults_sound bytes f e
front_faults bytes (Err refused.Memory) e = tt

pub front_refused : (bytes : List ℕ) (r : Result Value (Refused ReadFault)) → Answers r (text_front bytes) → (f : ReadFault) → FrontFault bytes f → Answers r (Err f)
front_refused bytes (Ok w) e f t = sym (front_faults_complete bytes f t) ∙ e
front_refused bytes (Err (refused.Fault g)) e f t = sym (front_faults_complete bytes f t) ∙ e
front_refused bytes (Err refused.Memory) e f t = tt

abbrev read : Value → Result Value ReadFault
read v = Ok v

abbrev stopped : ReadFault → Result Value ReadFault
stopped f = Err f

same_value : (v w : Value) → read v ≡ read w → v ≡ w
same_value v w e = cc

same_fault : (f g : ReadFault) → stopped f ≡ stopped g → f ≡ g
same_fault f g e = cc

never_both : (v : Value) (f : ReadFault) → read v ≡ stopped f → ⊥
never_both v f e = cc

answer : (r : Result Value ReadFault) → ((v : Value) × (r ≡ Ok v)) ⊎ ((f : ReadFault) × (r ≡ Err f))
answer (Ok v) = inl (v, refl)
answer (Err f) = inr (f, refl)

pub one_of : (bytes : List ℕ) → ((v : Value) × JsonText bytes v) ⊎ ((f : ReadFault) × JsonFault bytes f)
one_of bytes = elim (answer (text_value bytes)) [
  | inl p ↦ inl (p.0, whole_sound bytes p.0 p.1)
  | inr p ↦ inr (p.0, faults_sound bytes p.0 p.1)
]

pub one_value : (bytes : List ℕ) (v w : Value) → JsonText bytes v → JsonText bytes w → v ≡ w
one_value bytes v w t u = same_value v w (sym (whole_complete bytes v t) ∙ whole_complete bytes w u)

pub one_fault : (bytes : List ℕ) (f g : ReadFault) → JsonFault bytes f → JsonFault bytes g → f ≡ g
one_fault bytes f g t u = same_fault f g (sym (faults_complete bytes f t) ∙ faults_complete bytes g u)

pub not_both : (bytes : List ℕ) (v : Value) (f : ReadFault) → JsonText bytes v → JsonFault bytes f → ⊥
not_both bytes v f t u = never_both v f (sym (whole_complete bytes v t) ∙ faults_complete bytes f u)

pub whole_refused : (bytes : List ℕ) (r : Result Value (Refused ReadFault)) → Answers r (text_value bytes) → (f : ReadFault) → JsonFault bytes f → Answers r (Err f)
whole_refused bytes (Ok w) e f t = sym (faults_complete bytes f t) ∙ e
whole_refused bytes (Err (refused.Fault g)) e f t = sym (faults_complete bytes f t) ∙ e
whole_refused bytes (Err refused.Memory) e f t = tt

-- ---- the same of the value that a text begins with

pub one_of_front : (bytes : List ℕ) → ((v : Value) × JsonFront bytes v) ⊎ ((f : ReadFault) × FrontFault bytes f)
one_of_front bytes = elim (answer (text_front bytes)) [
  | inl p ↦ inl (p.0, front_sound bytes p.0 p.1)
  | inr p ↦ inr (p.0, front_faults_sound bytes p.0 p.1)
]

pub one_front : (bytes : List ℕ) (v w : Value) → JsonFront bytes v → JsonFront bytes w → v ≡ w
one_front bytes v w t u = same_value v w (sym (front_complete bytes v t) ∙ front_complete bytes w u)

pub one_front_fault : (bytes : List ℕ) (f g : ReadFault) → FrontFault bytes f → FrontFault bytes g → f ≡ g
one_front_fault bytes f g t u = same_fault f g (sym (front_faults_complete bytes f t) ∙ front_faults_complete bytes g u)

pub not_both_front : (bytes : List ℕ) (v : Value) (f : ReadFault) → JsonFront bytes v → FrontFault bytes f → ⊥
not_both_front bytes v f t u = never_both v f (sym (front_complete bytes v t) ∙ front_faults_complete bytes f u)
