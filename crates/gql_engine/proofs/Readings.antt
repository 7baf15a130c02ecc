-- Bytes are one request of a form, or there is one message that says why they are none.
use Rattle.std.proofs.Common.{◌≡◌, ℕ, List, Result, Ok, Err, ◌∙◌, ap}
use Rattle.jb_read.specs.Faults.{JsonFault}
use Rattle.jb_read.specs.Spelling.{JsonText}
use Rattle.jb_read.specs.declared.fault.ReadFault.{ReadFault}
use Rattle.jb_tree.specs.declared.value.Value.{Value}
use Rattle.gql_engine.specs.NotAsked.{IsAsked, NotAsked, no_text, no_request, read_message}
use Rattle.gql_engine.specs.Request.{Asked, asked, fault_message}
use Rattle.gql_engine.specs.declared.request_form.RequestForm.{RequestForm}

same_ok : {A E : Type 0} (result : Result A E) (a b : A) → result ≡ Ok a → result ≡ Ok b → a ≡ b
same_ok result a b h k = cc (h, k)

same_err : {A E : Type 0} (result : Result A E) (a b : E) → result ≡ Err a → result ≡ Err b → a ≡ b
same_err result a b h k = cc (h, k)

ok_or_err : {A E : Type 0} (result : Result A E) (a : A) (e : E) → result ≡ Ok a → result ≡ Err e → ⊥
ok_or_err result a e h k = cc (h, k)

module _ (one_value : (bytes : List ℕ) (v w : Value) → JsonText bytes v → JsonText bytes w → v ≡ w)
    (not_both : (bytes : List ℕ) (v : Value) (f : ReadFault) → JsonText bytes v → JsonFault bytes f → ⊥)
    (one_fault : (bytes : List ℕ) (f g : ReadFault) → JsonFault bytes f → JsonFault bytes g → f ≡ g)
    (form : RequestForm) (bytes : List ℕ) where
  pub one_request : (r s : Asked) → IsAsked form bytes r → IsAsked form bytes s → r ≡ s
  one_request r s h k = same_ok (asked form k.value) r s (ap (asked form) (one_value bytes k.value h.value k.read h.read) ∙ h.asks) k.asks

  pub asked_or_not : (r : Asked) (message : List ℕ) → IsAsked form bytes r → NotAsked form bytes message → ⊥
  asked_or_not r message h (no_text fault k) = not_both bytes h.value fault h.read k
  asked_or_not r message h (no_request value fault read k) =
      ok_or_err (asked form value) r fault (ap (asked form) (one_value bytes value h.value read h.read) ∙ h.asks) k

  pub one_message : (m n : List ℕ) → NotAsked form bytes m → NotAsked form bytes n → m ≡ n
  one_message m n (no_text f h) (no_text g k) = ap read_message (one_fault bytes f g h k)
  one_message m n (no_text f h) (no_request value fault read k) = absurd (not_both bytes value f read h)
  one_message m n (no_request value fault read h) (no_text g k) = absurd (not_both bytes value g read k)
  one_message m n (no_request v f read h) (no_request w g also k) =
      ap fault_message (same_err (asked form w) f g (ap (asked form) (one_value bytes w v also read) ∙ h) k)
