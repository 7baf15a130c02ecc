-- Names need no escapes.
use Rattle.std.proofs.Common.{◌≡◌, ℕ, Bool, true, false, ◌&&◌, ◌||◌, List, [], ◌∷◌, ◌++◌, length, codes, refl, sym, ap, ◌∙◌, arith, append_assoc}
use Rattle.std.specs.List.{flat_map, list_all}
use Rattle.std.proofs.lemmas.Bool.Decides.{nat_tests}
use Rattle.jb_text.specs.Plain.{is_plain}
use Rattle.jb_print.specs.bridge.Pieces.{comma_after}
use Rattle.jb_print.specs.Quoted.{escaped, quoted}
use Rattle.jb_print.proofs.Escapes.{escaped-plain}
use Rattle.gql_ast_base.specs.Names.{is_name}
use Rattle.gql_lexer.specs.Class.{is_digit, is_name_start, is_name_continue}
use Rattle.gql_exec.specs.declared.text_output.OpenObject.{OpenObject}
use Rattle.gql_exec.specs.bridge.Written.{has_some, IsOpenObject, IsKeyed}
use Rattle.gql_resolvers.specs.Execute.{Member}

never-special : (byte : ℕ) → is_name_continue byte ≡ true → is_plain byte ≡ false → ⊥
never-special byte is special = grind (arith, nat_tests)

plain-byte : (byte : ℕ) → is_name_continue byte ≡ true → escaped byte ≡ byte ∷ []
plain-byte byte is = escaped-plain byte (by (is_plain byte) refl)
  where
    by : (plain : Bool) → is_plain byte ≡ plain → is_plain byte ≡ true
    by true plain = plain
    by false special = absurd (never-special byte is special)

both : (a b : Bool) → (a && b) ≡ true → (a ≡ true) × (b ≡ true)
both true true is = (refl, refl)
both true false is = absurd (cc is)
both false b is = absurd (cc is)

starts-on : (byte : ℕ) → is_name_start byte ≡ true → is_name_continue byte ≡ true
starts-on byte is = ap (λ b. b || is_digit byte) is

plain-all : (text : List ℕ) → list_all is_name_continue text ≡ true → flat_map escaped text ≡ text
plain-all [] all = refl
plain-all (byte ∷ text) all =
    let parts = both (is_name_continue byte) (list_all is_name_continue text) all in
    ap (λ t. t ++ flat_map escaped text) (plain-byte byte parts.0) ∙ ap (λ t. byte ∷ t) (plain-all text parts.1)

plain-name : (text : List ℕ) → is_name text ≡ true → flat_map escaped text ≡ text
plain-name [] is = refl
plain-name (byte ∷ text) is =
    let parts = both (is_name_start byte) (list_all is_name_continue text) is in
    ap (λ t. t ++ flat_map escaped text) (plain-byte byte (starts-on byte parts.0)) ∙ ap (λ t. byte ∷ t) (plain-all text parts.1)

-- a key as it is written piece by piece
pub key-written : (start old new : List ℕ) (object after : OpenObject) (members : List Member) (key opening : List ℕ) → IsOpenObject start old object members → is_name key ≡ true
    → after.start ≡ object.start → after.later ≡ object.later → after.last ≡ length old → opening ≡ comma_after object.later ++ codes "\""
    → new ≡ ((old ++ opening) ++ key) ++ codes "\":" → IsKeyed start new after members key
key-written start old new object after members key opening is name begins later last opens written =
    let comma = comma_after (has_some members) in
    let plain = plain-name key name in
    record {
      begins = begins ∙ is.begins;
      later = later ∙ is.later;
      last = last ∙ ap (λ (t : List ℕ). length t) is.text;
      text =
          written ∙ ap (λ o. ((old ++ o) ++ key) ++ codes "\":") (opens ∙ ap (λ b. comma_after b ++ codes "\"") is.later)
          ∙ append_assoc (old ++ (comma ++ codes "\"")) key (codes "\":") ∙ append_assoc old (comma ++ codes "\"") (key ++ codes "\":")
          ∙ ap (λ t. old ++ t) (append_assoc comma (codes "\"") (key ++ codes "\":"))
          ∙ ap (λ t. old ++ (comma ++ (codes "\"" ++ t))) (sym (append_assoc key (codes "\"") (codes ":")))
          ∙ ap (λ t. old ++ (comma ++ (codes "\"" ++ ((t ++ codes "\"") ++ codes ":")))) (sym plain)
          ∙ ap (λ t. t ++ (comma ++ (quoted key ++ codes ":"))) is.text;
    }
