-- One step of reading, from what is read at the front of what is left.
use Rattle.std.proofs.Common.{◌≡◌, ℕ, zero, suc, ◌+◌, ◌-◌, ◌<◌, ◌∙◌, true, false, List, Ok, Err, refl, sym, ap, subst, length, take, drop, arith, length-drop}
use Rattle.std.proofs.lemmas.List.{take_all}
use Rattle.gql_lexer.specs.bridge.Lex.{Lexed, lex, IsWithin}
use Rattle.gql_lexer.specs.Lexical.{IsToken, IsFault}
use Rattle.gql_lexer.specs.bridge.Lexical.{Stands}
use Rattle.gql_lexer.specs.bridge.Reading.{ReadsToken, ReadsFault}
use Rattle.std.specs.Prelude.{◌==◌}
use Rattle.std.specs.Str.{IsUtf8, IsCharBoundary}
use Rattle.std.proofs.lemmas.Str.{IsUtf8-drop, IsCharBoundary-from_rest}
use Rattle.gql_lexer.proofs.Bounds.{token-bound, fault-bound}
use Rattle.gql_lexer.proofs.Fronts.{lex-stands}
use Rattle.gql_lexer.specs.declared.token.FaultAt.{FaultAt}
use Rattle.gql_lexer.specs.declared.token.TokenKind.{TokenKind}

-- `&bytes[place..]` of a text's bytes is what is left of the text
pub left : (bytes text : List ℕ) (place : ℕ) → bytes ≡ text → take (length bytes - place) (drop place bytes) ≡ drop place text
left bytes text place e = take_all (length bytes - place) (drop place bytes) (omega (arith, length-drop place bytes)) ∙ ap (drop place) e

add_sub : (n m : ℕ) → n + m - n ≡ m
add_sub n m = omega arith

pub reads : (text : List ℕ) (place : ℕ) (kind : TokenKind) (len : ℕ) → IsUtf8 text → IsCharBoundary text place
    → Ok (kind, len) ≡ lex (drop place text) → IsWithin (drop place text) (Ok (kind, len))
    → ReadsToken (record { text = text; place = place }) (record { text = text; place = place + len }) (record { kind = kind; range = record { start = place; end = place + len } })
reads text place kind len u h is within =
    let P : Lexed → Type 0 = Stands (drop place text) in
    let stands : IsToken kind (drop place text) len = subst P (sym is) (lex-stands (drop place text)) in
    let bound : IsCharBoundary (drop place text) len = token-bound kind (drop place text) len (IsUtf8-drop text place u h) (omega (arith, within.0, within.1)) stands in
    record {
      token = subst (λ n. IsToken kind (drop place text) n) (sym (add_sub place len)) stands;
      starts = refl;
      ends = refl;
      further = omega (arith, within.0);
      starts_character = h;
      ends_character = IsCharBoundary-from_rest text place len h.0 bound;
      text = refl;
    }

pub fails : (text : List ℕ) (place : ℕ) (found : FaultAt) → IsUtf8 text → IsCharBoundary text place → 0 < length (drop place text)
    → Err found ≡ lex (drop place text) → IsWithin (drop place text) (Err found)
    → ReadsFault (record { text = text; place = place }) (record { text = text; place = length text }) found.fault (record { start = place + found.start; end = place + found.end })
fails text place found u h some is within =
    let P : Lexed → Type 0 = Stands (drop place text) in
    let stands : IsFault found.fault (drop place text) found.start found.end = subst P (sym is) (lex-stands (drop place text)) in
    let bounds = fault-bound found.fault (drop place text) found.start found.end (IsUtf8-drop text place u h) some within.1 stands in
    record {
      stands = rw (add_sub place found.start, add_sub place found.end) stands;
      behind = omega arith;
      ordered = omega (arith, within.0);
      starts_character = IsCharBoundary-from_rest text place found.start h.0 bounds.0;
      ends_character = IsCharBoundary-from_rest text place found.end h.0 bounds.1;
      stops = refl;
      text = refl;
    }

pub not_empty : (n : ℕ) → false ≡ (n == 0) → 0 < n
not_empty zero h = absurd (let f : false ≡ true = h in cc)
not_empty (suc n) h = omega arith
