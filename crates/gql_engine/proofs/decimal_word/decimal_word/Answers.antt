use Rattle.std.proofs.Common.{◌≡◌, ℕ, List, Some, Result, Ok, Err, sym, ◌∙◌, ap, arith, true≢false}
use Rattle.std.proofs.lemmas.Fmt.{parse-decimal}
use Rattle.std.specs.Fmt.{decimal}
use Rattle.std.specs.Str.Parse.{ParsesUnsigned}
use Rattle.gql_engine.specs.DecimalWord.{IsDecimalWord}
use Rattle.gql_engine.proofs.decimal_word.decimal_word.Goals as goal

-- a number in decimal is read as that number
reads : {E : Type 0} (word : List ℕ) (n : ℕ) (parsed : Result ℕ E) → IsDecimalWord word n → ParsesUnsigned 32 10 word parsed → parsed ≡ Ok n
reads word n parsed is h = parse-decimal 32 n word parsed (omega (arith, is.1)) (omega (arith, is.1)) is.0 h

same_ok : {E : Type 0} (result : Result ℕ E) (a b : ℕ) → result ≡ Ok a → result ≡ Ok b → a ≡ b
same_ok result a b h k = cc (h, k)

ok_or_err : {E : Type 0} (result : Result ℕ E) (a : ℕ) (x : E) → result ≡ Ok a → result ≡ Err x → ⊥
ok_or_err result a x h k = cc (h, k)

pub returns-in-Ok-clause-only : goal.returns-in-Ok-clause-only
returns-in-Ok-clause-only c = λ n given.
    ap Some (same_ok c.parse.result c.in-Ok.number n c.in-Ok.is (reads c.args.word.now n c.parse.result given c.parse.ensures.value.0))

pub returns-in_default-clause-is : goal.returns-in_default-clause-is
returns-in_default-clause-is c = λ n given.
    let read : c.parse.result ≡ Ok n = reads c.args.word.now n c.parse.result given c.parse.ensures.value.0 in
    let same : n ≡ c.in-Ok.number = same_ok c.parse.result n c.in-Ok.number read c.in-Ok.is in
    true≢false (sym (c.is_decimal.ensures.found (given.0 ∙ ap decimal same)) ∙ c.if-is_decimal.false)

pub returns-in_default-clause-only : goal.returns-in_default-clause-only
returns-in_default-clause-only c = λ n given.
    let read : c.parse.result ≡ Ok n = reads c.args.word.now n c.parse.result given c.parse.ensures.value.0 in
    let same : n ≡ c.in-Ok.number = same_ok c.parse.result n c.in-Ok.number read c.in-Ok.is in
    absurd (true≢false (sym (c.is_decimal.ensures.found (given.0 ∙ ap decimal same)) ∙ c.if-is_decimal.false))

pub returns-in_default-2-clause-is : goal.returns-in_default-2-clause-is
returns-in_default-2-clause-is c = λ n given.
    ok_or_err c.parse.result n c.in_default.field-0 (reads c.args.word.now n c.parse.result given c.parse.ensures.value.0) c.in_default.is

pub returns-in_default-2-clause-only : goal.returns-in_default-2-clause-only
returns-in_default-2-clause-only c = λ n given.
    absurd (ok_or_err c.parse.result n c.in_default.field-0 (reads c.args.word.now n c.parse.result given c.parse.ensures.value.0) c.in_default.is)
