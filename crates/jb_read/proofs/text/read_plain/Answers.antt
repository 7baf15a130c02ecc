use Rattle.std.proofs.Common.{◌≡◌, ◌∙◌, sym, ap, ℕ, Some, take}
use Rattle.std.specs.Prelude.{slice_get}
use Rattle.std.specs.Str.{IsUtf8}
use Rattle.jb_read.specs.Strings.{plain_length}
use Rattle.jb_read.proofs.Plain.{text_is_plain}
use Rattle.jb_read.proofs.text.read_plain.Goals as goal

pub returns-clause-value : goal.returns-clause-value
returns-clause-value c =
    let at = c.args.cursor.now in
    let n = c.plain_length-length.result in
    let n-is : n ≡ plain_length at = rw c.rest.ensures at c.plain_length-length.ensures.value in
    let quote : slice_get at n ≡ Some 34 = sym c.in-Some-eq34.ensures ∙ ap (λ (b : ℕ). Some b) c.in-Some-eq34.field-0-test in
    let valid : IsUtf8 (take n at) = rw c.rest-2.ensures at c.in-Ok.ensures.cases.1 in
    text_is_plain at c.in_ok-text.text c.skip.new.self n n-is c.in_ok-text.ensures valid quote c.skip.ensures
