use Rattle.std.proofs.Common.{◌≡◌, ◌∙◌, sym, ap, ℕ, Some, take, true}
use Rattle.std.specs.Prelude.{slice_get}
use Rattle.std.specs.List.{list_all}
use Rattle.jb_read.specs.bridge.Strings.{is_plain_ascii}
use Rattle.jb_read.proofs.AsciiFronts.{ascii_is_text, text_is_ascii}
use Rattle.jb_read.proofs.text.read_text.Goals as goal

pub cut-requires-clause-text : goal.cut-requires-clause-text
cut-requires-clause-text c =
    let at = c.args.cursor.now in
    ascii_is_text (take c.ascii_length-length.result at) (rw c.rest.ensures at c.ascii_length-length.ensures.ascii)

pub returns-in-Some-eq34-clause-value : goal.returns-in-Some-eq34-clause-value
returns-in-Some-eq34-clause-value c =
    let at = c.args.cursor.now in
    let n = c.ascii_length-length.result in
    let pass : list_all is_plain_ascii (take n at) ≡ true = rw c.rest.ensures at c.ascii_length-length.ensures.ascii in
    let quote : slice_get at n ≡ Some 34 = sym c.in-Some-eq34.ensures ∙ ap (λ (b : ℕ). Some b) c.in-Some-eq34.field-0-test in
    text_is_ascii at c.in_ok-text.text c.skip.new.self n pass c.in_ok-text.ensures quote c.skip.ensures
