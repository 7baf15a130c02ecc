use Rattle.std.proofs.Common.{◌∙◌, ap, sym, ℕ, Some, arith}
use Rattle.std.proofs.lemmas.Result.{err_from_is_err_and}
use Rattle.jb_read.specs.Values.{value_at}
use Rattle.jb_read.proofs.Nested.{array_closed, array_open, object_closed, object_open, value_reads_array, value_breaks_array, value_reads_object, value_breaks_object}
use Rattle.jb_read.proofs.value.+value.Goals as goal

pub read_array-returns-then-take_byte-clause-value : goal.read_array-returns-then-take_byte-clause-value
read_array-returns-then-take_byte-clause-value t c =
    array_closed (value_at c.args.depth) c.args.cursor.now c.skip_spaces.new.cursor c.take_byte.new.cursor c.new-items.result c.take_byte.result
    c.new-items.ensures c.skip_spaces.ensures.skipped c.take_byte.ensures.value c.take_byte.ensures.rest c.if-take_byte.true

pub read_array-loop-items-init : goal.read_array-loop-items-init
read_array-loop-items-init t c = record {
  goes = array_open (value_at c.args.depth) c.args.cursor.now c.skip_spaces.new.cursor c.take_byte.new.cursor c.new-items.result c.take_byte.result
      c.new-items.ensures c.skip_spaces.ensures.skipped c.take_byte.ensures.value c.take_byte.ensures.rest c.if-take_byte.false;
  no_more = omega arith;
}

pub read_object-returns-then-take_byte-clause-value : goal.read_object-returns-then-take_byte-clause-value
read_object-returns-then-take_byte-clause-value t c =
    object_closed (value_at c.args.depth) c.args.cursor.now c.skip_spaces.new.cursor c.take_byte.new.cursor c.new-members.result c.take_byte.result
    c.new-members.ensures c.skip_spaces.ensures.skipped c.take_byte.ensures.value c.take_byte.ensures.rest c.if-take_byte.true

pub read_object-loop-members-init : goal.read_object-loop-members-init
read_object-loop-members-init t c = record {
  goes = object_open (value_at c.args.depth) c.args.cursor.now c.skip_spaces.new.cursor c.take_byte.new.cursor c.new-members.result c.take_byte.result
      c.new-members.ensures c.skip_spaces.ensures.skipped c.take_byte.ensures.value c.take_byte.ensures.rest c.if-take_byte.false;
  no_more = omega arith;
}

pub read_value-returns-in_err-read_array-in-Some-eq91-clause-value : goal.read_value-returns-in_err-read_array-in-Some-eq91-clause-value
read_value-returns-in_err-read_array-in-Some-eq91-clause-value t c =
    let p = err_from_is_err_and c.from_residual-in_err-read_array-in-Some-eq91.result c.from_residual-in_err-read_array-in-Some-eq91.ensures.1 in
    rw (p.1, p.2) (value_breaks_array c.args.depth c.in_ok-inner-in-Some-eq91.inner c.args.cursor.now c.open_bracket.new.cursor c.in_err-read_array-in-Some-eq91.field-0.0
    c.in_ok-inner-in-Some-eq91.ensures.0 (sym c.in-Some-eq91.ensures ∙ ap (λ (b : ℕ). Some b) c.in-Some-eq91.field-0-test) c.in_ok-inner-in-Some-eq91.ensures.1 c.in_err-read_array-in-Some-eq91.ensures.value)

pub read_value-returns-in_ok-read_array-in-Some-eq91-clause-value : goal.read_value-returns-in_ok-read_array-in-Some-eq91-clause-value
read_value-returns-in_ok-read_array-in-Some-eq91-clause-value t c =
    value_reads_array c.args.depth c.in_ok-inner-in-Some-eq91.inner c.args.cursor.now c.open_bracket.new.cursor c.read_array.new.cursor c.in_ok-read_array-in-Some-eq91.field-0
    c.in_ok-inner-in-Some-eq91.ensures.0 (sym c.in-Some-eq91.ensures ∙ ap (λ (b : ℕ). Some b) c.in-Some-eq91.field-0-test) c.in_ok-inner-in-Some-eq91.ensures.1 c.in_ok-read_array-in-Some-eq91.ensures.value

pub read_value-returns-in_err-read_object-in-Some-eq123-clause-value : goal.read_value-returns-in_err-read_object-in-Some-eq123-clause-value
read_value-returns-in_err-read_object-in-Some-eq123-clause-value t c =
    let p = err_from_is_err_and c.from_residual-in_err-read_object-in-Some-eq123.result c.from_residual-in_err-read_object-in-Some-eq123.ensures.1 in
    rw (p.1, p.2) (value_breaks_object c.args.depth c.in_ok-inner-in-Some-eq123.inner c.args.cursor.now c.open_bracket-in-Some-eq123.new.cursor c.in_err-read_object-in-Some-eq123.field-0.0
    c.in_ok-inner-in-Some-eq123.ensures.0 (sym c.in-Some-eq123.ensures ∙ ap (λ (b : ℕ). Some b) c.in-Some-eq123.field-0-test) c.in_ok-inner-in-Some-eq123.ensures.1 c.in_err-read_object-in-Some-eq123.ensures.value)

pub read_value-returns-in_ok-read_object-in-Some-eq123-clause-value : goal.read_value-returns-in_ok-read_object-in-Some-eq123-clause-value
read_value-returns-in_ok-read_object-in-Some-eq123-clause-value t c =
    value_reads_object c.args.depth c.in_ok-inner-in-Some-eq123.inner c.args.cursor.now c.open_bracket-in-Some-eq123.new.cursor c.read_object.new.cursor c.in_ok-read_object-in-Some-eq123.field-0
    c.in_ok-inner-in-Some-eq123.ensures.0 (sym c.in-Some-eq123.ensures ∙ ap (λ (b : ℕ). Some b) c.in-Some-eq123.field-0-test) c.in_ok-inner-in-Some-eq123.ensures.1 c.in_ok-read_object-in-Some-eq123.ensures.value
