use Rattle.std.proofs.Common.{◌≡◌, length, take, drop, true, false}
use Rattle.std.specs.Prelude.{is_none, ◌&&◌, ◌==◌}
use Rattle.std.specs.Str.{valid_up_to, error_len}
use Rattle.jb_read.specs.Strings.{plain_length}
use Rattle.jb_read.proofs.Plain.{run_is_text, run_cut_off, run_ill_formed}
use Rattle.jb_read.proofs.text.read_run.Goals as goal

pub returns-then-is_cut_off-clause-value : goal.returns-then-is_cut_off-clause-value
returns-then-is_cut_off-clause-value c =
    let at = c.args.cursor.now in
    let front = c.split_at.result.0.now in
    let behind = c.split_at.result.1.now in
    let n = c.plain_length.result in
    let n-is : n ≡ plain_length at = rw c.rest-2.ensures at c.plain_length.ensures.value in
    let front-is : front ≡ take n at = rw c.rest.ensures at c.split_at.ensures.front in
    let behind-is : behind ≡ drop n at = rw c.rest.ensures at c.split_at.ensures.back in
    let e = c.in-Err.error in
    let cut : ((length behind == 0) && is_none (error_len e)) ≡ true = cc in
    rw c.fault.ensures (run_cut_off at front behind c.skip-then-is_cut_off.new.self n (valid_up_to e) (error_len e) n-is front-is behind-is c.in-Err.ensures.cases.0 c.in-Err.ensures.valid_len c.in-Err.ensures.fault cut c.skip-then-is_cut_off.ensures)

pub returns-in-Ok-clause-value : goal.returns-in-Ok-clause-value
returns-in-Ok-clause-value c =
    let at = c.args.cursor.now in
    let front = c.split_at.result.0.now in
    let n = c.plain_length.result in
    let n-is : n ≡ plain_length at = rw c.rest-2.ensures at c.plain_length.ensures.value in
    let front-is : front ≡ take n at = rw c.rest.ensures at c.split_at.ensures.front in
    run_is_text at front c.skip.new.self c.in-Ok.text.now n n-is front-is c.in-Ok.ensures.cases.1 c.in-Ok.ensures.cases.0 c.skip.ensures

pub returns-else-is_cut_off-clause-value : goal.returns-else-is_cut_off-clause-value
returns-else-is_cut_off-clause-value c =
    let at = c.args.cursor.now in
    let front = c.split_at.result.0.now in
    let behind = c.split_at.result.1.now in
    let n = c.plain_length.result in
    let n-is : n ≡ plain_length at = rw c.rest-2.ensures at c.plain_length.ensures.value in
    let front-is : front ≡ take n at = rw c.rest.ensures at c.split_at.ensures.front in
    let behind-is : behind ≡ drop n at = rw c.rest.ensures at c.split_at.ensures.back in
    let e = c.in-Err.error in
    let cut : ((length behind == 0) && is_none (error_len e)) ≡ false = cc in
    let rest-is : c.skip-in-Err.new.self ≡ drop (valid_up_to e) at = rw c.valid_up_to.ensures at c.skip-in-Err.ensures in
    rw c.fault-in-Err.ensures (run_ill_formed at front behind c.skip-in-Err.new.self n (valid_up_to e) (error_len e) n-is front-is behind-is c.in-Err.ensures.cases.0 c.in-Err.ensures.valid_len c.in-Err.ensures.fault cut rest-is)
