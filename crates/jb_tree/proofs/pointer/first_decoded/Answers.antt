use Rattle.std.proofs.Common.{arith}
use Rattle.jb_tree.proofs.Tokens.{byte_plain, byte_alone, byte_slash, byte_tilde, byte_stray}
use Rattle.jb_tree.proofs.pointer.first_decoded.Goals as goal

pub returns-then-byte-ne126 : goal.returns-then-byte-ne126
returns-then-byte-ne126 c =
    let at = c.in-Some.ensures.cases in
    (byte_plain c.args.token.now c.in-Some.rest.now c.in-Some.first.now at.0 c.if-byte-ne126.true, omega (arith, at.1))

pub returns-in_default-split_first : goal.returns-in_default-split_first
returns-in_default-split_first c =
    let at = c.in-Some.ensures.cases in
    (byte_alone c.args.token.now c.in-Some.rest.now c.in-Some.first.now at.0 c.if-byte-ne126.false c.in_default-split_first.ensures.cases, omega (arith, at.1))

pub returns-then-second-eq49 : goal.returns-then-second-eq49
returns-then-second-eq49 c =
    let at = c.in-Some.ensures.cases in
    let next = c.in-Some-split_first.ensures.cases in
    (byte_slash c.args.token.now c.in-Some.rest.now c.in-Some.first.now at.0 c.if-byte-ne126.false c.in-Some-split_first.second.now c.in-Some-split_first.more.now next.0 c.if-second-eq49.true, omega (arith, at.1, next.1))

pub returns-then-second-eq48 : goal.returns-then-second-eq48
returns-then-second-eq48 c =
    let at = c.in-Some.ensures.cases in
    let next = c.in-Some-split_first.ensures.cases in
    (byte_tilde c.args.token.now c.in-Some.rest.now c.in-Some.first.now at.0 c.if-byte-ne126.false c.in-Some-split_first.second.now c.in-Some-split_first.more.now next.0 c.if-second-eq48.true, omega (arith, at.1, next.1))

pub returns-else-second-eq48 : goal.returns-else-second-eq48
returns-else-second-eq48 c =
    let at = c.in-Some.ensures.cases in
    let next = c.in-Some-split_first.ensures.cases in
    (byte_stray c.args.token.now c.in-Some.rest.now c.in-Some.first.now at.0 c.if-byte-ne126.false c.in-Some-split_first.second.now c.in-Some-split_first.more.now next.0 c.if-second-eq49.false c.if-second-eq48.false, omega (arith, at.1))
