use Rattle.std.proofs.Common.{length, drop}
use Rattle.gql_lexer.proofs.Steps.{left, reads, fails, not_empty}
use Rattle.gql_lexer.proofs.Only.{stands_one}
use Rattle.gql_lexer.proofs.lexer.Lexer.next_token.Goals as goal

pub returns-in-Ok-clause-token : goal.returns-in-Ok-clause-token
returns-in-Ok-clause-token c =
    let e = left c.as_bytes.result.now c.self.inside.text.now c.self.inside.place c.as_bytes.ensures.value in
    rw (← c.self.view_is)
    (reads c.self.inside.text.now c.self.inside.place c.in-Ok.kind c.in-Ok.len (rw c.as_bytes.ensures.value at c.as_bytes.ensures.utf8) c.self.invariant
    (rw e at c.in-Ok.ensures.value) (rw e at c.in-Ok.ensures.within))

pub invariant_of-self : goal.invariant_of-self
invariant_of-self c =
    let e = left c.as_bytes.result.now c.self.inside.text.now c.self.inside.place c.as_bytes.ensures.value in
    let read = reads c.self.inside.text.now c.self.inside.place c.in-Ok.kind c.in-Ok.len (rw c.as_bytes.ensures.value at c.as_bytes.ensures.utf8) c.self.invariant
    (rw e at c.in-Ok.ensures.value) (rw e at c.in-Ok.ensures.within) in
    read.ends_character

pub returns-in-Err-clause-fault : goal.returns-in-Err-clause-fault
returns-in-Err-clause-fault c =
    let e = left c.as_bytes.result.now c.self.inside.text.now c.self.inside.place c.as_bytes.ensures.value in
    rw (← c.self.view_is)
    (fails c.self.inside.text.now c.self.inside.place c.in-Err.found (rw c.as_bytes.ensures.value at c.as_bytes.ensures.utf8) c.self.invariant
    (not_empty (length (drop c.self.inside.place c.self.inside.text.now)) (rw e at c.if-is_empty.ensures))
    (rw e at c.in-Err.ensures.value) (rw e at c.in-Err.ensures.within))

pub returns-in-Ok-clause-one : goal.returns-in-Ok-clause-one
returns-in-Ok-clause-one c h = stands_one _

pub returns-in-Err-clause-one : goal.returns-in-Err-clause-one
returns-in-Err-clause-one c h = stands_one _
