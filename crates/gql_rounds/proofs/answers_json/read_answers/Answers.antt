use Rattle.std.proofs.Common.{◌≡◌}
use Rattle.gql_rounds.proofs.Items.{some-left}
use Rattle.gql_rounds.proofs.answers_json.read_answers.Goals as goal

pub returns-in-Ok-Array-clause-left : goal.returns-in-Ok-Array-clause-left
returns-in-Ok-Array-clause-left c =
    let same : c.as_slice.result.now ≡ c.in-Ok-Array.items = cc (c.as_slice.ensures, c.in-Ok-Array.items-is) in
    some-left c.args.text.now c.in-Ok-Array.items c.as_slice.result.now (rw c.in-Ok-Array.field-0-is at c.in-Ok-Array.ensures.spelled) same
    c.args.answers.now c.add_answers.new.answers c.add_answers.result c.add_answers.ensures.left
