use Rattle.std.proofs.Common.{◌≡◌, ℕ, List, arith}
use Rattle.gql_engine.specs.DecimalWord.{IsDecimalWord}
use Rattle.gql_engine.specs.Task.{IsCount}
use Rattle.gql_engine.proofs.Results.{same_some}
use Rattle.gql_engine.proofs.task.count_in.Goals as goal

-- a number of items is a number of 32 bits
wide : (word : List ℕ) (n : ℕ) → IsCount word n → IsDecimalWord word n
wide word n is = (is.0, omega (arith, is.1))

pub returns-in_default : goal.returns-in_default
returns-in_default c = λ n given.
    let same : n ≡ c.in-Some.count =
    same_some c.decimal_word.result n c.in-Some.count (c.decimal_word.ensures.only n (wide c.args.word.now n given)) c.in-Some.is in
    omega (arith, same, given.1, c.if-count-le-MOST_ITEMS.false)
