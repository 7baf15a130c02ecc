-- Items that are no answers, and items that are told one by one.
use Rattle.std.proofs.Common.{arith, ◌≡◌, ℕ, zero, suc, ◌+◌, true, false, List, [], ◌∷◌, Option, Some, None, is_some, IfErr, Result, Ok, Err, slice_get, take, ap, sym, subst}
use Rattle.std.specs.Option.{option_map}
use Rattle.jb_tree.specs.declared.value.Value.{Value}
use Rattle.std.specs.List.{AllByRecursion}
use Rattle.jb_read.specs.Spelling.{JsonText}
use Rattle.jb_text.specs.declared.refused.Refused.{Refused}
use Rattle.jb_text.specs.declared.refused.Refused.TheVariants.{Fault, Memory}
use Rattle.jb_tree.specs.declared.value.Value.TheVariants as json
use Rattle.gql_rounds.specs.declared.answers_json.AnswersFault.{AnswersFault}
use Rattle.gql_rounds.specs.Told.{IsAnswer, LeavesTable, TellsFirst, TellsSome, first, all_told, answer_in, told_answer}
use Rattle.gql_rounds.specs.bridge.Told.{seen}
use Rattle.gql_rounds.specs.Table.{Table}
use Rattle.gql_rounds.specs.declared.answers_json.Answer.{Answer}

-- where the code finds no answer there is none
pub none-seen : (found : Option Answer) (answer : Option (List ℕ × Value)) → option_map seen found ≡ answer → is_some found ≡ false → answer ≡ None
none-seen None answer same none = sym same
none-seen (Some found) answer same none = absurd (let e : true ≡ false = none in cc)

next : (table : Table) (items : List Value) (index : ℕ) (item : Value) → slice_get items index ≡ Some item
    → all_told table (take (suc index) items) ≡ told_answer (all_told table (take index items)) (answer_in item)
next table [] index item at = absurd (let e : None ≡ Some item = at in cc)
next table (x ∷ xs) zero item at = let same : x ≡ item = (let e : Some x ≡ Some item = at in cc) in ap (λ (y : Value). told_answer table (answer_in y)) same
next table (x ∷ xs) (suc index) item at = next (told_answer table (answer_in x)) xs index item at

-- one more is told
pub told-next : (table : Table) (items : List Value) (index : ℕ) (item : Value) → slice_get items index ≡ Some item
    → all_told table (take (index + 1) items) ≡ told_answer (all_told table (take index items)) (answer_in item)
told-next table items index item at =
    let same : suc index ≡ index + 1 = omega arith in
    subst (λ n. all_told table (take n items) ≡ told_answer (all_told table (take index items)) (answer_in item)) same (next table items index item at)

-- of the items of a text some first ones are told, so of the text
left-of : (text : List ℕ) (items : List Value) → JsonText text (json.Array items) → (old new : Table) (refused : Refused AnswersFault)
    → LeavesTable (AllByRecursion IsAnswer items × TellsFirst items old new) refused old new → LeavesTable (TellsSome text old new) refused old new
left-of text items read old new (Fault fault) left = left
left-of text items read old new Memory left = first items read left.0 left.1

pub some-left : (text : List ℕ) (items slice : List Value) → JsonText text (json.Array items) → slice ≡ items → (old new : Table)
    (result : Result (Unit {0}) (Refused AnswersFault))
    → IfErr result (λ refused. LeavesTable (AllByRecursion IsAnswer slice × TellsFirst slice old new) refused old new)
    → IfErr result (λ refused. LeavesTable (TellsSome text old new) refused old new)
some-left text items slice read same old new (Ok done) left = tt
some-left text items slice read same old new (Err refused) left =
    left-of text slice (subst (λ (l : List Value). JsonText text (json.Array l)) (sym same) read) old new refused left
