-- What a task writes.
use Rattle.std.specs.Prelude.{◌≡◌, ◌≤◌, ◌+◌, ℕ, List, ◌++◌, length, ◌⊎◌, codes}
use Rattle.std.specs.Fmt.{decimal}
use Rattle.gql_engine.specs.Answered.{errors_in}
use Rattle.gql_engine.specs.SelfTest.{self_test}
use Rattle.gql_engine.specs.Reply.{Answers, AreReports, Passes, Refuses, SaysNotAsked}
use Rattle.gql_engine.specs.Serving.{line}
use Rattle.gql_engine.specs.declared.task.Task.{Task}
use Rattle.gql_engine.specs.declared.task.Task.TheVariants.{Request, SelfTest}
use Rattle.gql_engine.specs.declared.task.Wish.TheVariants.{Answer, Check}

-- the text is one line, of which this holds
pub record Line (Holds : List ℕ → Type 0) (text : List ℕ) : Type 0 where
  pub within : List ℕ
  pub holds : Holds within
  pub is : text ≡ line within

-- how long the response to the self-test's request is, and how many errors it has
abbrev pub summary : ℕ → ℕ → ℕ → List ℕ
summary items bytes errors =
    codes "selftest " ++ (decimal items ++ (codes ": " ++ (decimal bytes ++ (codes " bytes, " ++ (decimal errors ++ codes " errors")))))

-- and it takes few looks, however many items there are
pub record Measures (before after items : ℕ) (text : List ℕ) : Type 0 where
  pub response : List ℕ
  pub answers : Answers before after (self_test items) response
  pub few : after ≤ before + 9
  pub told : text ≡ summary items (length response) (errors_in answers.answered)

-- what was asked for: the response, `ok` where nothing is wrong with the texts, or the summary
abbrev pub IsDone : Task → (before after : ℕ) → List ℕ → List ℕ → Type 0
IsDone (Request Answer) before after bytes text = Line (Answers before after bytes) text
IsDone (Request Check) before after bytes text = Passes bytes × (text ≡ line (codes "ok"))
IsDone (SelfTest items) before after bytes text = Line (Measures before after items) text

-- why it is refused, or what is wrong with the texts; a self-test is not refused
abbrev pub IsRefused : Task → List ℕ → List ℕ → Type 0
IsRefused (Request Answer) bytes text = Line (Refuses bytes) text
IsRefused (Request Check) bytes text = Line (SaysNotAsked bytes) text ⊎ AreReports bytes text
IsRefused (SelfTest items) bytes text = ⊥
