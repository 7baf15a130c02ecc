-- What the program reads and writes.
use Rattle.std.specs.Prelude.{ℕ, List, String, [], ◌∷◌, Option, Some, None, codes}
use Rattle.std.specs.declared.alloc.Global.{Global}
use Rattle.gql_engine.specs.Serving.{line}
use Rattle.gql_engine.specs.Request.{Asked}
use Rattle.gql_engine.specs.declared.request_form.RequestForm.{RequestForm}
use Rattle.gql_engine.specs.declared.request_form.RequestForm.TheVariants as forms
use Rattle.gql_checker.specs.Command.{Answers, MustAnswer, MustRefuse, Refuses}
use Rattle.gql_checker.specs.declared.command.CheckCommand.{CheckCommand}

-- what is written where there are words
abbrev pub usage : List ℕ
usage = line (codes "usage: gql_checker")

-- no words
abbrev pub check_asked : List (String Global) → Option CheckCommand
check_asked [] = Some (record {})
check_asked (word ∷ words) = None

abbrev pub with_response : CheckCommand → RequestForm
with_response command = forms.WithResponse

-- however many looks at selections were counted
abbrev pub CountedAnswers : CheckCommand → Asked → ℕ → ℕ → List ℕ → Type 0
CountedAnswers command request before after text = Answers request text

abbrev pub CheckRefuses : CheckCommand → Asked → List ℕ → Type 0
CheckRefuses command = Refuses

abbrev pub CheckMust : CheckCommand → Asked → Type 0
CheckMust command = MustAnswer

abbrev pub CheckMustNot : CheckCommand → Asked → Type 0
CheckMustNot command = MustRefuse
