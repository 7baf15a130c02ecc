-- What the program reads and writes.
use Rattle.std.specs.Prelude.{ℕ, List, String, [], ◌∷◌, Option, Some, None, codes}
use Rattle.std.specs.declared.alloc.Global.{Global}
use Rattle.gql_engine.specs.Request.{Asked}
use Rattle.gql_engine.specs.declared.request_form.RequestForm.{RequestForm}
use Rattle.gql_engine.specs.declared.request_form.RequestForm.TheVariants as forms
use Rattle.gql_engine.specs.Serving.{line}
use Rattle.gql_gateway.specs.Command.{Answers, MustAnswer, MustRefuse, Refuses}
use Rattle.gql_gateway.specs.declared.command.Gateway.{Gateway}

-- what is written where there are words
abbrev pub usage : List ℕ
usage = line (codes "usage: gql_gateway")

-- no words
abbrev pub gateway_asked : List (String Global) → Option Gateway
gateway_asked [] = Some (record {})
gateway_asked (word ∷ words) = None

abbrev pub plain_form : Gateway → RequestForm
plain_form gateway = forms.Plain

-- however many looks at selections were counted
abbrev pub CountedAnswers : Gateway → Asked → ℕ → ℕ → List ℕ → Type 0
CountedAnswers gateway request before after text = Answers request text

abbrev pub GatewayRefuses : Gateway → Asked → List ℕ → Type 0
GatewayRefuses gateway = Refuses

abbrev pub GatewayMust : Gateway → Asked → Type 0
GatewayMust gateway = MustAnswer

abbrev pub GatewayMustNot : Gateway → Asked → Type 0
GatewayMustNot gateway = MustRefuse
