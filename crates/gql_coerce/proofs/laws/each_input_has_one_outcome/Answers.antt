use Rattle.gql_coerce.specs.InputValue.{coerced}
use Rattle.gql_coerce.specs.LiteralValue.{coerced_literal}
use Rattle.gql_coerce.specs.Variables.{coerced_variables}
use Rattle.gql_coerce.specs.Arguments.{coerced_arguments}
use Rattle.gql_coerce.proofs.Outcomes.{one_of_both}
use Rattle.gql_coerce.proofs.laws.each_input_has_one_outcome.Goals as goal

pub returns-clause-values : goal.returns-clause-values
returns-clause-values c = λ types d ty value. one_of_both (coerced types value d ty)

pub returns-clause-literals : goal.returns-clause-literals
returns-clause-literals c = λ types env d ty literal. one_of_both (coerced_literal types env literal d ty)

pub returns-clause-variables : goal.returns-clause-variables
returns-clause-variables c = λ types definitions values. one_of_both (coerced_variables types definitions values)

pub returns-clause-arguments : goal.returns-clause-arguments
returns-clause-arguments c = λ types env definitions arguments. one_of_both (coerced_arguments types env definitions arguments)
