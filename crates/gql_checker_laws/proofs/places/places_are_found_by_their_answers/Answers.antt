use Rattle.gql_checker_laws.proofs.Ending.{idle-none, idle-not, outcome-fault, outcome-place, place-misfit, place-leaf, place-skip, place-list, place-object}
use Rattle.gql_checker_laws.proofs.places.places_are_found_by_their_answers.Goals as goal

pub returns-clause-idle : goal.returns-clause-idle
returns-clause-idle types c v cs f e = idle-none v cs f e

pub returns-clause-busy : goal.returns-clause-busy
returns-clause-busy types c v cs f e = idle-not v cs f e

pub returns-clause-unasked : goal.returns-clause-unasked
returns-clause-unasked types c w run spot fault v cs busy = outcome-fault w run spot fault v cs busy

pub returns-clause-asked : goal.returns-clause-asked
returns-clause-asked types c w run spot m v cs busy = outcome-place w run spot m v cs busy

pub returns-clause-misfit : goal.returns-clause-misfit
returns-clause-misfit types c w run spot m misfit v cs is = place-misfit w run spot m misfit v cs is

pub returns-clause-leaf : goal.returns-clause-leaf
returns-clause-leaf types c w run spot leaf v cs fits = place-leaf w run spot leaf v cs fits

pub returns-clause-skip : goal.returns-clause-skip
returns-clause-skip types c w run spot v cs fits = place-skip w run spot v cs fits

pub returns-clause-list : goal.returns-clause-list
returns-clause-list types c w run spot ms v cs fits = place-list w run spot ms v cs fits

pub returns-clause-object : goal.returns-clause-object
returns-clause-object types c w run spot x U v cs fits typed = place-object w run spot x U v cs fits typed
