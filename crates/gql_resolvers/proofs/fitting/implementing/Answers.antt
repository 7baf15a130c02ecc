use Rattle.std.proofs.Common.{rules, ◌≡◌, Some}
use Rattle.std.specs.Option.{option_copied}
use Rattle.gql_resolvers.specs.Fit.{wrong, implementing_misfit}
use Rattle.gql_resolvers.specs.Messages as message
use Rattle.gql_resolvers.proofs.Refusing.{refused}
use Rattle.gql_resolvers.proofs.fitting.implementing.Goals as goal

pub returns-in-None : goal.returns-in-None
returns-in-None c =
    let T = c.args.name.now in
    let found = c.args.found.now in
    let is : implementing_misfit (option_copied c.args.object) T found ≡ Some (wrong (message.object_not_defined found)) = search rules in
    refused (option_copied c.args.object) (implementing_misfit (option_copied c.args.object) T found) (wrong (message.object_not_defined found)) c.refuse.result is
    (c.refuse.ensures (message.object_not_defined found) c.object_not_defined.ensures)

pub returns-in-Some-2 : goal.returns-in-Some-2
returns-in-Some-2 c =
    let T = c.args.name.now in
    let found = c.args.found.now in
    let is : implementing_misfit (option_copied c.args.object) T found ≡ Some (wrong (message.no_implementer found T)) = search rules in
    refused (option_copied c.args.object) (implementing_misfit (option_copied c.args.object) T found) (wrong (message.no_implementer found T)) c.refuse-in-Some-2.result is
    (c.refuse-in-Some-2.ensures (message.no_implementer found T) c.no_implementer.ensures)
