use Rattle.std.proofs.Common.{rules, ◌≡◌, Some}
use Rattle.std.specs.Option.{option_copied}
use Rattle.gql_resolvers.specs.Fit.{wrong, member_misfit}
use Rattle.gql_resolvers.specs.Messages as message
use Rattle.gql_resolvers.proofs.Refusing.{refused}
use Rattle.gql_resolvers.proofs.fitting.member.Goals as goal

pub returns-in-None : goal.returns-in-None
returns-in-None c =
    let T = c.args.name.now in
    let found = c.args.found.now in
    let is : member_misfit (option_copied c.args.object) c.args.members.now T found ≡ Some (wrong (message.object_not_defined found)) = search rules in
    refused (option_copied c.args.object) (member_misfit (option_copied c.args.object) c.args.members.now T found) (wrong (message.object_not_defined found)) c.refuse.result is
    (c.refuse.ensures (message.object_not_defined found) c.object_not_defined.ensures)

pub returns-in-Some-2 : goal.returns-in-Some-2
returns-in-Some-2 c =
    let T = c.args.name.now in
    let found = c.args.found.now in
    let is : member_misfit (option_copied c.args.object) c.args.members.now T found ≡ Some (wrong (message.no_member found T)) = search rules in
    refused (option_copied c.args.object) (member_misfit (option_copied c.args.object) c.args.members.now T found) (wrong (message.no_member found T)) c.refuse-in-Some-2.result is
    (c.refuse-in-Some-2.ensures (message.no_member found T) c.no_member.ensures)
