use Rattle.std.specs.Map.{lookup}
use Rattle.std.specs.Str.{bytes_eq}
use Rattle.gql_client_schema.specs.Members.{there, there_or, read_list_or_null}
use Rattle.gql_client_schema.proofs.reading.required.Goals as goal

pub returns : goal.returns
returns g c = c.in_member.ensures (there g.T.Read.reading (lookup (bytes_eq c.args.name.now) c.args.members.now)) (rw c.get.ensures at c.there.ensures)
