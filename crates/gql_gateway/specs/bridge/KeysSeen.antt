-- The response keys of groups that were collected.
use Rattle.std.specs.Prelude.{List, map}
use Rattle.gql_collect.specs.Groups.{response_name}
use Rattle.gql_collect.specs.declared.group.Group.{Group}
use Rattle.gql_exec.specs.Restricted.{is_meta_name}
use Rattle.gql_gateway.specs.declared.root_key.RootKey.{RootKey}

abbrev pub key_seen : Group → RootKey
key_seen group = record { name = response_name group.first.now; here = is_meta_name group.first.now.name.text }

abbrev pub keys_seen : List Group → List RootKey
keys_seen groups = map key_seen groups
