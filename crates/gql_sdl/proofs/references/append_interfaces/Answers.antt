use Rattle.std.proofs.Common.{◌∙◌, sym, string_bytes}
use Rattle.gql_sdl.proofs.Texts.{implements_behind}
use Rattle.gql_sdl.proofs.references.append_interfaces.Goals as goal

pub returns : goal.returns
returns c =
    implements_behind c.append_joined.result (string_bytes c.append_joined.new.out) (string_bytes c.push_str.new.self) (string_bytes c.args.out.now)
    c.args.interfaces.now (sym c.is_empty.ensures ∙ c.if-is_empty.false) c.in_ok-push_str.ensures.bytes c.append_joined.ensures
