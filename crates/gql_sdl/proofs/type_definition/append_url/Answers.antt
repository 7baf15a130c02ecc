use Rattle.std.proofs.Common.{codes, string_bytes}
use Rattle.gql_sdl.specs.Forms.{string_text}
use Rattle.gql_sdl.proofs.Texts.{pushed}
use Rattle.gql_sdl.proofs.type_definition.append_url.Goals as goal

pub returns : goal.returns
returns c =
    pushed c.push_str-2.result (string_bytes c.push_str-2.new.self) (string_bytes c.append_text.new.out) (string_bytes c.push_str.new.self)
    (string_bytes c.args.out.now) (codes " @specifiedBy(url: ") (string_text c.args.url.now) (codes ")")
    c.in_ok-push_str.ensures.bytes c.in_ok-append_text.ensures c.push_str-2.ensures.bytes
