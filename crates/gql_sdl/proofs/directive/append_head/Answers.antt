use Rattle.std.proofs.Common.{codes, string_bytes}
use Rattle.gql_sdl.specs.Forms.{described}
use Rattle.gql_sdl.proofs.Texts.{pushed}
use Rattle.gql_sdl.proofs.directive.append_head.Goals as goal

pub returns : goal.returns
returns c =
    pushed c.push_str-2.result (string_bytes c.push_str-2.new.self) (string_bytes c.push_str.new.self) (string_bytes c.append_description.new.out)
    (string_bytes c.args.out.now) (described c.args.directive.now.description) (codes "directive @") c.args.directive.now.name.text
    (rw c.as_ref.ensures.value at c.in_ok-append_description.ensures) c.in_ok-push_str.ensures.bytes (rw c.as_str.ensures.text at c.push_str-2.ensures.bytes)
