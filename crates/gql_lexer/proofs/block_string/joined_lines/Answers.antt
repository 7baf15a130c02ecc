use Rattle.std.proofs.Common.{◌∙◌, sym, map}
use Rattle.gql_lexer.specs.bridge.BlockWriting.{following, without_indent}
use Rattle.gql_lexer.proofs.BlockValue.{unindented-lines}
use Rattle.gql_lexer.proofs.block_string.joined_lines.Goals as goal

pub lines-init : goal.lines-init
lines-init c =
    let taken = rw (c.new-text.ensures.bytes, c.new-white.ensures.bytes) at c.in_ok-push_line.ensures in
    let behind = c.split_line.result.1.now in
    let n = c.common_indent-common.result in (
      c.split_line.ensures.text,
      taken.value (map (λ line. without_indent n line) (following behind))
          ∙ sym (unindented-lines c.args.raw.now c.split_line.result.0.now (following behind) n c.split_line.ensures.lines c.common_indent-common.ensures),
      c.split_line.ensures.ascii,
      taken.empty,
    )
