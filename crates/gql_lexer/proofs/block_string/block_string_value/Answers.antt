use Rattle.std.proofs.Common.{◌≡◌, ◌∙◌, ap, sym, zero-add, length, ◌-◌, ◌&&◌}
use Rattle.std.specs.Prelude.{nat_le}
use Rattle.std.specs.List.{prefix_len}
use Rattle.std.proofs.lemmas.Bool.{leb-true}
use Rattle.gql_lexer.specs.Lex.{is_block_quote}
use Rattle.gql_lexer.specs.BlockString.{raw_value, lines, unindented, joined, block_string_value}
use Rattle.gql_lexer.proofs.BlockValue.{is_other, raw_value-same}
use Rattle.gql_lexer.proofs.Choices.{both}
use Rattle.gql_lexer.proofs.block_string.block_string_value.Goals as goal

pub returns-then-past-text : goal.returns-then-past-text
returns-then-past-text c =
    let text = c.between_quotes-text.result.now in
    let whole : prefix_len is_other text ≡ length text =
    ap (prefix_len is_other) (sym c.as_bytes.ensures.value) ∙ sym (zero-add (prefix_len is_other c.as_bytes.result.now)) ∙ sym c.past.ensures.value ∙ c.if-past-text.true in
    let e : joined (unindented (lines text)) ≡ block_string_value c.args.token.now =
    ap (λ t. joined (unindented (lines t))) (sym (raw_value-same text whole) ∙ ap raw_value c.between_quotes-text.ensures) in
    rw e at c.joined_lines.ensures

pub between_quotes-text-requires : goal.between_quotes-text-requires
between_quotes-text-requires c =
    let token = c.args.token.now in
    let parts = both (nat_le 6 (length token) && is_block_quote token 0) (is_block_quote token (length token - 3)) c.requires in
    let front = both (nat_le 6 (length token)) (is_block_quote token 0) parts.0 in
    record { opens = front.1; closes = parts.1; apart = leb-true 6 (length token) front.0 }
