use Rattle.std.proofs.Common.{◌≡◌, min, ◌∙◌, ap}
use Rattle.gql_lexer.specs.BlockString.{white_len}
use Rattle.gql_lexer.proofs.Cuts.{indent-bound}
use Rattle.gql_lexer.proofs.block_string.without_indent.Goals as goal

pub range_from-requires : goal.range_from-requires
range_from-requires c _ =
    let e : c.min.result ≡ min c.args.n (white_len c.args.line.now) =
    c.min.ensures ∙ ap (λ k. min c.args.n k) (c.white_len.ensures.value ∙ ap white_len c.as_bytes.ensures.value) in
    rw e (indent-bound c.args.line.now c.args.n c.utf8.line)
