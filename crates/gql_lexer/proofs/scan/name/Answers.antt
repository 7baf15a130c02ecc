use Rattle.std.proofs.Common.{◌∙◌, sym, ap, zero-add}
use Rattle.std.specs.List.{prefix_len}
use Rattle.gql_lexer.specs.Class.{is_name_continue}
use Rattle.gql_lexer.specs.bridge.Lex.{token}
use Rattle.gql_lexer.specs.declared.token.TokenKind.TheVariants.{Name}
use Rattle.gql_lexer.proofs.Runs.{prefix_len-first}
use Rattle.gql_lexer.proofs.scan.name.Goals as goal

pub returns-clause-value : goal.returns-clause-value
returns-clause-value c =
    let at = c.args.at.now in
    ap (token Name) (c.past.ensures.value ∙ sym (zero-add (prefix_len is_name_continue at) ∙ prefix_len-first is_name_continue at c.requires.some c.requires.start))
