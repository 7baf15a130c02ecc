use Rattle.std.proofs.Common.{◌≡◌, ◌∙◌, ap, zero-add}
use Rattle.std.specs.List.{prefix_len}
use Rattle.std.proofs.lemmas.Str.{IsUtf8-drop}
use Rattle.gql_lexer.specs.Lex.{is_in}
use Rattle.gql_lexer.proofs.Cuts.{run-bound}
use Rattle.gql_lexer.proofs.cut.split_run.Goals as goal

pub split_at-requires : goal.split_at-requires
split_at-requires c =
    let e : c.past.result ≡ prefix_len (is_in c.args.run) c.args.s.now =
    c.past.ensures.value ∙ zero-add (prefix_len (is_in c.args.run) c.as_bytes.result.now) ∙ ap (prefix_len (is_in c.args.run)) c.as_bytes.ensures.value in
    rw e (run-bound (is_in c.args.run) c.args.s.now c.requires)

pub returns-clause-text : goal.returns-clause-text
returns-clause-text c =
    let e : c.past.result ≡ prefix_len (is_in c.args.run) c.args.s.now =
    c.past.ensures.value ∙ zero-add (prefix_len (is_in c.args.run) c.as_bytes.result.now) ∙ ap (prefix_len (is_in c.args.run)) c.as_bytes.ensures.value in
    rw (c.split_at.ensures.back, e)
    (IsUtf8-drop c.args.s.now (prefix_len (is_in c.args.run) c.args.s.now) c.utf8.s (run-bound (is_in c.args.run) c.args.s.now c.requires))
