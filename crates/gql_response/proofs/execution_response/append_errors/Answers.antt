use Rattle.std.proofs.Common.{sym, ◌∙◌, string_bytes}
use Rattle.gql_response.proofs.Texts.{errors_first}
use Rattle.gql_response.proofs.execution_response.append_errors.Goals as goal

pub returns : goal.returns
returns c = λ member.
    rw (c.in_ok-push_str.ensures.bytes, c.in_ok-append_list.ensures, c.in_ok-append_key.ensures)
    (errors_first (string_bytes c.args.out.now) c.args.errors.now member (sym c.is_empty.ensures ∙ c.if-is_empty.false))
