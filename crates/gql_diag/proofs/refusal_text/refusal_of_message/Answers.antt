use Rattle.std.proofs.Common.{sym}
use Rattle.gql_diag.proofs.Texts.{refusal_text}
use Rattle.gql_diag.proofs.refusal_text.refusal_of_message.Goals as goal

pub returns : goal.returns
returns c =
    rw (c.in_ok-from_vec.ensures.ok, c.into_bytes.ensures.value, c.in_ok-push_str-2.ensures.bytes, c.in_ok-append_string.ensures, c.in_ok-push_str.ensures.bytes, c.new-out.ensures.bytes)
    (sym (refusal_text c.args.message.now))
