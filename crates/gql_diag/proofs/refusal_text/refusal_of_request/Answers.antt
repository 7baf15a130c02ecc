use Rattle.std.proofs.Common.{sym}
use Rattle.gql_response.specs.RequestFault.{request_error}
use Rattle.gql_diag.proofs.Texts.{one_error_text}
use Rattle.gql_diag.proofs.refusal_text.refusal_of_request.Goals as goal

pub returns : goal.returns
returns c =
    rw (c.in_ok-from_vec.ensures.ok, c.into_bytes.ensures.value, c.in_ok-push_str-2.ensures.bytes, c.in_ok-append_request.ensures, c.in_ok-push_str.ensures.bytes, c.new-out.ensures.bytes)
    (sym (one_error_text (request_error c.args.error.now c.args.sources.now)))
