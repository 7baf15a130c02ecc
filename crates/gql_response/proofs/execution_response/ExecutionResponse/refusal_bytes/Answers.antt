use Rattle.std.proofs.Common.{map, sym}
use Rattle.gql_response.specs.Response.{error_value}
use Rattle.gql_response.proofs.Texts.{list_text}
use Rattle.gql_response.proofs.execution_response.ExecutionResponse.refusal_bytes.Goals as goal

pub returns : goal.returns
returns c =
    rw (c.in_ok-from_vec.ensures.ok, c.into_bytes.ensures.value, c.in_ok-push_str-2.ensures.bytes, c.in_ok-append_list.ensures, c.in_ok-push_str.ensures.bytes, c.in_ok-out.ensures.bytes)
    (sym (list_text (map error_value c.args.errors.now)))
