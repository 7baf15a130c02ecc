use Rattle.std.proofs.Common.{map, sym}
use Rattle.gql_diag.specs.Refusal.{errors_of}
use Rattle.gql_response.proofs.Texts.{list_text}
use Rattle.gql_response.specs.Response.{error_value}
use Rattle.gql_diag.proofs.refusal_text.refusal_of_diagnostics.Goals as goal

pub returns : goal.returns
returns c =
    rw (c.in_ok-from_vec.ensures.ok, c.into_bytes.ensures.value, c.in_ok-push_str-2.ensures.bytes, c.in_ok-append_errors.ensures, c.in_ok-push_str.ensures.bytes, c.new-out.ensures.bytes, c.as_slice.ensures.value, c.into_parts-sources.ensures.items, c.into_parts-sources.ensures.sources)
    (sym (list_text (map error_value (errors_of c.args.list))))
