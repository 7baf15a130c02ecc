use Rattle.std.proofs.Common.{option_to_list}
use Rattle.gql_diag.proofs.Texts.{error_text}
use Rattle.gql_diag.proofs.error_text.append_error.Goals as goal

pub returns : goal.returns
returns c =
    rw (c.in_ok-push_str-2.ensures.bytes, c.in_ok-append_mark.ensures, c.in_ok-append_places.ensures, c.in_ok-append_string.ensures, c.in_ok-push_str.ensures.bytes)
    (error_text c.args.message.now (option_to_list c.args.place) c.args.marked _)
