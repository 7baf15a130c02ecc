use Rattle.gql_diag.proofs.Texts.{place_text}
use Rattle.gql_diag.proofs.error_text.append_place.Goals as goal

pub returns : goal.returns
returns c =
    rw (c.in_ok-push_str-3.ensures.bytes, c.in_ok-append_whole-2.ensures, c.in_ok-push_str-2.ensures.bytes, c.in_ok-append_whole.ensures, c.in_ok-push_str.ensures.bytes)
    (place_text c.args.place _)
