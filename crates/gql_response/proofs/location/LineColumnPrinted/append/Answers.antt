use Rattle.jb_print.specs.Compact.{compact}
use Rattle.jb_print.proofs.Compacts.{compact-Object}
use Rattle.gql_response.proofs.Texts.{two_members}
use Rattle.gql_response.proofs.location.LineColumnPrinted.append.Goals as goal

pub returns : goal.returns
returns c =
    rw (c.in_ok-push_str-2.ensures.bytes, c.in_ok-append_whole-2.ensures, c.in_ok-append_key-2.ensures, c.in_ok-append_whole.ensures, c.in_ok-append_key.ensures, c.in_ok-push_str.ensures.bytes, compact-Object)
    (two_members _ _ _ _ _)
