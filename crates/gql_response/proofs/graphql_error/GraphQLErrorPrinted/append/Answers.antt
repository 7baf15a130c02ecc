use Rattle.jb_print.proofs.Compacts.{compact-Object}
use Rattle.gql_response.proofs.Texts.{compact-String, later_members, three_members}
use Rattle.gql_response.proofs.graphql_error.GraphQLErrorPrinted.append.Goals as goal

pub returns : goal.returns
returns c =
    rw (c.in_ok-push_str-2.ensures.bytes, c.in_ok-append_object_member.ensures, c.in_ok-append_list_member-2.ensures, c.in_ok-append_list_member.ensures, c.in_ok-append_string.ensures, c.in_ok-append_key.ensures, c.in_ok-push_str.ensures.bytes, c.as_str.ensures, c.as_slice.ensures, c.as_slice-2.ensures, compact-Object, later_members, later_members, compact-String)
    (three_members _ _ _ _ _ _)
