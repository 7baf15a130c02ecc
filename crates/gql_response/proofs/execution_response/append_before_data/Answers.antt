use Rattle.std.proofs.Common.{ℕ, List, [], ◌∷◌, ◌++◌, false, map, codes, string_bytes}
use Rattle.jb_print.specs.Compact.{compact}
use Rattle.jb_print.specs.Quoted.{quoted}
use Rattle.jb_print.specs.bridge.Pieces.{pieces_text, member_piece}
use Rattle.jb_print.proofs.Compacts.{compact-Object}
use Rattle.gql_response.specs.Response.{Member, data_value, error_value, list_member}
use Rattle.gql_response.proofs.Texts.{response_text}
use Rattle.gql_response.proofs.execution_response.append_before_data.Goals as goal

pub returns : goal.returns
returns c = λ root.
    let last : Member = (codes "data", data_value root) in
    let all : List ℕ = pieces_text false (map member_piece (list_member (codes "errors") (map error_value c.args.errors.now) ++ last ∷ [])) in
    let before = rw (c.in_ok-push_str.ensures.bytes) at (c.in_ok-append_errors.ensures last) in
    rw (c.in_ok-append_key.ensures, compact-Object)
    (response_text (string_bytes c.append_errors.new.out) (string_bytes c.args.out.now) all (quoted (codes "data") ++ codes ":") (compact last.1) before)
