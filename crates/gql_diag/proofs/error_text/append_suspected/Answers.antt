use Rattle.std.proofs.Common.{◌++◌, ap, string_bytes}
use Rattle.gql_diag.proofs.Texts.{mark_text}
use Rattle.gql_diag.proofs.error_text.append_suspected.Goals as goal

pub returns : goal.returns
returns c = rw c.in_ok-push_str.ensures.bytes (ap (λ text. string_bytes c.args.out.now ++ text) mark_text)
