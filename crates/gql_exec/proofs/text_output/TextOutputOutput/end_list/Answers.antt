use Rattle.std.proofs.Common.{rules, arith, ◌≡◌, ◌-◌, length, get_or, string_bytes, ap, ◌∙◌}
use Rattle.gql_exec.proofs.OpenTexts.{comma-last, list-ended, list-empty}
use Rattle.gql_exec.proofs.Outputs.{ok-text, ok-then}
use Rattle.gql_exec.proofs.text_output.TextOutputOutput.end_list.Goals as goal
use Rattle.gql_exec.proofs.text_output.TextOutputOutput.end_list.Goals.{then-list-end, else-list-end}

pub truncate-requires : goal.truncate-requires
truncate-requires c =
    let n = c.len-end.result in
    let old = c.args.self.now in
    let text = string_bytes c.self.inside.text in
    let long : n ≡ length old = search rules in
    let same : length text ≡ length old = ap length c.self.view_is in
    let last : get_or text (n - 1) 0 ≡ 44 =
    ap (λ t. get_or t (n - 1) 0) c.self.view_is ∙ comma-last c.requires.0 old c.args.list n long c.requires.1 c.requires.2 c.if-list-end.true in
    λ within. (omega (arith, long, same), λ some before wide. omega (arith, last, wide))

pub returns : goal.returns
returns c =
    let n = c.len-end.result in
    let old = c.args.self.now in
    let long : n ≡ length old = search rules in
    ok-then c.push_str.result _ _
    (λ added start values is. added ∙ elim c.if-list-end.branch [
      | then-list-end w ↦ rw (w.self-inside-is, w.truncate.ensures.bytes, c.self.view_is) (list-ended start old c.args.list n long values is w.if-list-end.true)
      | else-list-end w ↦ rw (w.self-inside-is, c.self.view_is) (list-empty start old c.args.list n long values is (λ more. search rules))
    ])
    (ok-text c.push_str.result _ _ _ c.push_str.ensures.bytes)
