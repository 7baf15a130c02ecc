use Rattle.std.proofs.Common.{rules, ◌≡◌, ◌++◌, length, codes, string_bytes, refl, ap, ◌∙◌}
use Rattle.std.proofs.lemmas.Result.{on_ok_weaker}
use Rattle.jb_print.specs.bridge.Pieces.{comma_after}
use Rattle.gql_exec.proofs.QuotedNames.{key-written}
use Rattle.gql_exec.proofs.Outputs.{ok-text}
use Rattle.gql_exec.proofs.text_output.TextOutputOutput.begin_member.Goals as goal

pub returns : goal.returns
returns c =
    let old = c.args.self.now in
    let opening = comma_after c.args.object.now.later ++ codes "\"" in
    let key = c.args.key.now.text in
    let last : c.len-object.result ≡ length old = search rules in
    let named =
    c.in_ok-push_str.ensures.bytes ∙ ap (λ n. string_bytes c.write_opening.new.text ++ n) c.as_str.ensures.text
    ∙ ap (λ t. t ++ key) (c.in_ok-write_opening.ensures ∙ ap (λ t. t ++ opening) c.self.view_is) in
    on_ok_weaker c.push_str-2.result
    (λ added start so_far is.
    key-written start old _ c.args.object.now _ so_far key opening is c.as_str.ensures.name refl refl last refl (added ∙ ap (λ t. t ++ codes "\":") named))
    (ok-text c.push_str-2.result _ _ _ c.push_str-2.ensures.bytes)
