-- What is told of a text, by what its parse came to.
use Rattle.std.proofs.Common.{◌≡◌, sym, subst, ◌∙◌}
use Rattle.std.specs.Str.{IsUtf8}
use Rattle.gql_cst.specs.Checked.{IsChecked}
use Rattle.gql_syntax_tool.specs.Reply.{limits, Refuses, no_text, broken}
use Rattle.gql_syntax_tool.specs.Start.{rule_of}
use Rattle.gql_syntax_tool.proofs.reply.StartCommand.reply.Goals as goal

pub returns-in_default : goal.returns-in_default
returns-in_default c =
    let same : c.args.bytes.now ≡ c.as_slice.result.now = cc in
    subst (Refuses c.args.self.now c.args.bytes.now) (sym c.from_static.ensures) (no_text (λ text. c.in_default.ensures.cases.0 (subst IsUtf8 same text)))

pub returns-in_ok-counts-in-None : goal.returns-in_ok-counts-in-None
returns-in_ok-counts-in-None c =
    let same : c.in-Ok.text.now ≡ c.args.bytes.now = c.in-Ok.ensures.cases.0 ∙ c.as_slice.ensures in
    record {
      checked = c.in_ok-checked.checked;
      checks = subst (λ bytes. IsChecked (rule_of c.args.self.now) bytes limits c.in_ok-checked.checked) same c.in_ok-checked.ensures;
      whole = c.in-None.is;
      tells = c.in_ok-counts-in-None.ensures;
    }

pub returns-in_ok-fault_text-in-Some : goal.returns-in_ok-fault_text-in-Some
returns-in_ok-fault_text-in-Some c =
    let same : c.in-Ok.text.now ≡ c.args.bytes.now = c.in-Ok.ensures.cases.0 ∙ c.as_slice.ensures in
    let checks = subst (λ bytes. IsChecked (rule_of c.args.self.now) bytes limits c.in_ok-checked.checked) same c.in_ok-checked.ensures in
    subst (Refuses c.args.self.now c.args.bytes.now) (sym c.in_ok-fault_text-in-Some.ensures) (broken c.in_ok-checked.checked c.in-Some.error checks c.in-Some.is)
