use Rattle.std.proofs.Common.{◌≡◌, [], None, option_and_then, sym, ap, ◌∙◌, arith, rules}
use Rattle.std.proofs.lemmas.Str.Pattern.{strip_prefix_char, split_parts}
use Rattle.jb_tree.specs.Pointer.{named, tokens_from}
use Rattle.jb_tree.proofs.Tokens.{named_part, named_last, no_slash}
use Rattle.jb_tree.proofs.value.Value.pointer_mut.Goals as goal

pub returns-in_err-rest : goal.returns-in_err-rest
returns-in_err-rest c =
    let path = c.args.pointer.now in
    let gone : c.from_residual.result ≡ None = grind arith in
    let other = rw c.in_err-rest.was at (strip_prefix_char 47 path c.strip_prefix.result c.strip_prefix.ensures.cases (omega arith)) in
    rw gone (sym (no_slash path c.args.self.now (grind arith) other))

pub returns-in_err-place : goal.returns-in_err-place
returns-in_err-place c =
    let l = c.tokens in
    let cut = rw c.in-Some.is at (split_parts 47 l.rest.now c.split_once.result c.split_once.ensures.cases (omega arith)) in
    let gone : c.from_residual-in_err-place.result ≡ None = grind arith in
    let turn = l.invariant.0 ∙ ap (λ s. named (tokens_from [] s) l.place.now) cut.0 ∙ named_part _ _ l.place.now cut.1 in
    rw gone (sym (turn ∙ ap (option_and_then (named (tokens_from [] c.in-Some.more.now))) (sym c.in_err-place.ensures)))

pub tokens-preserved : goal.tokens-preserved
tokens-preserved c =
    let l = c.tokens in
    let cut = rw c.in-Some.is at (split_parts 47 l.rest.now c.split_once.result c.split_once.ensures.cases (omega arith)) in
    let turn = l.invariant.0 ∙ ap (λ s. named (tokens_from [] s) l.place.now) cut.0 ∙ named_part _ _ l.place.now cut.1 in
    (turn ∙ ap (option_and_then (named (tokens_from [] c.in-Some.more.now))) (sym c.in_ok-place.ensures), search rules)

pub returns : goal.returns
returns c =
    let l = c.tokens in
    let none = rw c.in_default.is at (split_parts 47 l.rest.now c.split_once.result c.split_once.ensures.cases (omega arith)) in
    c.child_mut-2.ensures ∙ sym (l.invariant.0 ∙ named_last l.rest.now l.place.now none)
