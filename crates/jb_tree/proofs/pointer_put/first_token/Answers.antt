use Rattle.std.proofs.Common.{[], ap, ◌∙◌, arith}
use Rattle.std.proofs.lemmas.Str.Pattern.{split_parts}
use Rattle.jb_tree.specs.Pointer.{tokens_from}
use Rattle.jb_tree.proofs.Tokens.{tokens_part, tokens_last}
use Rattle.jb_tree.proofs.pointer_put.first_token.Goals as goal

pub returns-in-Some : goal.returns-in-Some
returns-in-Some c =
    let cut = rw c.in-Some.is at (split_parts 47 c.args.rest.now c.split_once.result c.split_once.ensures.cases (omega arith)) in
    ap (tokens_from []) cut.0 ∙ tokens_part _ _ cut.1

pub returns-in-None : goal.returns-in-None
returns-in-None c =
    let none = rw c.in-None.is at (split_parts 47 c.args.rest.now c.split_once.result c.split_once.ensures.cases (omega arith)) in
    tokens_last c.args.rest.now none
