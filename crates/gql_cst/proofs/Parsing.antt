-- What a parse without an error gives is a tree of the text.
use Rattle.std.proofs.Common.{◌≡◌, ℕ, List, length, Option, None, sym, subst}
use Rattle.gql_lexer.specs.declared.error.CstError.{CstError}
use Rattle.gql_grammar.specs.declared.rule.Rule.{Rule}
use Rattle.gql_grammar.specs.Row as row
use Rattle.gql_cst.specs.declared.limits.Limits.{Limits}
use Rattle.gql_cst.specs.Report.{Report}
use Rattle.gql_cst.specs.Forest.{Forest}
use Rattle.gql_cst.specs.Judged.{Judged, Spoken}
use Rattle.gql_cst.specs.Leaves.{leaves, Tiles}
use Rattle.gql_cst.specs.Outcome.{Stops, Reached}
use Rattle.gql_cst.specs.Parses.{Parses, IsReport}
use Rattle.gql_cst.specs.Sentences.{root_kind, words, shown}
use Rattle.gql_cst.specs.TreeOf.{IsTreeOf}

whole : (start : Rule) (text : List ℕ) (limits : Limits) (parsed : Report) (place : ℕ) (children : Forest) → Parses start text limits parsed place children
    → parsed.error ≡ None → IsTreeOf start text children
whole start text limits parsed place children p none =
    let r : Reached = record { text = text; tokens = length (leaves children); place = place; read = parsed.tokens_reached } in
    let s : Spoken = record { start = start; text = text; words = words text (leaves children); row = row.node (root_kind start) (shown text children) row.nothing; recursion = limits.recursion } in
    let stops = subst (λ (x : Option CstError). Stops limits r x) none p.stops in
    let judged = subst (λ (x : Option CstError). Judged s x) none p.judged in
    record { tiles = subst (λ (n : ℕ). Tiles text 0 (leaves children) n) stops.0 p.tiles; sentence = judged.0 }

pub parse_tree : (start : Rule) (text : List ℕ) (limits : Limits) (parsed : Report) → IsReport start text limits parsed
    → parsed.error ≡ None → IsTreeOf start text parsed.tree.children
parse_tree start text limits parsed p none =
    subst (λ (f : Forest). IsTreeOf start text f) (sym p.2.tree_children) (whole start text limits parsed p.0 p.1 p.2 none)
