use Rattle.std.proofs.Common.{◌≡◌, Bool, false, ap, sym, ◌∙◌}
use Rattle.std.specs.List.{list_any}
use Rattle.gql_graph.proofs.Chained.{same_marks}
use Rattle.gql_graph.proofs.chains.marks_of_longer.Goals as goal

pub returns-else-any_mark : goal.returns-else-any_mark
returns-else-any_mark c =
    let none : list_any (λ (mark : Bool). mark) c.args.marks.items ≡ false =
    ap (list_any (λ (mark : Bool). mark)) (sym c.as_slice.ensures.value) ∙ sym c.any_mark.ensures ∙ c.if-any_mark.false in
    same_marks c.args.graph.now c.args.named c.args.marks.items c.requires none
