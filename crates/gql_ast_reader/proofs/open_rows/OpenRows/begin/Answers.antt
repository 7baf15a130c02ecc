use Rattle.std.proofs.Common.{refl, ap, ◌∙◌, arith}
use Rattle.gql_ast_reader.proofs.Pool.{none-le, begun-in, begun-behind}
use Rattle.gql_ast_reader.proofs.open_rows.OpenRows.begin.Goals as goal
use Rattle.gql_ast_reader.proofs.open_rows.OpenRows.begin.Goals.{in-Some, in-None+in_ok-push_row-in-None}

pub returns : goal.returns
returns c = elim c.match-get_mut.branch [
  | in-Some w ↦ begun-in c.args.self.now _ c.args.kind w.begin.new.self (omega (arith, w.in-Some.ensures.variant.0 refl)) w.begin.ensures (omega arith)
      (ap (λ s. s.1.0.items) w.self-is)
  | in-None+in_ok-push_row-in-None w ↦ begun-behind c.args.self.now _ c.args.kind (omega (arith, none-le _ _ w.in-None.ensures.variant.1, c.args.self.now.rows.ok.0)) (omega arith)
      (ap (λ s. s.1.0.items) w.self-is ∙ w.in_ok-push_row-in-None.ensures.items)
]
