use Rattle.std.proofs.Common.{sym, subst}
use Rattle.gql_ast_base.specs.SyntaxKind.{SyntaxKind}
use Rattle.gql_ast_reader.specs.bridge.Stand.{Wraps}
use Rattle.gql_ast_reader.proofs.open_rows.OpenRows.wrap.Goals as goal

pub returns-in-NonNullType : goal.returns-in-NonNullType
returns-in-NonNullType c =
    let P : SyntaxKind → Type 0 = λ k. Wraps c.args.source.now.text.now c.args.source.now.file_id k c.args.self.now c.wrap_non_null.new.self in
    subst P (sym c.in-NonNullType.is) (c.wrap_non_null.ensures _ _)
