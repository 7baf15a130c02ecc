use Rattle.std.proofs.Common.{Option, Some, sym, ap, ◌∙◌}
use Rattle.std.specs.Option.{option_map}
use Rattle.gql_ast_base.specs.Forest.{plain}
use Rattle.gql_ast_base.specs.declared.value.Value.{Value}
use Rattle.gql_ast_base.proofs.Found.{kind-is}
use Rattle.gql_ast_base.proofs.value.conversion.ValueKindConvert.read.Goals as goal

pub returns-in-Some : goal.returns-in-Some
returns-in-Some c =
    ap Some c.into_kind.ensures
    ∙ ap (λ (o : Option Value). option_map (λ (v : Value). v.kind) o) (sym c.in-Some.is ∙ c.in_ok-value.ensures)
    ∙ sym (kind-is c.args.source.now.text.now c.args.source.now.file_id (plain c.args.tree.now))

pub returns-in-None : goal.returns-in-None
returns-in-None c =
    ap (λ (o : Option Value). option_map (λ (v : Value). v.kind) o) (sym c.in-None.is ∙ c.in_ok-value.ensures)
    ∙ sym (kind-is c.args.source.now.text.now c.args.source.now.file_id (plain c.args.tree.now))
