use Rattle.std.proofs.Common.{rules, ◌≡◌, IfOk, refl, subst}
use Rattle.gql_cst.specs.Forest.{plain}
use Rattle.gql_grammar.specs.declared.syntax_kind.SyntaxKind.TheVariants as kind
use Rattle.gql_ast.specs.Documents.{extension_of}
use Rattle.gql_ast.proofs.Choices.{by_kind, by_no_kind}
use Rattle.gql_ast.proofs.definition.choice.Goals as goal

pub returns-in_ok-found-in-OperationDefinition : goal.returns-in_ok-found-in-OperationDefinition
returns-in_ok-found-in-OperationDefinition c =
    let t = plain c.args.tree.now in
    let same : t.kind ≡ kind.OperationDefinition = search rules in
    by_kind c.args.source.now.text.now c.args.source.now.file_id t kind.OperationDefinition c.map.result same (search rules)

pub returns-in_ok-found-in-FragmentDefinition : goal.returns-in_ok-found-in-FragmentDefinition
returns-in_ok-found-in-FragmentDefinition c =
    let t = plain c.args.tree.now in
    let same : t.kind ≡ kind.FragmentDefinition = search rules in
    by_kind c.args.source.now.text.now c.args.source.now.file_id t kind.FragmentDefinition c.map-in-FragmentDefinition.result same (search rules)

pub returns-in_ok-found-in-DirectiveDefinition : goal.returns-in_ok-found-in-DirectiveDefinition
returns-in_ok-found-in-DirectiveDefinition c =
    let t = plain c.args.tree.now in
    let same : t.kind ≡ kind.DirectiveDefinition = search rules in
    by_kind c.args.source.now.text.now c.args.source.now.file_id t kind.DirectiveDefinition c.map-in-DirectiveDefinition.result same (search rules)

pub returns-in_ok-found-in-SchemaDefinition : goal.returns-in_ok-found-in-SchemaDefinition
returns-in_ok-found-in-SchemaDefinition c =
    let t = plain c.args.tree.now in
    let same : t.kind ≡ kind.SchemaDefinition = search rules in
    by_kind c.args.source.now.text.now c.args.source.now.file_id t kind.SchemaDefinition c.map-in-SchemaDefinition.result same (search rules)

pub returns-in_ok-found-in-ScalarTypeDefinition : goal.returns-in_ok-found-in-ScalarTypeDefinition
returns-in_ok-found-in-ScalarTypeDefinition c =
    let t = plain c.args.tree.now in
    let same : t.kind ≡ kind.ScalarTypeDefinition = search rules in
    by_kind c.args.source.now.text.now c.args.source.now.file_id t kind.ScalarTypeDefinition c.map-in-ScalarTypeDefinition.result same (search rules)

pub returns-in_ok-found-in-ObjectTypeDefinition : goal.returns-in_ok-found-in-ObjectTypeDefinition
returns-in_ok-found-in-ObjectTypeDefinition c =
    let t = plain c.args.tree.now in
    let same : t.kind ≡ kind.ObjectTypeDefinition = search rules in
    by_kind c.args.source.now.text.now c.args.source.now.file_id t kind.ObjectTypeDefinition c.map-in-ObjectTypeDefinition.result same (search rules)

pub returns-in_ok-found-in-InterfaceTypeDefinition : goal.returns-in_ok-found-in-InterfaceTypeDefinition
returns-in_ok-found-in-InterfaceTypeDefinition c =
    let t = plain c.args.tree.now in
    let same : t.kind ≡ kind.InterfaceTypeDefinition = search rules in
    by_kind c.args.source.now.text.now c.args.source.now.file_id t kind.InterfaceTypeDefinition c.map-in-InterfaceTypeDefinition.result same (search rules)

pub returns-in_ok-found-in-UnionTypeDefinition : goal.returns-in_ok-found-in-UnionTypeDefinition
returns-in_ok-found-in-UnionTypeDefinition c =
    let t = plain c.args.tree.now in
    let same : t.kind ≡ kind.UnionTypeDefinition = search rules in
    by_kind c.args.source.now.text.now c.args.source.now.file_id t kind.UnionTypeDefinition c.map-in-UnionTypeDefinition.result same (search rules)

pub returns-in_ok-found-in-EnumTypeDefinition : goal.returns-in_ok-found-in-EnumTypeDefinition
returns-in_ok-found-in-EnumTypeDefinition c =
    let t = plain c.args.tree.now in
    let same : t.kind ≡ kind.EnumTypeDefinition = search rules in
    by_kind c.args.source.now.text.now c.args.source.now.file_id t kind.EnumTypeDefinition c.map-in-EnumTypeDefinition.result same (search rules)

pub returns-in_ok-found-in-InputObjectTypeDefinition : goal.returns-in_ok-found-in-InputObjectTypeDefinition
returns-in_ok-found-in-InputObjectTypeDefinition c =
    let t = plain c.args.tree.now in
    let same : t.kind ≡ kind.InputObjectTypeDefinition = search rules in
    by_kind c.args.source.now.text.now c.args.source.now.file_id t kind.InputObjectTypeDefinition c.map-in-InputObjectTypeDefinition.result same (search rules)

pub returns-in-Extension : goal.returns-in-Extension
returns-in-Extension c =
    let text = c.args.source.now.text.now in
    let file = c.args.source.now.file_id in
    let t = plain c.args.tree.now in
    let same : t.kind ≡ kind.Extension = search rules in
    subst (λ d. IfOk c.extension.result (λ made. made ≡ d)) (by_kind text file t kind.Extension (extension_of text file t) same refl) c.extension.ensures

pub returns-in_default : goal.returns-in_default
returns-in_default c =
    let n = c.in_default in
    by_no_kind c.args.source.now.text.now c.args.source.now.file_id (plain c.args.tree.now) c.kind.result (search rules) n.not-OperationDefinition
    n.not-FragmentDefinition n.not-DirectiveDefinition n.not-SchemaDefinition n.not-ScalarTypeDefinition n.not-ObjectTypeDefinition
    n.not-InterfaceTypeDefinition n.not-UnionTypeDefinition n.not-EnumTypeDefinition n.not-InputObjectTypeDefinition n.not-Extension
