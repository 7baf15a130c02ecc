use Rattle.std.proofs.Common.{rules, ◌≡◌, Some, None}
use Rattle.gql_cst.specs.Forest.{plain}
use Rattle.gql_ast_base.specs.Parts.{nth_text}
use Rattle.gql_ast.proofs.Words.{by_schema, by_scalar, by_type, by_interface, by_union, by_enum, by_input, no_word, no_such_word}
use Rattle.gql_ast.proofs.definition.extension.Goals as goal

pub returns-in_ok-found-in-Some-schema : goal.returns-in_ok-found-in-Some-schema
returns-in_ok-found-in-Some-schema c =
    let text = c.args.source.now.text.now in
    let t = plain c.args.tree.now in
    let found = c.in-Some-schema.field-0.now in
    let is : nth_text text 1 t.children ≡ Some found = search rules in
    by_schema text c.args.source.now.file_id t found c.map.result is c.in-Some-schema.is-schema (search rules)

pub returns-in_ok-found-in-Some-scalar : goal.returns-in_ok-found-in-Some-scalar
returns-in_ok-found-in-Some-scalar c =
    let text = c.args.source.now.text.now in
    let t = plain c.args.tree.now in
    let found = c.in-Some-scalar.field-0.now in
    let is : nth_text text 1 t.children ≡ Some found = search rules in
    by_scalar text c.args.source.now.file_id t found c.map-in-Some-scalar.result is c.in-Some-scalar.is-scalar (search rules)

pub returns-in_ok-found-in-Some-type : goal.returns-in_ok-found-in-Some-type
returns-in_ok-found-in-Some-type c =
    let text = c.args.source.now.text.now in
    let t = plain c.args.tree.now in
    let found = c.in-Some-type.field-0.now in
    let is : nth_text text 1 t.children ≡ Some found = search rules in
    by_type text c.args.source.now.file_id t found c.map-in-Some-type.result is c.in-Some-type.is-type (search rules)

pub returns-in_ok-found-in-Some-interface : goal.returns-in_ok-found-in-Some-interface
returns-in_ok-found-in-Some-interface c =
    let text = c.args.source.now.text.now in
    let t = plain c.args.tree.now in
    let found = c.in-Some-interface.field-0.now in
    let is : nth_text text 1 t.children ≡ Some found = search rules in
    by_interface text c.args.source.now.file_id t found c.map-in-Some-interface.result is c.in-Some-interface.is-interface (search rules)

pub returns-in_ok-found-in-Some-union : goal.returns-in_ok-found-in-Some-union
returns-in_ok-found-in-Some-union c =
    let text = c.args.source.now.text.now in
    let t = plain c.args.tree.now in
    let found = c.in-Some-union.field-0.now in
    let is : nth_text text 1 t.children ≡ Some found = search rules in
    by_union text c.args.source.now.file_id t found c.map-in-Some-union.result is c.in-Some-union.is-union (search rules)

pub returns-in_ok-found-in-Some-enum : goal.returns-in_ok-found-in-Some-enum
returns-in_ok-found-in-Some-enum c =
    let text = c.args.source.now.text.now in
    let t = plain c.args.tree.now in
    let found = c.in-Some-enum.field-0.now in
    let is : nth_text text 1 t.children ≡ Some found = search rules in
    by_enum text c.args.source.now.file_id t found c.map-in-Some-enum.result is c.in-Some-enum.is-enum (search rules)

pub returns-in_ok-found-in-Some-input : goal.returns-in_ok-found-in-Some-input
returns-in_ok-found-in-Some-input c =
    let text = c.args.source.now.text.now in
    let t = plain c.args.tree.now in
    let found = c.in-Some-input.field-0.now in
    let is : nth_text text 1 t.children ≡ Some found = search rules in
    by_input text c.args.source.now.file_id t found c.map-in-Some-input.result is c.in-Some-input.is-input (search rules)

pub returns-in-Some : goal.returns-in-Some
returns-in-Some c =
    let text = c.args.source.now.text.now in
    let t = plain c.args.tree.now in
    let d = c.in-Some in
    let is : nth_text text 1 t.children ≡ Some d.field-0.now = search rules in
    no_such_word text c.args.source.now.file_id t d.field-0.now is d.not-schema d.not-scalar d.not-type d.not-interface d.not-union d.not-enum d.not-input

pub returns-in-None : goal.returns-in-None
returns-in-None c =
    let text = c.args.source.now.text.now in
    let t = plain c.args.tree.now in
    let is : nth_text text 1 t.children ≡ None = search rules in
    no_word text c.args.source.now.file_id t is
