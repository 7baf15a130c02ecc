-- The items of a list have the name of the list.
use Rattle.std.proofs.Common.{◌≡◌, Some, sym, ap, ◌∙◌, rules}
use Rattle.gql_ast_base.specs.declared.type_ref.TypeRef.{TypeRef, roll-TypeRef, out-TypeRef, the_lemmas}
use Rattle.gql_ast_base.specs.declared.type_ref.TypeRef.TheOpen.{TypeRef-F}
use Rattle.gql_ast_base.specs.TypeParts.{named_type, item_type, item_level}

innermost-level : (x : TypeRef-F TypeRef) (item : TypeRef) → item_level x ≡ Some item → named_type (roll-TypeRef x) ≡ named_type item
innermost-level (TypeRef-F.Named name) item is = absurd cc
innermost-level (TypeRef-F.NonNullNamed name) item is = absurd cc
innermost-level (TypeRef-F.List inner) item is =
    let same : inner ≡ item = cc in
    let rolled : named_type (roll-TypeRef (TypeRef-F.List inner)) ≡ named_type inner = search (rules, the_lemmas) in
    rolled ∙ ap named_type same
innermost-level (TypeRef-F.NonNullList inner) item is =
    let same : inner ≡ item = cc in
    let rolled : named_type (roll-TypeRef (TypeRef-F.NonNullList inner)) ≡ named_type inner = search (rules, the_lemmas) in
    rolled ∙ ap named_type same

pub innermost-item : (ty item : TypeRef) → item_type ty ≡ Some item → named_type item ≡ named_type ty
innermost-item ty item is =
    let rolled : roll-TypeRef (out-TypeRef ty) ≡ ty = search (rules, the_lemmas) in
    sym (innermost-level (out-TypeRef ty) item is) ∙ ap named_type rolled
