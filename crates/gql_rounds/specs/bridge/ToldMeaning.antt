-- What only private clauses and proofs cite, beside `ToldMeaning`.
use Rattle.std.specs.Prelude.{Bool, Option, Some, None}
use Rattle.jb_tree.specs.declared.value.Value.{Value}
use Rattle.jb_tree.specs.Value.{array_items, object_members}
use Rattle.gql_ast_base.specs.TypeParts.{item_type}
use Rattle.gql_ast_base.specs.declared.type_ref.TypeRef.{TypeRef}
use Rattle.gql_resolvers.specs.Resolved.{Meaning}
use Rattle.gql_rounds.specs.Known.{Known}
use Rattle.gql_rounds.specs.ToldMeaning.{object_or_leaf, list_or_leaf, told_value}

module _ (composite : Bool) where
  abbrev pub unfailed_at : Option TypeRef → Value → Meaning Known
  unfailed_at (Some item) value = list_or_leaf (told_value composite item) value (array_items value)
  unfailed_at None value = object_or_leaf composite value (object_members value)

  -- the same of a value that is no failure
  abbrev pub unfailed : TypeRef → Value → Meaning Known
  unfailed ty value = unfailed_at (item_type ty) value
