use Rattle.gql_ast.proofs.Texts.{kind_text-List, kind_text-Object}
use Rattle.gql_ast.proofs.value_text.+write.Goals as goal

pub write_kind-returns-in-List : goal.write_kind-returns-in-List
write_kind-returns-in-List t c = rw (c.in-List.is, kind_text-List) c.write_items.ensures

pub write_kind-returns-in-Object : goal.write_kind-returns-in-Object
write_kind-returns-in-Object t c = rw (c.in-Object.is, kind_text-Object) c.write_members.ensures
