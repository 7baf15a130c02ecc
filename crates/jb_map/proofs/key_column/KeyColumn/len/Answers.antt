use Rattle.std.proofs.Common.{[], sym, ap, ◌∙◌}
use Rattle.std.specs.Option.{option_map_or}
use Rattle.jb_map.proofs.KeyLists.{none_distinct}
use Rattle.jb_map.proofs.key_column.KeyColumn.len.Goals as goal

pub returns-in-None-clause-distinct : goal.returns-in-None-clause-distinct
returns-in-None-clause-distinct c = none_distinct _ (sym c.self.view_is ∙ ap (λ o. option_map_or (λ l. l.value) o []) c.in-None.is)
