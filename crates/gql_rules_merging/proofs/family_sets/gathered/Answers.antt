use Rattle.std.proofs.Common.{◌++◌, ap, ◌∙◌, subst}
use Rattle.gql_rules_merging.proofs.FamilySets.{all_gathered}
use Rattle.gql_rules_merging.specs.bridge.Families.{AreSelected}
use Rattle.gql_rules_merging.specs.bridge.Gathering.{fields_of, numbered_of}
use Rattle.gql_rules_merging.proofs.family_sets.gathered.Goals as goal

pub returns : goal.returns
returns c =
    all_gathered (numbered_of c.args.numbered.now) c.args.families.now c.gather_all.new.rows c.add_rows.new.rows
    (subst (λ held. AreSelected (fields_of held) c.args.families.now c.gather_all.new.rows) c.as_slice.ensures c.in_ok-gather_all.ensures)
    (c.in_ok-add_rows.ensures ∙ ap (λ l. c.gather_all.new.rows ++ l) c.as_slice-2.ensures)
