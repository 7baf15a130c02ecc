use Rattle.std.proofs.Common.{◌≡◌, ◌+◌, length, sym, ap, ◌∙◌, subst, arith}
use Rattle.gql_graph.specs.bridge.Explored.{class_of}
use Rattle.gql_rules_merging.proofs.FamilySets.{AreSelectedBelow, fields_length, selected_all, selected_on, with_length}
use Rattle.gql_rules_merging.specs.bridge.Families.{with_items}
use Rattle.gql_rules_merging.specs.bridge.Gathering.{fields_of}
use Rattle.gql_rules_merging.proofs.family_sets.gather_all.Goals as goal

pub loop-number-preserved : goal.loop-number-preserved
loop-number-preserved c =
    let fields = fields_of c.args.fields.now in
    let families = c.args.families.now in
    let number = c.loop-number.number in
    let more = c.items_of.result.now in
    let rows : c.add_to_row.new.rows ≡ with_items c.loop-number.rows (class_of families number) more = c.in_ok-add_to_row.ensures ∙ ap (λ n. with_items c.loop-number.rows n more) c.class_of.ensures in
    record {
      as_many = ap length rows ∙ with_length c.loop-number.rows (class_of families number) more ∙ c.loop-number.invariant.as_many;
      selected = subst (AreSelectedBelow (number + 1) fields families) (sym rows)
          (selected_on number fields families c.loop-number.rows more c.loop-number.invariant.selected
          (omega (arith, c.loop-number.invariant.as_many, c.requires.within number (omega arith))) (sym c.items_of.ensures));
    }

pub returns : goal.returns
returns c =
    selected_all c.loop-number.number (fields_of c.args.fields.now) c.args.families.now c.loop-number.rows c.loop-number.invariant.selected
    (omega (arith, fields_length c.args.fields.now))
