use Rattle.std.proofs.Common.{rules, ◌∙◌, sym}
use Rattle.gql_source.proofs.LineSteps.{line_column-ends, line_column-begins, line_column-continues, line-within, column-within}
use Rattle.gql_source.proofs.line_cursor.place_after.Goals as goal

pub overflow_add-result : goal.overflow_add-result
overflow_add-result c = let small = line-within c.args.text.now c.args.at c.args.place c.requires.place in search rules

pub overflow_add-result-then-begins_character : goal.overflow_add-result-then-begins_character
overflow_add-result-then-begins_character c = let small = column-within c.args.text.now c.args.at c.args.place c.requires.place in search rules

pub returns-then-ends_line : goal.returns-then-ends_line
returns-then-ends_line c =
    rw c.requires.place (sym (line_column-ends c.args.text.now c.args.at (sym c.ends_line.ensures ∙ c.if-ends_line.true)))

pub returns-then-begins_character : goal.returns-then-begins_character
returns-then-begins_character c =
    rw c.requires.place
    (sym (line_column-begins c.args.text.now c.args.at c.requires.within (sym c.ends_line.ensures ∙ c.if-ends_line.false) (sym c.begins_character.ensures ∙ c.if-begins_character.true)))

pub returns-else-begins_character : goal.returns-else-begins_character
returns-else-begins_character c =
    c.requires.place
    ∙ sym (line_column-continues c.args.text.now c.args.at c.requires.within (sym c.ends_line.ensures ∙ c.if-ends_line.false) (sym c.begins_character.ensures ∙ c.if-begins_character.false))
