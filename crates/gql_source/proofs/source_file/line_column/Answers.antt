use Rattle.std.proofs.Common.{◌≡◌, ◌+◌, ◌-◌, arith, ap, sym, refl, ◌∙◌}
use Rattle.std.specs.Prelude.{slice_range}
use Rattle.std.specs.List.{count_by}
use Rattle.gql_source.specs.Lines as lines
use Rattle.gql_source.specs.bridge.Characters.{characters_before}
use Rattle.gql_source.proofs.CharacterCounts.{characters_before-split}
use Rattle.gql_source.proofs.source_file.line_column.Goals as goal

split : (c : goal.After-characters_before) → c.characters_before.result ≡ c.characters_before-before.result + count_by lines.begins_character (slice_range c.args.text.now (lines.line_start c.args.text.now c.args.offset) c.args.offset)
split c =
    let text = c.args.text.now in
    let start = c.line_of-line.ensures.start in
    c.characters_before.ensures
    ∙ characters_before-split text (lines.line_start text c.args.offset) c.args.offset c.line_of-line.ensures.ordered
    ∙ ap (λ n. n + count_by lines.begins_character (slice_range text (lines.line_start text c.args.offset) c.args.offset)) (sym (c.characters_before-before.ensures ∙ ap (characters_before text) start))

pub overflow_sub-column : goal.overflow_sub-column
overflow_sub-column c = omega (arith, split c)

pub returns : goal.returns
unfolding lines.line_column
returns c =
    let column : c.characters_before.result - c.characters_before-before.result ≡ count_by lines.begins_character (slice_range c.args.text.now (lines.line_start c.args.text.now c.args.offset) c.args.offset) = omega (arith, split c) in
    rw (column, c.line_of-line.ensures.value) refl
