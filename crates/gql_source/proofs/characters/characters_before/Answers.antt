use Rattle.std.proofs.Common.{◌≡◌, ◌+◌, ◌*◌, ◌/◌, length, get_or, rules, arith, ap, sym, ◌∙◌}
use Rattle.gql_source.specs.bridge.Characters.{characters_before, step}
use Rattle.gql_source.proofs.CharacterCounts.{characters_before-split, characters_before-le, count-at, length-counts}
use Rattle.gql_source.proofs.characters.characters_before.Goals as goal

pub bounds-counts-mark : goal.bounds-counts-mark
bounds-counts-mark c =
    omega (arith, c.requires.within, ap length c.requires.counts, length-counts c.args.text.now (length c.args.text.now / step))

counted : (c : goal.After-count_characters) → get_or c.args.counts.now (c.args.offset / 256) 0 ≡ characters_before c.args.text.now (c.args.offset / 256 * 256)
counted c =
    rw c.requires.counts (count-at c.args.text.now (c.args.offset / 256) (length c.args.text.now / step) 0 (omega (arith, c.requires.within)))

total : (c : goal.After-count_characters) → get_or c.args.counts.now (c.args.offset / 256) 0 + c.count_characters.result ≡ characters_before c.args.text.now c.args.offset
total c =
    ap (λ n. n + c.count_characters.result) (counted c)
    ∙ ap (λ n. characters_before c.args.text.now (c.args.offset / 256 * 256) + n) c.count_characters.ensures
    ∙ sym (characters_before-split c.args.text.now (c.args.offset / 256 * 256) c.args.offset (omega arith))

pub returns : goal.returns
returns c = total c

pub overflow_add-result : goal.overflow_add-result
overflow_add-result c = let sum = total c in let small = characters_before-le c.args.text.now c.args.offset in search rules
