use Rattle.std.proofs.Common.{◌≡◌, ◌+◌, ◌*◌, ◌++◌, ◌∷◌, [], refl, ap, sym, ◌∙◌, arith}
use Rattle.gql_source.specs.bridge.Characters.{characters_before, counts_at_marks, step}
use Rattle.gql_source.proofs.CharacterCounts.{characters_before-split, counts-more}
use Rattle.gql_source.proofs.characters.counts_at_marks.Goals as goal

pub loop-mark-init : goal.loop-mark-init
unfolding counts_at_marks
loop-mark-init c = record { counts = c.in_ok-counts.ensures.items; count = refl }

pub loop-mark-preserved : goal.loop-mark-preserved
loop-mark-preserved c =
    let text = c.args.text.now in
    let mark = c.loop-mark.mark in
    let end : mark * step + step ≡ (mark + 1) * step = omega arith in
    let count : c.loop-mark.count + c.count_characters-count.result ≡ characters_before text ((mark + 1) * step) =
    ap (λ n. n + c.count_characters-count.result) c.loop-mark.invariant.count
    ∙ ap (λ n. characters_before text (mark * step) + n) c.count_characters-count.ensures
    ∙ sym (characters_before-split text (mark * step) (mark * step + step) (omega arith))
    ∙ ap (characters_before text) end in
    record {
      counts = c.in_ok-push.ensures.items ∙ ap (λ l. l ++ (c.loop-mark.count + c.count_characters-count.result) ∷ []) c.loop-mark.invariant.counts ∙ ap (λ n. counts_at_marks text mark ++ n ∷ []) count ∙ sym (counts-more text mark);
      count = count;
    }
