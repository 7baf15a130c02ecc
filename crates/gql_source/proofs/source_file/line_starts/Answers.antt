use Rattle.std.proofs.Common.{◌≡◌, ◌<◌, ◌+◌, ◌-◌, ◌++◌, ◌∷◌, ℕ, length, map, ap, sym, ◌∙◌, arith}
use Rattle.std.specs.List.{filter}
use Rattle.std.proofs.lemmas.List.Elements.{All-head, All-rest, All-same}
use Rattle.memchr.specs.Find.{Passes, is_byte2, places, places_from}
use Rattle.memchr.proofs.lemmas.CallerLemmas.{All-places}
use Rattle.gql_source.specs.Lines as lines
use Rattle.gql_source.proofs.LineEnds.{ends_at_places, starts_on, starts_off}
use Rattle.gql_source.proofs.source_file.line_starts.Goals as goal

pub loop-at-init : goal.loop-at-init
unfolding lines.line_starts
loop-at-init c =
    let text = c.args.text.now in
    let test = is_byte2 lines.line_feed lines.carriage_return in
    let given = c.into_iter-at-iterator.ensures.into_iter_gives ∙ c.memchr2_iter-at-items.ensures.value in
    let all : length text - 0 ≡ length text = omega arith in
    record {
      starts = ap (λ l. l ++ map (λ at. at + 1) (filter (lines.ends_line text) c.into_iter-at-iterator.result)) c.in_ok-starts.ensures.items
          ∙ ap (λ l. 0 ∷ map (λ at. at + 1) (filter (lines.ends_line text) l)) given
          ∙ ap (λ n. 0 ∷ map (λ at. at + 1) (filter (lines.ends_line text) (places_from test text 0 n))) all
          ∙ sym (ap (λ l. 0 ∷ map (λ at. at + 1) l) (ends_at_places text 0 (length text)));
      within = All-same (λ (at : ℕ). (at < length text) × Passes test text at) c.into_iter-at-iterator.result (places test text) given (All-places test text);
    }

pub ends_line-requires : goal.ends_line-requires
ends_line-requires c =
    let P = λ (at : ℕ). (at < length c.args.text.now) × Passes (is_byte2 lines.line_feed lines.carriage_return) c.args.text.now at in
    (All-head P c.in-Some.at c.next.new.self (All-same P (c.in-Some.at ∷ c.next.new.self) c.loop-at.at-iterator (sym c.in-Some.ensures.steps) c.loop-at.invariant.within)).0

pub loop-at-preserved : goal.loop-at-preserved
loop-at-preserved c =
    let text = c.args.text.now in
    let P = λ (at : ℕ). (at < length text) × Passes (is_byte2 lines.line_feed lines.carriage_return) text at in
    record {
      starts = sym (starts_off text c.loop-at.starts.items c.in-Some.at c.next.new.self (sym (c.if-ends_line.ensures)))
          ∙ ap (λ l. c.loop-at.starts.items ++ map (λ at. at + 1) (filter (lines.ends_line text) l)) (sym c.in-Some.ensures.steps) ∙ c.loop-at.invariant.starts;
      within = All-rest P c.in-Some.at c.next.new.self c.loop-at.at-iterator c.in-Some.ensures.steps c.loop-at.invariant.within;
    }

pub loop-at-preserved-in-Continue-branch-2 : goal.loop-at-preserved-in-Continue-branch-2
loop-at-preserved-in-Continue-branch-2 c =
    let text = c.args.text.now in
    let P = λ (at : ℕ). (at < length text) × Passes (is_byte2 lines.line_feed lines.carriage_return) text at in
    record {
      starts = ap (λ l. l ++ map (λ at. at + 1) (filter (lines.ends_line text) c.next.new.self)) c.in_ok-push.ensures.items
          ∙ sym (starts_on text c.loop-at.starts.items c.in-Some.at c.next.new.self (sym (c.if-ends_line.ensures)))
          ∙ ap (λ l. c.loop-at.starts.items ++ map (λ at. at + 1) (filter (lines.ends_line text) l)) (sym c.in-Some.ensures.steps) ∙ c.loop-at.invariant.starts;
      within = All-rest P c.in-Some.at c.next.new.self c.loop-at.at-iterator c.in-Some.ensures.steps c.loop-at.invariant.within;
    }
