-- What a parser's steps tell of the levels around its words.
use Rattle.std.proofs.Common.{◌≡◌, ℕ, ◌+◌, ◌<◌, ◌≤◌, ◌⊎◌, inl, inr, max, Bool, List, [], ◌∷◌, ◌++◌, length, Option, Some, None, refl, ◌∙◌, sym, ap, subst, arith, append_assoc, length-append}
use Rattle.std.specs.declared.ops.Range.{Range}
use Rattle.std.proofs.lemmas.Bool.{cases_lt}
use Rattle.gql_lexer.specs.bridge.Reading.{Reading, ReadsError}
use Rattle.gql_lexer.specs.declared.error.CstError.{CstError}
use Rattle.gql_lexer.specs.declared.error.CstError.TheVariants.{Syntax, RecursionLimit, TokenLimit}
use Rattle.gql_lexer.specs.declared.error.SyntaxFault.TheVariants.{EndOfText, BadCharacter, OpenString, BadEscape, BadNumber, BadToken}
use Rattle.gql_grammar.specs.declared.word.Word.{Word}
use Rattle.gql_grammar.specs.declared.syntax_kind.SyntaxKind.TheVariants as kind
use Rattle.gql_grammar.specs.Row as row
use Rattle.gql_grammar.specs.Row.{level}
use Rattle.gql_cst.specs.bridge.Standing.{Standing}
use Rattle.gql_cst.specs.declared.turn.Turn.{Turn}
use Rattle.gql_cst.specs.declared.turn.Turn.TheVariants as turn
use Rattle.gql_cst.specs.Forest.{Plain, nothing}
use Rattle.gql_cst.specs.Judged.{word_in}
use Rattle.gql_cst.specs.bridge.Judged.{words_of, IsStood}
use Rattle.gql_cst.specs.Levels.{raised, levels, greatest, AreLevels, PassesLast, PassesNoneBeforeLast, NestsTo}
use Rattle.gql_cst.specs.bridge.Machine.{State, taken, Judges, told, ended, all_ended, grown}
use Rattle.gql_cst.specs.bridge.Nested.{levels_of, IsNested, EndsNested}
use Rattle.gql_cst.specs.Sentences.{words, root_kind}
use Rattle.gql_cst.specs.bridge.Sentences.{shown_of, empty}
use Rattle.gql_cst.specs.bridge.Sound.{depth, IsSound}
use Rattle.gql_cst.proofs.Ending.{Moved, keeps_told, state_of-told, still_judges}
use Rattle.gql_cst.proofs.Fronts.{stood_levels}
use Rattle.gql_cst.proofs.Held.{held, held-keeps}
use Rattle.gql_cst.proofs.Judging.{same_deepest, words-grown, words-ignored}
use Rattle.gql_cst.proofs.Levels.{append_none, raised-append, greatest-append, around, around-append, around-ended}
use Rattle.gql_cst.proofs.Rises.{taken_rises}
use Rattle.gql_cst.proofs.Sounds.{Keeps}

-- tokens that are ignored add no word
pub around-hidden : (text : List ℕ) (trees ignored : List Plain) → shown_of text ignored ≡ row.nothing → around text (trees ++ ignored) ≡ around text trees
around-hidden text trees ignored h = around-append text trees ignored ∙ ap (λ r. around text trees ++ levels r) h ∙ append_none (around text trees)

-- at the beginning of a text
pub new_nested : (p : Standing) → p.state ≡ empty → p.ignored ≡ [] → level (root_kind p.start) ≡ 0 → IsNested p
new_nested p e none root =
    let text = p.text in
    let no_levels : levels_of p ≡ [] =
    ap (λ s. around text (all_ended s ++ p.ignored)) e ∙ ap (λ i. around text (all_ended empty ++ i)) none in
    let no_words : words_of p ≡ [] =
    ap (λ s. words text (held s p.ignored)) e ∙ ap (λ i. words text (held empty i)) none in
    record {
      root = root;
      deepest = ap (λ s. s.deepest) e ∙ ap greatest (sym no_levels);
      within = inl (omega (arith, ap greatest no_levels));
      each = ap length no_levels ∙ ap length (sym no_words);
    }

around_words : (p : Standing) → IsSound p.state → IsStood p → IsNested p → AreLevels p.start (words_of p) (levels_of p)
around_words p sound stood h =
    stood_levels p.start p.text p.begun p.state (words_of p) (levels_of p) h.root sound stood.stood
    (around-hidden p.text (all_ended p.state) p.ignored stood.hidden) h.each

-- ---- the reading ends where the parser stands

pub ends_nested : (p : Standing) (error : Option CstError) → IsSound p.state → IsStood p → IsNested p → NestsTo p.limits.recursion (levels_of p) error → EndsNested p error
ends_nested p error sound stood h n = record { deepest = h.deepest; nests = n; around = around_words p sound stood h }

passes_last : (limit d : ℕ) (ls : List ℕ) → d ≡ greatest ls → limit < d → PassesNoneBeforeLast limit ls → PassesLast limit ls
passes_last limit d ls e past h = elim h [
  | inl low ↦ absurd (omega (arith, e, past, low))
  | inr last ↦ last
]

pub limit_nested : (p : Standing) (range : Range ℕ) → IsSound p.state → IsStood p → IsNested p → p.limits.recursion < p.state.deepest → EndsNested p (Some (RecursionLimit range))
limit_nested p range sound stood h past =
    ends_nested p (Some (RecursionLimit range)) sound stood h (passes_last p.limits.recursion p.state.deepest (levels_of p) h.deepest past h.within)

pub token_limit_nested : (p : Standing) (n : ℕ) (range : Range ℕ) → IsSound p.state → IsStood p → IsNested p → EndsNested (record p { tokens = n }) (Some (TokenLimit range))
token_limit_nested p n range sound stood h = record { deepest = h.deepest; nests = h.within; around = around_words p sound stood h }

pub fault_nested : (p : Standing) (old new : Reading) (error : CstError) → IsSound p.state → IsStood p → IsNested p → ReadsError old new error → EndsNested p (Some error)
fault_nested p old new (Syntax BadCharacter range) sound stood h f = ends_nested p (Some (Syntax BadCharacter range)) sound stood h h.within
fault_nested p old new (Syntax OpenString range) sound stood h f = ends_nested p (Some (Syntax OpenString range)) sound stood h h.within
fault_nested p old new (Syntax BadEscape range) sound stood h f = ends_nested p (Some (Syntax BadEscape range)) sound stood h h.within
fault_nested p old new (Syntax BadNumber range) sound stood h f = ends_nested p (Some (Syntax BadNumber range)) sound stood h h.within
fault_nested p old new (Syntax EndOfText range) sound stood h f = absurd f.stands
fault_nested p old new (Syntax BadToken range) sound stood h f = absurd f.stands
fault_nested p old new (RecursionLimit range) sound stood h f = absurd f
fault_nested p old new (TokenLimit range) sound stood h f = absurd f

-- ---- the next word, or the end, was judged, and no level was opened

abbrev moved : Standing → State → Bool → Standing
moved p m b = record p { state = m; begun = b }

kept_levels : (p : Standing) (m : State) (b : Bool) → Keeps p.state m → levels_of (moved p m b) ≡ levels_of p
kept_levels p m b k =
    let text = p.text in
    let ignored = p.ignored in
    around-append text (all_ended m) ignored ∙ ap (λ z. z ++ around text ignored) (k.levels text) ∙ sym (around-append text (all_ended p.state) ignored)

kept_words : (p : Standing) (m : State) (b : Bool) → Keeps p.state m → words_of (moved p m b) ≡ words_of p
kept_words p m b k = ap (λ ls. words p.text ls) (held-keeps p.state m p.ignored k)

low_ends : (p : Standing) (m : State) (b : Bool) (error : Option CstError) → IsSound p.state → IsStood p → IsNested p → Keeps p.state m → m.deepest ≡ p.state.deepest
    → NestsTo p.limits.recursion (levels_of p) error → EndsNested (moved p m b) error
low_ends p m b error sound stood h k e n =
    let ls = kept_levels p m b k in
    record {
      deepest = e ∙ h.deepest ∙ ap greatest (sym ls);
      nests = subst (λ (l : List ℕ). NestsTo p.limits.recursion l error) (sym ls) n;
      around = subst (λ (l : List ℕ). AreLevels p.start (words_of (moved p m b)) l) (sym ls)
          (subst (λ (ws : List Word). AreLevels p.start ws (levels_of p)) (sym (kept_words p m b k)) (around_words p sound stood h));
    }

pub bad_nested : (p q : Standing) (t : Turn) (w : Word) (range : Range ℕ) → Moved p q → IsSound p.state → IsStood p → IsNested p → p.state.deepest ≤ p.limits.recursion
    → (t ≡ turn.Taken → ⊥) → Judges p.start (Some w) p.begun p.state (told t q.state) → EndsNested q (Some (Syntax BadToken range))
bad_nested p q t w range e sound stood h low not j =
    let k = keeps_told p.start (Some w) p.begun t p.state q.state sound j in
    subst (λ (r : Standing). EndsNested r (Some (Syntax BadToken range))) (sym e)
    (low_ends p q.state q.begun (Some (Syntax BadToken range)) sound stood h k (same_deepest p q t w not j) (omega (arith, low, h.deepest)))

end_deepest : (p q : Standing) (t : Turn) → Judges p.start None p.begun p.state (told t q.state) → q.state.deepest ≡ p.state.deepest
end_deepest p q t j = ap (λ s. s.deepest) (sym (state_of-told t q.state)) ∙ still_judges p.start p.begun p.state (told t q.state) j

pub cut_nested : (p q : Standing) (t : Turn) (range : Range ℕ) → Moved p q → IsSound p.state → IsStood p → IsNested p → p.state.deepest ≤ p.limits.recursion
    → Judges p.start None p.begun p.state (told t q.state) → EndsNested q (Some (Syntax EndOfText range))
cut_nested p q t range e sound stood h low j =
    let k = keeps_told p.start None p.begun t p.state q.state sound j in
    subst (λ (r : Standing). EndsNested r (Some (Syntax EndOfText range))) (sym e)
    (low_ends p q.state q.begun (Some (Syntax EndOfText range)) sound stood h k (end_deepest p q t j) (omega (arith, low, h.deepest)))

pub whole_nested : (p q : Standing) (t : Turn) → Moved p q → IsSound p.state → IsStood p → IsNested p → p.state.deepest ≤ p.limits.recursion
    → Judges p.start None p.begun p.state (told t q.state) → EndsNested q None
whole_nested p q t e sound stood h low j =
    let k = keeps_told p.start None p.begun t p.state q.state sound j in
    subst (λ (r : Standing). EndsNested r None) (sym e)
    (low_ends p q.state q.begun None sound stood h k (end_deepest p q t j) (omega (arith, low, h.deepest)))

-- ---- a word was taken

greatest-one : (ls : List ℕ) (n : ℕ) → greatest (ls ++ (n ∷ [])) ≡ max (greatest ls) n
greatest-one ls n = omega (arith, greatest-append ls (n ∷ []))

within_then : (limit d n : ℕ) (ls : List ℕ) → d ≡ greatest ls → d ≤ limit → n ≤ d + 1 → (limit < n) ⊎ (n ≤ limit) → PassesNoneBeforeLast limit (ls ++ (n ∷ []))
within_then limit d n ls e low step (inr small) = inl (omega (arith, greatest-one ls n, e, low, small))
within_then limit d n ls e low step (inl past) =
    let is : n ≡ limit + 1 = omega (arith, low, step, past) in
    inr (record { before = ls; last = ap (λ k. ls ++ (k ∷ [])) is; within = omega (arith, e, low) })

-- the levels with the one more
took_at : (text : List ℕ) (s : State) (trees : List Plain) → IsSound s → around text trees ≡ around text s.row ++ (0 ∷ [])
    → around text (ended s.stack trees s.rows) ≡ around text (all_ended s) ++ (s.level ∷ [])
took_at text s trees sound all =
    let d = depth s.stack in
    let front = around text (ended s.stack [] s.rows) in
    let own = around text s.row in
    let deep : d + 0 ≡ s.level = omega (arith, sound.level) in
    around-ended text s.stack trees s.rows sound.nodes ∙ ap (λ z. front ++ raised d z) all ∙ ap (λ z. front ++ z) (raised-append d own (0 ∷ []))
    ∙ sym (append_assoc front (raised d own) ((d + 0) ∷ [])) ∙ ap (λ z. z ++ ((d + 0) ∷ [])) (sym (around-ended text s.stack s.row s.rows sound.nodes))
    ∙ ap (λ n. around text (all_ended s) ++ (n ∷ [])) deep

took_levels : (text : List ℕ) (s : State) (ignored : List Plain) (t : Plain) → IsSound s → shown_of text ignored ≡ row.nothing → around text (t ∷ []) ≡ 0 ∷ []
    → around text (all_ended (grown (ignored ++ (t ∷ [])) s)) ≡ around text (all_ended s) ++ (s.level ∷ [])
took_levels text s ignored t sound hidden leaf =
    let more = around text (s.row ++ (ignored ++ (t ∷ []))) in
    let all : more ≡ around text s.row ++ (0 ∷ []) =
    around-append text s.row (ignored ++ (t ∷ [])) ∙ ap (λ z. around text s.row ++ z) (around-append text ignored (t ∷ []) ∙ ap (λ r. levels r ++ around text (t ∷ [])) hidden ∙ leaf) in
    took_at text s (s.row ++ (ignored ++ (t ∷ []))) sound all

pub took_nested : (p q r : Standing) (t : Turn) (tree : Plain) (w : Word) (range : Range ℕ) → Moved p q → t ≡ turn.Taken → IsSound p.state → IsStood p → IsNested p
    → p.state.deepest ≤ p.limits.recursion → w ≡ word_in p.text range
    → Judges p.start (Some w) p.begun p.state (told t q.state) → tree ≡ record { kind = kind.Token; start = range.start; end = range.end; children = nothing }
    → r.state ≡ grown (q.ignored ++ (tree ∷ [])) q.state → r.ignored ≡ []
    → IsNested (record q { state = r.state; ignored = r.ignored })
took_nested p q r t tree w range e is_taken sound stood h low is j leaf g none =
    let j2 = subst (λ (x : Turn). Judges p.start (Some w) p.begun p.state (told x q.state)) is_taken j in
    let g2 = subst (λ (i : _). r.state ≡ grown (i ++ (tree ∷ [])) q.state) (ap (λ x. x.ignored) e) g in
    subst (λ (x : Standing). IsNested (record x { state = r.state; ignored = r.ignored })) (sym e) (took p q r tree w range sound stood h low is j2 leaf g2 none)
  where
    took : (p q r : Standing) (tree : Plain) (w : Word) (range : Range ℕ) → IsSound p.state → IsStood p → IsNested p → p.state.deepest ≤ p.limits.recursion → w ≡ word_in p.text range
        → Judges p.start (Some w) p.begun p.state (taken q.state) → tree ≡ record { kind = kind.Token; start = range.start; end = range.end; children = nothing }
        → r.state ≡ grown (p.ignored ++ (tree ∷ [])) q.state → r.ignored ≡ []
        → IsNested (record p { state = r.state; begun = q.begun; ignored = r.ignored })
    took p q r tree w range sound stood h low is j leaf g none =
        let text = p.text in
        let ignored = p.ignored in
        let s = q.state in
        let k = keeps_told p.start (Some w) p.begun turn.Taken p.state s sound j in
        let rise = taken_rises p.start w p.begun p.state s sound j in
        let one : around text (tree ∷ []) ≡ 0 ∷ [] = ap (λ x. around text (x ∷ [])) leaf in
        let new : around text (all_ended r.state) ≡ levels_of p ++ (s.level ∷ []) =
        ap (λ x. around text (all_ended x)) g ∙ took_levels text s ignored tree k.sound stood.hidden one
        ∙ ap (λ z. z ++ (s.level ∷ [])) (k.levels text ∙ sym (around-hidden text (all_ended p.state) ignored stood.hidden)) in
        let all : around text (all_ended r.state ++ r.ignored) ≡ levels_of p ++ (s.level ∷ []) =
        around-hidden text (all_ended r.state) r.ignored (ap (λ i. shown_of text i) none) ∙ new in
        let deep : r.state.deepest ≡ s.deepest = ap (λ x. x.deepest) g in
        let ws = words-grown p r q.state tree w range s sound is j leaf q.state refl g none in
        record {
          root = h.root;
          deepest = deep ∙ rise.0 ∙ ap (λ n. max n s.level) h.deepest ∙ sym (greatest-one (levels_of p) s.level) ∙ ap greatest (sym all);
          within = subst (λ (l : List ℕ). PassesNoneBeforeLast p.limits.recursion l) (sym all)
              (within_then p.limits.recursion p.state.deepest s.level (levels_of p) h.deepest low rise.1 (cases_lt p.limits.recursion s.level));
          each = omega (arith, ap length all, length-append (levels_of p) (s.level ∷ []), h.each, ap length ws, length-append (words_of p) (w ∷ []));
        }

-- ---- an ignored token

pub ignored_nested : (p q : Standing) (tree : Plain) (range : Range ℕ) (n : ℕ) → IsStood p → IsNested p → IsStood (record p { ignored = q.ignored; tokens = n })
    → tree ≡ record { kind = kind.Ignored; start = range.start; end = range.end; children = nothing } → q.ignored ≡ p.ignored ++ (tree ∷ [])
    → IsNested (record p { ignored = q.ignored; tokens = n })
ignored_nested p q tree range n stood h new leaf more =
    let text = p.text in
    let same : levels_of (record p { ignored = q.ignored; tokens = n }) ≡ levels_of p =
    around-hidden text (all_ended p.state) q.ignored new.hidden
    ∙ sym (around-hidden text (all_ended p.state) p.ignored stood.hidden) in
    record {
      root = h.root;
      deepest = h.deepest ∙ ap greatest (sym same);
      within = subst (λ (l : List ℕ). PassesNoneBeforeLast p.limits.recursion l) (sym same) h.within;
      each = ap length same ∙ h.each ∙ ap length (sym (words-ignored p q tree range leaf more));
    }
