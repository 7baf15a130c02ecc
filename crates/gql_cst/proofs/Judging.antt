-- What a parser's steps tell of the sentences of the grammar.
use Rattle.std.proofs.Common.{◌≡◌, ℕ, Bool, true, false, List, [], ◌∷◌, ◌++◌, map, Option, Some, None, is_some, refl, ◌∙◌, sym, ap, subst, append_assoc, ◌<◌, arith}
use Rattle.std.specs.Prelude.{slice_range}
use Rattle.std.specs.declared.ops.Range.{Range}
use Rattle.gql_lexer.specs.declared.error.CstError.{CstError}
use Rattle.gql_lexer.specs.declared.error.CstError.TheVariants.{Syntax, RecursionLimit, TokenLimit}
use Rattle.gql_lexer.specs.declared.error.SyntaxFault.TheVariants.{EndOfText, BadCharacter, OpenString, BadEscape, BadNumber, BadToken}
use Rattle.gql_lexer.specs.bridge.Reading.{Reading, ReadsError}
use Rattle.gql_grammar.specs.declared.word.Word.{Word}
use Rattle.gql_grammar.specs.declared.rule.Rule.{Rule}
use Rattle.gql_grammar.specs.declared.symbol.Symbol.{Symbol}
use Rattle.gql_grammar.specs.declared.syntax_kind.SyntaxKind.{SyntaxKind}
use Rattle.gql_grammar.specs.declared.syntax_kind.SyntaxKind.TheVariants as kind
use Rattle.gql_grammar.specs.Reads.{Sentence, IsBeginning}
use Rattle.gql_grammar.specs.Row as row
use Rattle.gql_grammar.specs.Row.{Row, joined, with_leaf}
use Rattle.gql_grammar.specs.Rule.{kind_of}
use Rattle.gql_grammar.specs.bridge.Stands.{BetweenIn, way_at}
use Rattle.gql_grammar.proofs.Unique.{Sentence-unique}
use Rattle.gql_grammar.proofs.Rooted.{none_beginning, look_in, begun_in, accepted_in}
use Rattle.gql_cst.specs.declared.turn.Turn.{Turn}
use Rattle.gql_cst.specs.declared.turn.Turn.TheVariants as turn
use Rattle.gql_cst.specs.bridge.Standing.{Standing}
use Rattle.gql_cst.specs.Cut.{is_filled, IsCut}
use Rattle.gql_cst.specs.Forest.{Plain, nothing}
use Rattle.gql_cst.specs.Leaves.{Leaf}
use Rattle.gql_cst.specs.bridge.Leaves.{leaves_of}
use Rattle.gql_cst.specs.Judged.{word_in}
use Rattle.gql_cst.specs.bridge.Judged.{words_of, IsFilled, IsStood, IsJudged}
use Rattle.gql_cst.specs.bridge.Machine.{State, Turned, again, taken, refused, finished, Settles, takes_it, refuses_it, finishes, later, Begins, Judges, told, ended, all_ended, grown}
use Rattle.gql_cst.specs.bridge.Progress.{trees}
use Rattle.gql_cst.specs.Sentences.{words, own_word, root_kind}
use Rattle.gql_cst.specs.bridge.Sentences.{shown_of, Stood}
use Rattle.gql_cst.specs.bridge.Sound.{IsSound}
use Rattle.gql_cst.specs.Words.{word_of}
use Rattle.gql_cst.proofs.Ending.{Moved, keeps_told}
use Rattle.gql_cst.proofs.Held.{held, held-keeps, held-ignored, held-grown}
use Rattle.gql_cst.proofs.Opening.{Closed, judges_closed}
use Rattle.gql_cst.proofs.Cutting.{CutAt, CutTold, stood_cut, judges_cut}
use Rattle.gql_cst.proofs.Cuts.{filled_leaf}
use Rattle.gql_cst.proofs.Deeper.{deeper}
use Rattle.gql_cst.proofs.Shown.{shown_of-append}
use Rattle.gql_cst.proofs.Verdicts.{Verdict, judges_verdict}

-- ---- words

pub words-append : (text : List ℕ) (xs ys : List Leaf) → words text (xs ++ ys) ≡ words text xs ++ words text ys
words-append text [] ys = refl
words-append text (x ∷ xs) ys =
    let own = own_word x.part (word_of (slice_range text x.start x.end)) in
    ap (λ z. own ++ z) (words-append text xs ys) ∙ sym (append_assoc own (words text xs) (words text ys))

nil : {A : Type 0} (xs : List A) → xs ++ [] ≡ xs
nil [] = refl
nil (x ∷ xs) = ap (λ ys. x ∷ ys) (nil xs)

joined-nothing : (x : Row) → joined x row.nothing ≡ x
joined-nothing row.nothing = refl
joined-nothing (row.leaf w x) = ap (λ y. row.leaf w y) (joined-nothing x)
joined-nothing (row.node k inner x) = ap (λ y. row.node k inner y) (joined-nothing x)

-- ---- what was read begins a sentence

begins_at : (start : Rule) (text : List ℕ) (begun : Bool) (s : State) (before : List Word) → is_some (kind_of start) ≡ true → Stood start text begun s before → IsBeginning start before
begins_at start text true s before h stood = begun_in (look_in stood None)
begins_at start text false s before h stood = subst (λ (ws : List Word). IsBeginning start ws) (sym stood.1) (none_beginning start h)

pub begins : (p : Standing) → IsStood p → IsBeginning p.start (words_of p)
begins p h = begins_at p.start p.text p.begun p.state (words_of p) h.starts h.stood

with_ignored : (start : Rule) (text : List ℕ) (s : State) (ignored : List Plain) (before : List Word) → shown_of text ignored ≡ row.nothing
    → CutAt start text before s → IsCut start before (shown_of text (all_ended s ++ ignored))
with_ignored start text s ignored before hidden c =
    let trees = all_ended s in
    let same : shown_of text (trees ++ ignored) ≡ shown_of text trees =
    shown_of-append text trees ignored ∙ ap (λ x. joined (shown_of text trees) x) hidden ∙ joined-nothing (shown_of text trees) in
    subst (λ (x : Row). IsCut start before x) (sym same) c

-- its trees are those of a sentence, cut there
pub cuts : (p : Standing) → IsSound p.state → IsStood p → IsCut p.start (words_of p) (shown_of p.text (trees p))
cuts p sound h =
    with_ignored p.start p.text p.state p.ignored (words_of p) h.hidden
    (stood_cut p.start p.text p.begun p.state (words_of p) h.starts sound h.filled h.stood)

pub limit_judged : (p : Standing) (range : Range ℕ) → IsSound p.state → IsStood p → p.limits.recursion < p.state.deepest → IsJudged p (Some (RecursionLimit range))
limit_judged p range sound h past = record {
  begins = begins p h;
  cut = cuts p sound h;
  judged = λ more other d.
      omega (arith, past, deeper p.start p.text p.begun p.state (words_of p) sound h.stood more other d);
}

pub token_limit_judged : (p : Standing) (n : ℕ) (range : Range ℕ) → IsSound p.state → IsStood p → IsJudged (record p { tokens = n }) (Some (TokenLimit range))
token_limit_judged p n range sound h = record { begins = begins p h; cut = cuts p sound h; judged = tt }

-- a fault of the text itself
pub fault_judged : (p : Standing) (old new : Reading) (error : CstError) → IsSound p.state → IsStood p → ReadsError old new error → IsJudged p (Some error)
fault_judged p old new (Syntax BadCharacter range) sound h f = record { begins = begins p h; cut = cuts p sound h; judged = tt }
fault_judged p old new (Syntax OpenString range) sound h f = record { begins = begins p h; cut = cuts p sound h; judged = tt }
fault_judged p old new (Syntax BadEscape range) sound h f = record { begins = begins p h; cut = cuts p sound h; judged = tt }
fault_judged p old new (Syntax BadNumber range) sound h f = record { begins = begins p h; cut = cuts p sound h; judged = tt }
fault_judged p old new (Syntax EndOfText range) sound h f = absurd f.stands
fault_judged p old new (Syntax BadToken range) sound h f = absurd f.stands
fault_judged p old new (RecursionLimit range) sound h f = absurd f
fault_judged p old new (TokenLimit range) sound h f = absurd f

-- ---- a judged word

abbrev IsEnd : Turned → Type 0
IsEnd (again s) = ⊥
IsEnd (taken s) = Unit {0}
IsEnd (refused s) = Unit {0}
IsEnd (finished s) = Unit {0}

settles_end : (next : Option Word) (s : State) (end : Turned) → Settles next s end → IsEnd end
settles_end next s _ (takes_it e) = tt
settles_end next s _ (refuses_it e) = tt
settles_end next s _ (finishes e) = tt
settles_end next s end (later {new = new} e more) = settles_end next new end more

begins_end : (w : Option (List Symbol)) (next : Option Word) (s : State) (end : Turned) → Begins w next s end → IsEnd end
begins_end None next s end e = subst (λ (t : Turned). IsEnd t) (sym e) tt
begins_end (Some a) next s end h = settles_end next _ end h

judges_end : (start : Rule) (next : Option Word) (begun : Bool) (s : State) (end : Turned) → Judges start next begun s end → IsEnd end
judges_end start next true s end j = settles_end next s end j
judges_end start next false s end j = begins_end (way_at start next) next s end j

refuses : (start : Rule) (k : SyntaxKind) (text : List ℕ) (before : List Word) (w : Word) (t : Turn) (s : State) → IsEnd (told t s) → (t ≡ turn.Taken → ⊥)
    → Verdict start k text before (Some w) (told t s) → IsBeginning start (before ++ (w ∷ [])) → ⊥
refuses start k text before w turn.Again s end not v = absurd end
refuses start k text before w turn.Taken s end not v = absurd (not refl)
refuses start k text before w turn.Refused s end not v = v
refuses start k text before w turn.Finished s end not v = v

told_cut : (start : Rule) (text : List ℕ) (before : List Word) (t : Turn) (s : State) → IsEnd (told t s) → (t ≡ turn.Taken → ⊥) → CutTold start text before (told t s)
    → CutAt start text before s
told_cut start text before turn.Again s end not c = absurd end
told_cut start text before turn.Taken s end not c = absurd (not refl)
told_cut start text before turn.Refused s end not c = c
told_cut start text before turn.Finished s end not c = c

-- the trees are cut where they were, also behind the nodes that ended
judged_cuts : (p : Standing) (m : State) (t : Turn) (next : Option Word) → IsSound p.state → IsStood p → (t ≡ turn.Taken → ⊥)
    → Judges p.start next p.begun p.state (told t m) → IsCut p.start (words_of p) (shown_of p.text (all_ended m ++ p.ignored))
judged_cuts p m t next sound h not j =
    let end = told t m in
    with_ignored p.start p.text m p.ignored (words_of p) h.hidden
    (told_cut p.start p.text (words_of p) t m (judges_end p.start next p.begun p.state end j) not
    (judges_cut p.start p.text next p.begun p.state (words_of p) end h.starts sound h.filled h.stood j))

bad_at : (p : Standing) (m : State) (b : Bool) (t : Turn) (w : Word) (range : Range ℕ) → IsSound p.state → IsStood p → w ≡ word_in p.text range
    → (t ≡ turn.Taken → ⊥) → Judges p.start (Some w) p.begun p.state (told t m) → IsJudged (record p { state = m; begun = b }) (Some (Syntax BadToken range))
bad_at p m b t w range sound h is not j =
    let v = judges_verdict p.start p.text (Some w) p.begun p.state (words_of p) (told t m) h.starts sound h.stood j in
    let no : IsBeginning p.start (words_of p ++ (word_in p.text range ∷ [])) → ⊥ =
    subst (λ (v : Word). IsBeginning p.start (words_of p ++ (v ∷ [])) → ⊥) is
    (refuses p.start (root_kind p.start) p.text (words_of p) w t m (judges_end p.start (Some w) p.begun p.state (told t m) j) not v) in
    let same : words_of p ≡ words p.text (held m p.ignored) =
    ap (λ ls. words p.text ls) (sym (held-keeps p.state m p.ignored (keeps_told p.start (Some w) p.begun t p.state m sound j))) in
    record {
      begins = subst (λ (ws : List Word). IsBeginning p.start ws) same (begins p h);
      cut = subst (λ (ws : List Word). IsCut p.start ws (shown_of p.text (all_ended m ++ p.ignored))) same (judged_cuts p m t (Some w) sound h not j);
      judged = subst (λ (ws : List Word). IsBeginning p.start (ws ++ (word_in p.text range ∷ [])) → ⊥) same no;
    }

pub bad_judged : (p q : Standing) (t : Turn) (w : Word) (range : Range ℕ) → Moved p q → IsSound p.state → IsStood p → w ≡ word_in p.text range
    → (t ≡ turn.Taken → ⊥) → Judges p.start (Some w) p.begun p.state (told t q.state) → IsJudged q (Some (Syntax BadToken range))
bad_judged p q t w range e sound h is not j = subst (λ (r : Standing). IsJudged r (Some (Syntax BadToken range))) (sym e) (bad_at p q.state q.begun t w range sound h is not j)

closed_at : (t : Turn) (s : State) (d : ℕ) → IsEnd (told t s) → (t ≡ turn.Taken → ⊥) → Closed d (told t s) → s.deepest ≡ d
closed_at turn.Again s d end not c = absurd end
closed_at turn.Taken s d end not c = absurd (not refl)
closed_at turn.Refused s d end not c = c
closed_at turn.Finished s d end not c = c

-- it opened no level
pub same_deepest : (p q : Standing) (t : Turn) (w : Word) → (t ≡ turn.Taken → ⊥)
    → Judges p.start (Some w) p.begun p.state (told t q.state) → q.state.deepest ≡ p.state.deepest
same_deepest p q t w not j =
    let end = told t q.state in
    closed_at t q.state p.state.deepest (judges_end p.start (Some w) p.begun p.state end j) not (judges_closed p.start w p.begun p.state end j)

-- ---- a taken word

taken_row : (p : Standing) (s : State) (tree : Plain) (w : Word) (range : Range ℕ) → IsStood p → w ≡ word_in p.text range
    → tree ≡ record { kind = kind.Token; start = range.start; end = range.end; children = nothing }
    → shown_of p.text (s.row ++ (p.ignored ++ (tree ∷ []))) ≡ with_leaf (shown_of p.text s.row) w
taken_row p s tree w range h is leaf =
    let text = p.text in
    let ignored = p.ignored in
    let one : shown_of text (tree ∷ []) ≡ row.leaf w row.nothing = ap (λ t. shown_of text (t ∷ [])) leaf ∙ ap (λ u. row.leaf u row.nothing) (sym is) in
    let both : shown_of text (ignored ++ (tree ∷ [])) ≡ row.leaf w row.nothing =
    shown_of-append text ignored (tree ∷ []) ∙ ap (λ x. joined x (shown_of text (tree ∷ []))) h.hidden ∙ one in
    shown_of-append text s.row (ignored ++ (tree ∷ [])) ∙ ap (λ x. joined (shown_of text s.row) x) both

took_at : (p : Standing) (s : State) (m : State) (tree : Plain) (w : Word) (range : Range ℕ) → IsSound p.state → IsStood p → w ≡ word_in p.text range
    → Judges p.start (Some w) p.begun p.state (taken s) → tree ≡ record { kind = kind.Token; start = range.start; end = range.end; children = nothing }
    → m ≡ grown (p.ignored ++ (tree ∷ [])) s
    → (before : List Word) → before ≡ words_of p ++ (w ∷ [])
    → Stood p.start p.text true m before
took_at p s m tree w range sound h is j leaf g before b =
    let text = p.text in
    let ignored = p.ignored in
    let v : BetweenIn p.start (root_kind p.start) (words_of p ++ (w ∷ [])) s.stack (with_leaf (shown_of text s.row) w) (map (shown_of text) s.rows) =
    judges_verdict p.start text (Some w) p.begun p.state (words_of p) (taken s) h.starts sound h.stood j in
    let all = taken_row p s tree w range h is leaf in
    let v2 = subst (λ (x : Row). BetweenIn p.start (root_kind p.start) (words_of p ++ (w ∷ [])) s.stack x (map (shown_of text) s.rows)) (sym all) v in
    let v3 = subst (λ (ws : List Word). BetweenIn p.start (root_kind p.start) ws s.stack (shown_of text (s.row ++ (ignored ++ (tree ∷ [])))) (map (shown_of text) s.rows)) (sym b) v2 in
    subst (λ (x : State). Stood p.start text true x before) (sym g) v3

pub words-grown : (p q : Standing) (m : State) (tree : Plain) (w : Word) (range : Range ℕ) (s : State) → IsSound p.state → w ≡ word_in p.text range
    → Judges p.start (Some w) p.begun p.state (taken s) → tree ≡ record { kind = kind.Token; start = range.start; end = range.end; children = nothing }
    → (mm : State) → mm ≡ s → q.state ≡ grown (p.ignored ++ (tree ∷ [])) s → q.ignored ≡ []
    → words p.text (held q.state q.ignored) ≡ words_of p ++ (w ∷ [])
words-grown p q m tree w range s sound is j leaf mm e g none =
    let text = p.text in
    let ignored = p.ignored in
    let k = keeps_told p.start (Some w) p.begun turn.Taken p.state s sound j in
    let f : held q.state q.ignored ≡ held p.state ignored ++ leaves_of (tree ∷ []) =
    ap (λ i. held q.state i) none ∙ ap (λ x. held x []) g ∙ held-grown s ignored tree k.sound
    ∙ ap (λ ls. ls ++ leaves_of (tree ∷ [])) (held-keeps p.state s ignored k) in
    let one : words text (leaves_of (tree ∷ [])) ≡ w ∷ [] = ap (λ t. words text (leaves_of (t ∷ []))) leaf ∙ ap (λ u. u ∷ []) (sym is) in
    ap (λ ls. words text ls) f ∙ words-append text (held p.state ignored) (leaves_of (tree ∷ [])) ∙ ap (λ z. words_of p ++ z) one

took_filled : (p : Standing) (s : State) (m : State) (tree : Plain) (w : Word) (range : Range ℕ) → IsStood p → w ≡ word_in p.text range
    → tree ≡ record { kind = kind.Token; start = range.start; end = range.end; children = nothing } → m ≡ grown (p.ignored ++ (tree ∷ [])) s
    → is_filled (shown_of p.text m.row) ≡ true
took_filled p s m tree w range h is leaf g =
    let text = p.text in
    let all : shown_of text (s.row ++ (p.ignored ++ (tree ∷ []))) ≡ with_leaf (shown_of text s.row) w = taken_row p s tree w range h is leaf in
    subst (λ (x : State). is_filled (shown_of text x.row) ≡ true) (sym g) (subst (λ (x : Row). is_filled x ≡ true) (sym all) (filled_leaf (shown_of text s.row) w))

took_in : (p q : Standing) (m : State) (b : Bool) (tree : Plain) (w : Word) (range : Range ℕ) → b ≡ true → IsSound p.state → IsStood p → w ≡ word_in p.text range
    → Judges p.start (Some w) p.begun p.state (taken m) → tree ≡ record { kind = kind.Token; start = range.start; end = range.end; children = nothing }
    → q.state ≡ grown (p.ignored ++ (tree ∷ [])) m → q.ignored ≡ []
    → IsStood (record p { state = q.state; begun = b; ignored = q.ignored })
took_in p q m b tree w range begun sound h is j leaf g none =
    let before = words p.text (held q.state q.ignored) in
    let stood = took_at p m q.state tree w range sound h is j leaf g before (words-grown p q m tree w range m sound is j leaf m refl g none) in
    record {
      starts = h.starts;
      hidden = ap (λ i. shown_of p.text i) none;
      stood = subst (λ (x : Bool). Stood p.start p.text x q.state before) (sym begun) stood;
      filled = subst (λ (x : Bool). IsFilled x p.text q.state) (sym begun) (took_filled p m q.state tree w range h is leaf g);
    }

pub took_stands : (p q r : Standing) (t : Turn) (tree : Plain) (w : Word) (range : Range ℕ) → Moved p q → t ≡ turn.Taken → q.begun ≡ true → IsSound p.state → IsStood p → w ≡ word_in p.text range
    → Judges p.start (Some w) p.begun p.state (told t q.state) → tree ≡ record { kind = kind.Token; start = range.start; end = range.end; children = nothing }
    → r.state ≡ grown (q.ignored ++ (tree ∷ [])) q.state → r.ignored ≡ []
    → IsStood (record q { state = r.state; ignored = r.ignored })
took_stands p q r t tree w range e is_taken begun sound h is j leaf g none =
    let j2 = subst (λ (x : Turn). Judges p.start (Some w) p.begun p.state (told x q.state)) is_taken j in
    let g2 = subst (λ (i : _). r.state ≡ grown (i ++ (tree ∷ [])) q.state) (ap (λ x. x.ignored) e) g in
    subst (λ (x : Standing). IsStood (record x { state = r.state; ignored = r.ignored })) (sym e)
    (took_in p r q.state q.begun tree w range begun sound h is j2 leaf g2 none)

-- ---- an ignored token

pub words-ignored : (p q : Standing) (tree : Plain) (range : Range ℕ)
    → tree ≡ record { kind = kind.Ignored; start = range.start; end = range.end; children = nothing } → q.ignored ≡ p.ignored ++ (tree ∷ [])
    → words p.text (held p.state q.ignored) ≡ words_of p
words-ignored p q tree range leaf more =
    let text = p.text in
    let old = p.ignored in
    let m : q.ignored ≡ old ++ (tree ∷ []) = more in
    ap (λ i. words text (held p.state i)) m ∙ ap (λ ls. words text ls) (held-ignored p.state old tree)
    ∙ words-append text (held p.state old) (leaves_of (tree ∷ [])) ∙ ap (λ t. words_of p ++ words text (leaves_of (t ∷ []))) leaf ∙ nil (words_of p)

pub ignored_stands : (p q : Standing) (tree : Plain) (range : Range ℕ) (n : ℕ) → IsStood p
    → tree ≡ record { kind = kind.Ignored; start = range.start; end = range.end; children = nothing } → q.ignored ≡ p.ignored ++ (tree ∷ [])
    → IsStood (record p { ignored = q.ignored; tokens = n })
ignored_stands p q tree range n h leaf more =
    let text = p.text in
    let old = p.ignored in
    let m : q.ignored ≡ old ++ (tree ∷ []) = more in
    let hidden = ap (shown_of text) m ∙ shown_of-append text old (tree ∷ []) ∙ ap (λ x. joined x (shown_of text (tree ∷ []))) h.hidden ∙ ap (λ t. shown_of text (t ∷ [])) leaf in
    let f : words_of p ≡ words text (held p.state q.ignored) = sym (words-ignored p q tree range leaf more) in
    record {
      starts = h.starts;
      hidden = hidden;
      stood = subst (λ (ws : List Word). Stood p.start text p.begun p.state ws) f h.stood;
      filled = h.filled;
    }

-- ---- the end of the text

cut_at : (p : Standing) (m : State) (b : Bool) (t : Turn) (range : Range ℕ) → IsSound p.state → IsStood p
    → (t ≡ turn.Finished → ⊥) → Judges p.start None p.begun p.state (told t m) → IsJudged (record p { state = m; begun = b }) (Some (Syntax EndOfText range))
cut_at p m b t range sound h not j =
    let v = judges_verdict p.start p.text None p.begun p.state (words_of p) (told t m) h.starts sound h.stood j in
    let no : (f : Row) → Sentence p.start (words_of p) f → ⊥ =
    too_short p.start (root_kind p.start) p.text (words_of p) t m (judges_end p.start None p.begun p.state (told t m) j) not v in
    let same : words_of p ≡ words p.text (held m p.ignored) =
    ap (λ ls. words p.text ls) (sym (held-keeps p.state m p.ignored (keeps_told p.start None p.begun t p.state m sound j))) in
    record {
      begins = subst (λ (ws : List Word). IsBeginning p.start ws) same (begins p h);
      cut = subst (λ (ws : List Word). IsCut p.start ws (shown_of p.text (all_ended m ++ p.ignored))) same
          (judged_cuts p m t None sound h (untaken p.start (root_kind p.start) p.text (words_of p) t m v) j);
      judged = subst (λ (ws : List Word). (f : Row) → Sentence p.start ws f → ⊥) same no;
    }
  where
    too_short : (start : Rule) (k : SyntaxKind) (text : List ℕ) (before : List Word) (t : Turn) (s : State) → IsEnd (told t s) → (t ≡ turn.Finished → ⊥)
        → Verdict start k text before None (told t s) → (f : Row) → Sentence start before f → ⊥
    too_short start k text before turn.Again s end not v = absurd end
    too_short start k text before turn.Taken s end not v = absurd v
    too_short start k text before turn.Refused s end not v = v
    too_short start k text before turn.Finished s end not v = absurd (not refl)

    untaken : (start : Rule) (k : SyntaxKind) (text : List ℕ) (before : List Word) (t : Turn) (s : State) → Verdict start k text before None (told t s) → t ≡ turn.Taken → ⊥
    untaken start k text before turn.Again s v e = cc
    untaken start k text before turn.Taken s v e = v
    untaken start k text before turn.Refused s v e = cc
    untaken start k text before turn.Finished s v e = cc

pub cut_judged : (p q : Standing) (t : Turn) (range : Range ℕ) → Moved p q → IsSound p.state → IsStood p
    → (t ≡ turn.Finished → ⊥) → Judges p.start None p.begun p.state (told t q.state) → IsJudged q (Some (Syntax EndOfText range))
cut_judged p q t range e sound h not j = subst (λ (r : Standing). IsJudged r (Some (Syntax EndOfText range))) (sym e) (cut_at p q.state q.begun t range sound h not j)

finished_untaken : turn.Finished ≡ turn.Taken → ⊥
finished_untaken e = cc

whole_at : (p : Standing) (m : State) (b : Bool) → IsSound p.state → IsStood p
    → Judges p.start None p.begun p.state (finished m) → IsJudged (record p { state = m; begun = b }) None
whole_at p m b sound h j =
    let text = p.text in
    let ignored = p.ignored in
    let k = root_kind p.start in
    let v = judges_verdict p.start text None p.begun p.state (words_of p) (finished m) h.starts sound h.stood j in
    let s : Sentence p.start (words_of p) (row.node k (shown_of text m.row) row.nothing) = accepted_in v.1 in
    let same : words_of p ≡ words text (held m ignored) =
    ap (λ ls. words text ls) (sym (held-keeps p.state m ignored (keeps_told p.start None p.begun turn.Finished p.state m sound j))) in
    let all : all_ended m ≡ m.row = ap (λ ss. ended ss m.row m.rows) v.0 in
    let tree : shown_of text (all_ended m ++ ignored) ≡ shown_of text m.row =
    shown_of-append text (all_ended m) ignored ∙ ap (λ x. joined (shown_of text (all_ended m)) x) h.hidden ∙ joined-nothing (shown_of text (all_ended m)) ∙ ap (shown_of text) all in
    let s2 = subst (λ (x : Row). Sentence p.start (words_of p) (row.node k x row.nothing)) (sym tree) s in
    let s3 = subst (λ (ws : List Word). Sentence p.start ws (row.node k (shown_of text (all_ended m ++ ignored)) row.nothing)) same s2 in
    record {
      begins = subst (λ (ws : List Word). IsBeginning p.start ws) same (begins p h);
      cut = subst (λ (ws : List Word). IsCut p.start ws (shown_of text (all_ended m ++ ignored))) same (judged_cuts p m turn.Finished None sound h finished_untaken j);
      judged = (s3, λ other d. Sentence-unique d s3);
    }

pub whole_judged : (p q : Standing) (t : Turn) → Moved p q → t ≡ turn.Finished → IsSound p.state → IsStood p
    → Judges p.start None p.begun p.state (told t q.state) → IsJudged q None
whole_judged p q t e is sound h j =
    let j2 = subst (λ (x : Turn). Judges p.start None p.begun p.state (told x q.state)) is j in
    subst (λ (r : Standing). IsJudged r None) (sym e) (whole_at p q.state q.begun sound h j2)
