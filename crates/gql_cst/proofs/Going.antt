-- A parser goes on by a token, or ends.
use Rattle.std.proofs.Common.{◌≡◌, ℕ, ◌+◌, ◌<◌, ◌≤◌, Bool, true, false, List, [], ◌∷◌, ◌++◌, length, Option, Some, None, is_some, refl, ◌∙◌, sym, ap, subst, arith}
use Rattle.std.specs.declared.ops.Range.{Range}
use Rattle.gql_lexer.specs.bridge.Reading.{Reading, ReadsError}
use Rattle.gql_lexer.specs.declared.error.CstError.{CstError}
use Rattle.gql_lexer.specs.declared.error.CstError.TheVariants.{Syntax, RecursionLimit, TokenLimit}
use Rattle.gql_lexer.specs.declared.error.SyntaxFault.TheVariants.{EndOfText, BadCharacter, OpenString, BadEscape, BadNumber, BadToken}
use Rattle.gql_grammar.specs.declared.word.Word.{Word}
use Rattle.gql_grammar.specs.Row.{level}
use Rattle.gql_grammar.specs.Rule.{kind_of}
use Rattle.gql_cst.specs.declared.machine.Machine.{Machine}
use Rattle.gql_cst.specs.declared.made.Made.{Made}
use Rattle.gql_cst.specs.declared.parser.Parser.{Parser}
use Rattle.gql_cst.specs.declared.turn.Turn.{Turn}
use Rattle.gql_cst.specs.declared.turn.Turn.TheVariants as turn
use Rattle.gql_cst.specs.Forest.{Plain, row_of}
use Rattle.gql_cst.specs.bridge.Going.{standing, IsGoing, IsCounted, HasEnded, SameText, told_of, IsMade}
use Rattle.gql_cst.specs.bridge.Held.{Holds, Goes}
use Rattle.gql_cst.specs.Judged.{word_in}
use Rattle.gql_cst.specs.bridge.Judged.{IsStood}
use Rattle.gql_cst.specs.Leaves.{Part, ignored, IsLeaf}
use Rattle.gql_cst.specs.bridge.Machine.{State, Judges, told, grown, all_ended}
use Rattle.gql_cst.specs.bridge.Open.{Open, token as token_of, ignored as ignored_of, whole_text}
use Rattle.gql_cst.specs.Outcome.{IsWithin, Passes, Stops}
use Rattle.gql_cst.specs.Parses.{Parses}
use Rattle.gql_cst.specs.bridge.Progress.{IsRead, reached, trees, tokens_of, word_leaf}
use Rattle.gql_cst.specs.Sentences.{root_kind}
use Rattle.gql_cst.specs.bridge.Sentences.{empty}
use Rattle.gql_cst.specs.bridge.Standing.{Standing}
use Rattle.gql_cst.proofs.Ending.{limit_stops, limit_ends, bad_stops, takes_word, passes_ignored, moved_underway, moved_end, moved_cut}
use Rattle.gql_cst.proofs.Held.{depth-held}
use Rattle.gql_cst.proofs.Judging.{limit_judged, token_limit_judged, fault_judged, bad_judged, took_stands, ignored_stands, cut_judged, whole_judged}
use Rattle.gql_cst.proofs.Nested.{new_nested, limit_nested, token_limit_nested, fault_nested, bad_nested, took_nested, ignored_nested, cut_nested, whole_nested}
use Rattle.gql_cst.proofs.Spans.{spans-append, spans-node, spans-ended, root_node}
use Rattle.gql_cst.proofs.Whole.{accepts}

within-none : (limit : Option ℕ) (n : ℕ) → n ≡ 0 → IsWithin limit n
within-none None n e = tt
within-none (Some limit) n e = omega (arith, e)

fault-stops : (s : Standing) (old new : Reading) (error : CstError) → IsRead s old.place → old.text ≡ s.text → old.place < length old.text → ReadsError old new error
    → Stops s.limits (reached s old.place) (Some error)
fault-stops s old new (Syntax EndOfText range) h e some f = absurd f.stands
fault-stops s old new (Syntax BadToken range) h e some f = absurd f.stands
fault-stops s old new (Syntax BadCharacter range) h e some f = (record { stands = rw e at f.stands; some = rw e at some; behind = f.behind; ordered = f.ordered; read = h.counted }, h.within)
fault-stops s old new (Syntax OpenString range) h e some f = (record { stands = rw e at f.stands; some = rw e at some; behind = f.behind; ordered = f.ordered; read = h.counted }, h.within)
fault-stops s old new (Syntax BadEscape range) h e some f = (record { stands = rw e at f.stands; some = rw e at some; behind = f.behind; ordered = f.ordered; read = h.counted }, h.within)
fault-stops s old new (Syntax BadNumber range) h e some f = (record { stands = rw e at f.stands; some = rw e at some; behind = f.behind; ordered = f.ordered; read = h.counted }, h.within)
fault-stops s old new (RecursionLimit range) h e some f = absurd f
fault-stops s old new (TokenLimit range) h e some f = absurd f

module _ {O : Type 0} (Stands : O → ℕ → List Open → List Plain → Type 0) where
  -- at the beginning of a text
  pub new-going : (p : Parser O) → ((at : ℕ) → Holds Stands p.machine at [] empty) → p.begun ≡ false → p.tokens ≡ 0 → is_some (kind_of p.start) ≡ true → level (root_kind p.start) ≡ 0 → IsGoing Stands p 0
  new-going p holds begun none starts root =
      let s = standing p empty [] in
      record {
        state = empty;
        waiting = [];
        holds = holds;
        read = record {
          tiles = refl;
          counted = none;
          within = within-none p.limits.tokens p.tokens none;
          sound = record { nodes = refl; level = refl; deepest = refl; spans = tt; outer = tt };
          flat = refl;
          spans = tt;
        };
        stood = subst (λ (b : Bool). IsStood (record s { begun = b })) (sym begun) (record { starts = starts; hidden = refl; stood = (refl, refl); filled = tt });
        nested = new_nested s refl refl root;
      }

  -- a token is counted
  pub going-counted : (p : Parser O) (n place : ℕ) → IsGoing Stands p place → n ≡ p.tokens + 1 → IsWithin p.limits.tokens n → IsCounted Stands (record p { tokens = n }) place
  going-counted p n place h e within = record {
    state = h.state;
    waiting = h.waiting;
    holds = h.holds;
    read = record {
      tiles = h.read.tiles;
      counted = e ∙ ap (λ z. z + 1) h.read.counted;
      within = within;
      sound = h.read.sound;
      flat = h.read.flat;
      spans = h.read.spans;
    };
    stood = record { starts = h.stood.starts; hidden = h.stood.hidden; stood = h.stood.stood; filled = h.stood.filled };
    nested = record { root = h.nested.root; deepest = h.nested.deepest; within = h.nested.within; each = h.nested.each };
  }

  -- too many tokens
  pub token-limit-ended : (p : Parser O) (n : ℕ) (part : Part) (range : Range ℕ) → IsGoing Stands p range.start
      → IsLeaf p.text.now range.start (record { part = part; start = range.start; end = range.end }) → n ≡ p.tokens + 1 → Passes p.limits.tokens n
      → HasEnded Stands (record p { tokens = n }) (Some (TokenLimit range))
  token-limit-ended p n part range h leaf e past =
      let s = standing p h.state h.waiting in
      record {
        state = h.state;
        waiting = h.waiting;
        at = range.start;
        place = range.start;
        holds = h.holds range.start;
        stopped = record {
          tiles = h.read.tiles;
          sound = h.read.sound;
          flat = h.read.flat;
          spans = h.read.spans;
          stops = ((part, leaf), e ∙ ap (λ z. z + 1) h.read.counted, subst (IsWithin p.limits.tokens) h.read.counted h.read.within, past);
        };
        judged = token_limit_judged s n range h.read.sound h.stood;
        nests = token_limit_nested s n range h.read.sound h.stood h.nested;
      }

  -- an ignored token
  pub ignored-going : (p : Parser O) (m : Machine O) (n : ℕ) (range : Range ℕ) → IsGoing Stands p range.start
      → IsLeaf p.text.now range.start (record { part = ignored; start = range.start; end = range.end })
      → ((at : ℕ) (waiting : List Plain) (s : State) → Holds Stands p.machine at waiting s → Holds Stands m at (waiting ++ (ignored_of range ∷ [])) s)
      → n ≡ p.tokens + 1 → IsWithin p.limits.tokens n → IsGoing Stands (record p { machine = m; tokens = n }) range.end
  ignored-going p m n range h leaf came e within =
      let s = standing p h.state h.waiting in
      let t = ignored_of range in
      let q : Standing = record s { ignored = h.waiting ++ (t ∷ []) } in
      let stood = ignored_stands s q t range n h.stood refl refl in
      record {
        state = h.state;
        waiting = h.waiting ++ (t ∷ []);
        holds = λ at. came at h.waiting h.state (h.holds at);
        read = passes_ignored s q t range n h.read leaf refl refl e within;
        stood = stood;
        nested = ignored_nested s q t range n h.stood h.nested stood refl refl;
      }

  -- too deep
  pub limit-ended : (p : Parser O) (range : Range ℕ) → IsCounted Stands p range.start → IsLeaf p.text.now range.start (word_leaf range) → p.limits.recursion < p.machine.deepest
      → HasEnded Stands p (Some (RecursionLimit range))
  limit-ended p range h leaf past =
      let s = standing p h.state h.waiting in
      let deep : p.limits.recursion < h.state.deepest = omega (arith, past, (h.holds 0).deepest) in
      record {
        state = h.state;
        waiting = h.waiting;
        at = range.start;
        place = range.start;
        holds = h.holds range.start;
        stopped = limit_stops s range h.read leaf;
        judged = limit_judged s range h.read.sound h.stood deep;
        nests = limit_nested s range h.read.sound h.stood h.nested deep;
      }

  pub end-limit-ended : (p : Parser O) (end : ℕ) → end ≡ length p.text.now → IsGoing Stands p (length p.text.now) → p.limits.recursion < p.machine.deepest
      → HasEnded Stands p (Some (RecursionLimit (record { start = end; end = end })))
  end-limit-ended p end e h past =
      let s = standing p h.state h.waiting in
      let at_end = length p.text.now in
      let range : Range ℕ = record { start = at_end; end = at_end } in
      let deep : p.limits.recursion < h.state.deepest = omega (arith, past, (h.holds 0).deepest) in
      subst (λ (n : ℕ). HasEnded Stands p (Some (RecursionLimit (record { start = n; end = n })))) (sym e) (record {
        state = h.state;
        waiting = h.waiting;
        at = at_end;
        place = at_end;
        holds = h.holds at_end;
        stopped = limit_ends s h.read;
        judged = limit_judged s range h.read.sound h.stood deep;
        nests = limit_nested s range h.read.sound h.stood h.nested deep;
      })

  -- a fault of the text
  pub fault-ended : (p : Parser O) (old new : Reading) (error : CstError) → IsGoing Stands p old.place → old.text ≡ p.text.now → old.place < length old.text → ReadsError old new error
      → HasEnded Stands p (Some error)
  fault-ended p old new error h e some f =
      let s = standing p h.state h.waiting in
      record {
        state = h.state;
        waiting = h.waiting;
        at = old.place;
        place = old.place;
        holds = h.holds old.place;
        stopped = record { tiles = h.read.tiles; sound = h.read.sound; flat = h.read.flat; spans = h.read.spans; stops = fault-stops s old new error h.read e some f };
        judged = fault_judged s old new error h.read.sound h.stood f;
        nests = fault_nested s old new error h.read.sound h.stood h.nested f;
      }

  -- ---- a word, or the end of the text, was judged

  abbrev pub Moved : Parser O → Parser O → Type 0
  Moved p q = q ≡ record p { machine = q.machine; begun = q.begun }

  pub same-text : (p q : Parser O) → Moved p q → SameText p q
  same-text p q e = record { text = ap (λ r. r.text) e; limits = ap (λ r. r.limits) e; start = ap (λ r. r.start) e }

  abbrev pub WasJudged : Parser O → Machine O → Option Word → ℕ → Turn → Type 0
  WasJudged p m next at t = Goes Stands p.machine m at (λ s u. Judges p.start next p.begun s (told t u))

  took-at : (p : Parser O) (m new : Machine O) (b : Bool) (t : Turn) (w : Word) (range : Range ℕ) → t ≡ turn.Taken → b ≡ true → IsCounted Stands p range.start
      → IsLeaf p.text.now range.start (word_leaf range) → p.machine.deepest ≤ p.limits.recursion → w ≡ word_in p.text.now range → WasJudged p m (Some w) range.start t
      → ((at : ℕ) (waiting : List Plain) (s : State) → Holds Stands m range.start waiting s → Holds Stands new at [] (grown (waiting ++ (token_of range ∷ [])) s))
      → IsGoing Stands (record p { machine = new; begun = b }) range.end
  took-at p m new b t w range taken begun h leaf low is goes came =
      let went = goes h.waiting h.state (h.holds range.start) in
      let low2 : h.state.deepest ≤ p.limits.recursion = omega (arith, low, (h.holds 0).deepest) in
      let s = standing p h.state h.waiting in
      let q : Standing = record s { state = went.0; begun = b } in
      let tree = token_of range in
      let r : Standing = record q { state = grown (h.waiting ++ (tree ∷ [])) went.0; ignored = [] } in
      record {
        state = r.state;
        waiting = [];
        holds = λ at. came at h.waiting went.0 went.1;
        read = takes_word q r tree range (moved_underway s q t (Some w) range.start refl h.read went.2) leaf refl refl refl;
        stood = took_stands s q r t tree w range refl taken begun h.read.sound h.stood is went.2 refl refl refl;
        nested = took_nested s q r t tree w range refl taken h.read.sound h.stood h.nested low2 is went.2 refl refl refl;
      }

  -- the word was taken
  pub took-going : (p q : Parser O) (new : Machine O) (t : Turn) (w : Word) (range : Range ℕ) → Moved p q → t ≡ turn.Taken → q.begun ≡ true → IsCounted Stands p range.start
      → IsLeaf p.text.now range.start (word_leaf range) → p.machine.deepest ≤ p.limits.recursion → w ≡ word_in p.text.now range → WasJudged p q.machine (Some w) range.start t
      → ((at : ℕ) (waiting : List Plain) (s : State) → Holds Stands q.machine range.start waiting s → Holds Stands new at [] (grown (waiting ++ (token_of range ∷ [])) s))
      → IsGoing Stands (record q { machine = new }) range.end
  took-going p q new t w range e taken begun h leaf low is goes came =
      subst (λ (r : Parser O). IsGoing Stands (record r { machine = new }) range.end) (sym e) (took-at p q.machine new q.begun t w range taken begun h leaf low is goes came)

  -- no sentence goes on with the word
  pub bad-ended : (p q : Parser O) (t : Turn) (w : Word) (range : Range ℕ) → Moved p q → (t ≡ turn.Taken → ⊥) → IsCounted Stands p range.start
      → IsLeaf p.text.now range.start (word_leaf range) → p.machine.deepest ≤ p.limits.recursion → w ≡ word_in p.text.now range → WasJudged p q.machine (Some w) range.start t
      → HasEnded Stands q (Some (Syntax BadToken range))
  bad-ended p q t w range e not h leaf low is goes =
      let went = goes h.waiting h.state (h.holds range.start) in
      let low2 : h.state.deepest ≤ p.limits.recursion = omega (arith, low, (h.holds 0).deepest) in
      let s = standing p h.state h.waiting in
      let u : Standing = record s { state = went.0; begun = q.begun } in
      subst (λ (r : Parser O). HasEnded Stands r (Some (Syntax BadToken range))) (sym e) (record {
        state = went.0;
        waiting = h.waiting;
        at = range.start;
        place = range.start;
        holds = went.1;
        stopped = bad_stops u range (moved_underway s u t (Some w) range.start refl h.read went.2) leaf;
        judged = bad_judged s u t w range refl h.read.sound h.stood is not went.2;
        nests = bad_nested s u t w range refl h.read.sound h.stood h.nested low2 not went.2;
      })

  -- the text is a sentence
  pub whole-ended : (p q : Parser O) (t : Turn) (end : ℕ) → Moved p q → t ≡ turn.Finished → end ≡ length p.text.now → IsGoing Stands p (length p.text.now)
      → p.machine.deepest ≤ p.limits.recursion → WasJudged p q.machine None end t → HasEnded Stands q None
  whole-ended p q t end e is at_end h low goes =
      let went = goes h.waiting h.state (h.holds end) in
      let low2 : h.state.deepest ≤ p.limits.recursion = omega (arith, low, (h.holds 0).deepest) in
      let s = standing p h.state h.waiting in
      let u : Standing = record s { state = went.0; begun = q.begun } in
      subst (λ (r : Parser O). HasEnded Stands r None) (sym e) (record {
        state = went.0;
        waiting = h.waiting;
        at = end;
        place = length p.text.now;
        holds = went.1;
        stopped = moved_end s u t refl h.read went.2;
        judged = whole_judged s u t refl is h.read.sound h.stood went.2;
        nests = whole_nested s u t refl h.read.sound h.stood h.nested low2 went.2;
      })

  -- the text ends too early
  pub cut-ended : (p q : Parser O) (t : Turn) (end : ℕ) → Moved p q → (t ≡ turn.Finished → ⊥) → end ≡ length p.text.now → IsGoing Stands p (length p.text.now)
      → p.machine.deepest ≤ p.limits.recursion → WasJudged p q.machine None end t → HasEnded Stands q (Some (Syntax EndOfText (record { start = end; end = end })))
  cut-ended p q t end e not at_end h low goes =
      let went = goes h.waiting h.state (h.holds end) in
      let low2 : h.state.deepest ≤ p.limits.recursion = omega (arith, low, (h.holds 0).deepest) in
      let s = standing p h.state h.waiting in
      let u : Standing = record s { state = went.0; begun = q.begun } in
      let last = length p.text.now in
      let range : Range ℕ = record { start = last; end = last } in
      let ended : HasEnded Stands (record p { machine = q.machine; begun = q.begun }) (Some (Syntax EndOfText range)) = record {
        state = went.0;
        waiting = h.waiting;
        at = end;
        place = last;
        holds = went.1;
        stopped = moved_cut s u t refl h.read went.2;
        judged = cut_judged s u t range refl h.read.sound h.stood not went.2;
        nests = cut_nested s u t range refl h.read.sound h.stood h.nested low2 went.2;
      } in
      subst (λ (r : Parser O). HasEnded Stands r (Some (Syntax EndOfText (record { start = end; end = end })))) (sym e)
      (subst (λ (n : ℕ). HasEnded Stands (record p { machine = q.machine; begun = q.begun }) (Some (Syntax EndOfText (record { start = n; end = n })))) (sym at_end) ended)

  -- ---- what the reading came to

  pub made-of : (p : Parser O) (error : Option CstError) (made : Made O) → made.error ≡ error → made.recursion_reached ≡ p.machine.deepest → made.tokens_reached ≡ p.tokens
      → HasEnded Stands p error
      → ((at : ℕ) (waiting : List Plain) (s : State) → Holds Stands p.machine at waiting s → Stands made.out at (whole_text (all_ended s) ∷ []) waiting)
      → IsMade Stands p.start p.text.now p.limits made
  made-of p error made e deepest count h stands =
      let s = standing p h.state h.waiting in
      let kind = root_kind p.start in
      let inner = all_ended h.state in
      let h2 = h.stopped in
      let whole = spans-append inner h.waiting (spans-ended h.state.stack h.state.row h.state.rows h2.sound.nodes h2.sound.spans h2.sound.outer) h2.spans in
      let deep : made.recursion_reached ≡ h.state.deepest = deepest ∙ sym h.holds.deepest in
      let parses : Parses p.start p.text.now p.limits (told_of p.start made inner h.waiting) h.place (row_of (trees s)) = record {
        tree_kind = refl;
        tree_children = refl;
        tiles = h2.tiles;
        recursion_reached = deep ∙ sym (depth-held h.state h.waiting h2.sound h2.flat);
        stops = subst (λ (x : Option CstError). Stops p.limits (record { text = p.text.now; tokens = length (tokens_of s); place = h.place; read = made.tokens_reached }) x) (sym e)
            (subst (λ (n : ℕ). Stops p.limits (record { text = p.text.now; tokens = length (tokens_of s); place = h.place; read = n }) error) (sym count) h2.stops);
        levels_reached = deep ∙ h.nests.deepest;
        around = h.nests.around;
        nests = rw e h.nests.nests;
        begins = h.judged.begins;
        judged = rw e h.judged.judged;
      } in
      record {
        trees = inner;
        waiting = h.waiting;
        at = h.at;
        stands = stands h.at h.waiting h.state h.holds;
        reports = record {
          parse = (h.place, row_of (trees s), parses);
          accepts = accepts p.start p.text.now p.limits (told_of p.start made inner h.waiting) h.place (row_of (trees s)) parses;
          cut = h.judged.cut;
          spans = spans-node kind (trees s) (root_node p.start) whole;
        };
      }
