-- What each turn of a reader keeps, what a taken word tells, and what a refused one.
use Rattle.std.proofs.Common.{◌≡◌, ◌+◌, true, false, List, [], ◌∷◌, ◌++◌, length, Option, Some, None, is_some, refl, sym, ◌∙◌, subst, ap, append_assoc, arith}
use Rattle.gql_grammar.specs.declared.word.Word.{Word}
use Rattle.gql_grammar.specs.declared.symbol.Terminal.{Terminal}
use Rattle.gql_grammar.specs.declared.symbol.Symbol.{Symbol}
use Rattle.gql_grammar.specs.declared.symbol.Symbol.TheVariants.{Token, One, Optional, Repeated, Eager, Wrap, Close}
use Rattle.gql_grammar.specs.declared.rule.Rule.{Rule}
use Rattle.gql_grammar.specs.declared.rule.Rule.TheVariants.{AliasTail, AfterSpread, BangTail, DescribedDefinition}
use Rattle.gql_grammar.specs.declared.syntax_kind.SyntaxKind.{SyntaxKind}
use Rattle.gql_grammar.specs.Word.{takes, has}
use Rattle.gql_grammar.specs.Rule.{kind_of}
use Rattle.gql_grammar.specs.Factored.{factored}
use Rattle.gql_grammar.specs.Row.{Row, nothing, node, with_leaf, with_node}
use Rattle.gql_grammar.specs.Reads.{IsOneOf, Sentence, IsBeginning, is_brace_next}
use Rattle.gql_grammar.specs.Starts.{starts, leads, nowhere, way}
use Rattle.gql_grammar.specs.bridge.Decided.{follow, IsDecided, BeginsWithBrace}
use Rattle.gql_grammar.specs.bridge.Ends.{Ends, end, symbol, close, closes}
use Rattle.gql_grammar.specs.bridge.Stands.{ahead, way_at, EndsFrom, Between, Stands}
use Rattle.gql_grammar.proofs.Words.{false_true}
use Rattle.gql_grammar.proofs.Ways.{way-none}
use Rattle.gql_grammar.proofs.Checked.{good_way}
use Rattle.gql_grammar.proofs.Leads.{IsDecided-less, IsDecided-append}
use Rattle.gql_grammar.proofs.Stacks.{closes-append}
use Rattle.gql_grammar.proofs.Steps as step
use Rattle.gql_grammar.proofs.Sound.{is_pure, to_declared}
use Rattle.gql_grammar.proofs.Complete.{to_factored}
use Rattle.gql_grammar.proofs.Fitting.{Fits-read, whole_fits}
use Rattle.gql_grammar.proofs.Samples.{endable}

-- ---- sentences and ways to end

pub node_pure : (r : Rule) → is_some (kind_of r) ≡ true → is_pure (One r ∷ []) ≡ true
node_pure AliasTail h = cc
node_pure AfterSpread h = cc
node_pure BangTail h = cc
node_pure DescribedDefinition h = cc
node_pure _ h = refl

pub Sentence-from : {start : Rule} {ws : List Word} {out : Row} → is_some (kind_of start) ≡ true → EndsFrom start ws out → Sentence start ws out
Sentence-from {start = start} h (symbol d end) = whole_fits (node_pure start h) (to_declared (node_pure start h) d)

pub Sentence-ends : {start : Rule} {ws : List Word} {out : Row} → Sentence start ws out → EndsFrom start ws out
Sentence-ends d = symbol (to_factored (Fits-read d nothing)) end

-- ---- between words

pub begin : (start : Rule) → is_some (kind_of start) ≡ true → Between start [] (One start ∷ []) nothing []
begin start h = record {
  makes_node = h;
  decided = ((λ w e. absurd (cc)), tt);
  balanced = refl;
  onward = λ ws out e. e;
  back = λ ws out e. e;
}

-- what was read begins a sentence
pub begun : {start : Rule} {before : List Word} {ss : List Symbol} {x : Row} {rows : List Row}
    → Between start before ss x rows → IsBeginning start before
begun {ss = ss} {x = x} {rows = rows} b =
    let (ws, rest) = endable ss in
    let (out, e) = rest x rows b.balanced in
    (ws, out, Sentence-from b.makes_node (b.back ws out e))

pub look : {start : Rule} {before : List Word} {ss : List Symbol} {x : Row} {rows : List Row}
    → Between start before ss x rows → (next : Option Word) → Stands start before next ss x rows
look b next = record {
  makes_node = b.makes_node;
  decided = b.decided;
  balanced = b.balanced;
  begun = begun b;
  onward = λ ws out e. b.onward (ahead next ws) out e;
  back = λ ws out e. b.back (ahead next ws) out e;
}

-- ---- turns that take no word

pub turned : {start : Rule} {before : List Word} {next : Option Word} {ss : List Symbol} {x : Row} {rows : List Row}
    → Stands start before next ss x rows → (ts : List Symbol) (y : Row) (more : List Row) → IsDecided nowhere ts → closes ts ≡ length more
    → ((ws : List Word) (out : Row) → Ends ss x rows (ahead next ws) out → Ends ts y more (ahead next ws) out)
    → ((ws : List Word) (out : Row) → Ends ts y more (ahead next ws) out → Ends ss x rows (ahead next ws) out)
    → Stands start before next ts y more
turned s ts y more d b f g = record {
  makes_node = s.makes_node;
  decided = d;
  balanced = b;
  begun = s.begun;
  onward = λ ws out e. f ws out (s.onward ws out e);
  back = λ ws out e. s.back ws out (g ws out e);
}

pub optional_on : (next : Option Word) {r : Rule} {ss : List Symbol} {x : Row} {rows : List Row}
    → way_at r next ≡ None → (ws : List Word) (out : Row) → Ends (Optional r ∷ ss) x rows (ahead next ws) out → Ends ss x rows (ahead next ws) out
optional_on None h ws out e = step.optional_end e
optional_on (Some w) {r = r} h ws out e = step.optional_past (way-none r w h) e

pub repeated_on : (next : Option Word) {r : Rule} {ss : List Symbol} {x : Row} {rows : List Row}
    → way_at r next ≡ None → (ws : List Word) (out : Row) → Ends (Repeated r ∷ ss) x rows (ahead next ws) out → Ends ss x rows (ahead next ws) out
repeated_on None h ws out e = step.repeated_end e
repeated_on (Some w) {r = r} h ws out e = step.repeated_past (way-none r w h) e

pub eager_on : (next : Option Word) {r : Rule} {ss : List Symbol} {x : Row} {rows : List Row}
    → way_at r next ≡ None → (ws : List Word) (out : Row) → Ends (Eager r ∷ ss) x rows (ahead next ws) out → Ends ss x rows (ahead next ws) out
eager_on None h ws out e = step.eager_end e
eager_on (Some w) {r = r} h ws out e = step.eager_past (way-none r w h) e

pub no_brace : (next : Option Word) (r : Rule) → BeginsWithBrace r → way_at r next ≡ None → (ws : List Word) → is_brace_next (ahead next ws) ≡ false
no_brace None r b h ws = refl
no_brace (Some w) r b h ws = sym (b w) ∙ way-none r w h

pub past_optional : {start : Rule} {before : List Word} {next : Option Word} {r : Rule} {ss : List Symbol} {x : Row} {rows : List Row}
    → way_at r next ≡ None → Stands start before next (Optional r ∷ ss) x rows → Stands start before next ss x rows
past_optional {next = next} {ss = ss} {x = x} {rows = rows} h s =
    turned s ss x rows s.decided.1.1 s.balanced (optional_on next h) (λ ws out e. step.optional_out e)

pub past_repeated : {start : Rule} {before : List Word} {next : Option Word} {r : Rule} {ss : List Symbol} {x : Row} {rows : List Row}
    → way_at r next ≡ None → Stands start before next (Repeated r ∷ ss) x rows → Stands start before next ss x rows
past_repeated {next = next} {ss = ss} {x = x} {rows = rows} h s =
    turned s ss x rows s.decided.1.1 s.balanced (repeated_on next h) (λ ws out e. step.repeated_out e)

pub past_eager : {start : Rule} {before : List Word} {next : Option Word} {r : Rule} {ss : List Symbol} {x : Row} {rows : List Row}
    → way_at r next ≡ None → Stands start before next (Eager r ∷ ss) x rows → Stands start before next ss x rows
past_eager {next = next} {r = r} {ss = ss} {x = x} {rows = rows} h s =
    turned s ss x rows s.decided.1.1 s.balanced (eager_on next h) (λ ws out e. step.eager_out (no_brace next r s.decided.0 h ws) e)

pub into_optional : {start : Rule} {before : List Word} {w : Word} {r : Rule} {ss : List Symbol} {x : Row} {rows : List Row}
    → starts r w ≡ true → Stands start before (Some w) (Optional r ∷ ss) x rows → Stands start before (Some w) (One r ∷ ss) x rows
into_optional {r = r} {ss = ss} {x = x} {rows = rows} h s =
    turned s (One r ∷ ss) x rows (s.decided.1.0, s.decided.1.1) s.balanced
    (λ ws out e. step.optional_into s.decided.0 h e) (λ ws out e. step.optional_from e)

pub into_repeated : {start : Rule} {before : List Word} {w : Word} {r : Rule} {ss : List Symbol} {x : Row} {rows : List Row}
    → starts r w ≡ true → Stands start before (Some w) (Repeated r ∷ ss) x rows → Stands start before (Some w) (One r ∷ Repeated r ∷ ss) x rows
into_repeated {r = r} {ss = ss} {x = x} {rows = rows} h s =
    turned s (One r ∷ Repeated r ∷ ss) x rows (s.decided.1.0, s.decided) s.balanced
    (λ ws out e. step.repeated_into s.decided.0 h e) (λ ws out e. step.repeated_from e)

pub into_eager : {start : Rule} {before : List Word} {w : Word} {r : Rule} {ss : List Symbol} {x : Row} {rows : List Row}
    → starts r w ≡ true → Stands start before (Some w) (Eager r ∷ ss) x rows → Stands start before (Some w) (One r ∷ ss) x rows
into_eager {r = r} {ss = ss} {x = x} {rows = rows} h s =
    turned s (One r ∷ ss) x rows (s.decided.1.0, s.decided.1.1) s.balanced
    (λ ws out e. step.eager_into s.decided.0 h e) (λ ws out e. step.eager_from e)

-- a way to write the rule, in its place, is decided
pub way-decided : (r : Rule) (a ss : List Symbol) → IsOneOf a (factored r) → IsDecided nowhere (One r ∷ ss) → IsDecided nowhere (a ++ ss)
way-decided r a ss m d =
    IsDecided-append nowhere a ss (IsDecided-less (leads nowhere ss) (has (follow r)) d.0 a (good_way r m).decided) d.1

pub enter_tree : {start : Rule} {before : List Word} {w : Word} {r : Rule} {k : SyntaxKind} {a ss : List Symbol} {x : Row} {rows : List Row}
    → way r w ≡ Some a → kind_of r ≡ Some k → Stands start before (Some w) (One r ∷ ss) x rows
    → Stands start before (Some w) (a ++ (Close k ∷ ss)) nothing (x ∷ rows)
enter_tree {w = w} {r = r} {k = k} {a = a} {ss = ss} {x = x} {rows = rows} h i s =
    let m = step.way-in r w a h in
    let same : closes (a ++ (Close k ∷ ss)) ≡ closes ss + 1 = closes-append a (Close k ∷ ss) (good_way r m).closeless in
    let even : closes ss ≡ length rows = s.balanced in
    turned s (a ++ (Close k ∷ ss)) nothing (x ∷ rows) (way-decided r a (Close k ∷ ss) m s.decided) (omega arith)
    (λ ws out e. step.tree_into h i e) (λ ws out e. step.tree_from m i e)

pub enter_group : {start : Rule} {before : List Word} {w : Word} {r : Rule} {a ss : List Symbol} {x : Row} {rows : List Row}
    → way r w ≡ Some a → kind_of r ≡ None → Stands start before (Some w) (One r ∷ ss) x rows → Stands start before (Some w) (a ++ ss) x rows
enter_group {w = w} {r = r} {a = a} {ss = ss} {x = x} {rows = rows} h i s =
    let m = step.way-in r w a h in
    turned s (a ++ ss) x rows (way-decided r a ss m s.decided) (closes-append a ss (good_way r m).closeless ∙ s.balanced)
    (λ ws out e. step.group_into h i e) (λ ws out e. step.group_from m i e)

pub past_wrap : {start : Rule} {before : List Word} {next : Option Word} {k : SyntaxKind} {ss : List Symbol} {x : Row} {rows : List Row}
    → Stands start before next (Wrap k ∷ ss) x rows → Stands start before next ss (node k x nothing) rows
past_wrap {k = k} {ss = ss} {x = x} {rows = rows} s =
    turned s ss (node k x nothing) rows s.decided s.balanced (λ ws out e. step.wrap_past e) (λ ws out e. step.wrap_from e)

pub past_close : {start : Rule} {before : List Word} {next : Option Word} {k : SyntaxKind} {ss : List Symbol} {x y : Row} {rows : List Row}
    → Stands start before next (Close k ∷ ss) y (x ∷ rows) → Stands start before next ss (with_node x k y) rows
past_close {k = k} {ss = ss} {x = x} {y = y} {rows = rows} s =
    let even : closes ss + 1 ≡ length (x ∷ rows) = s.balanced in
    turned s ss (with_node x k y) rows s.decided (omega arith) (λ ws out e. step.close_past e) (λ ws out e. close k e)

-- ---- a word is taken

pub taken : {start : Rule} {before : List Word} {w : Word} {t : Terminal} {ss : List Symbol} {x : Row} {rows : List Row}
    → takes t w ≡ true → Stands start before (Some w) (Token t ∷ ss) x rows → Between start (before ++ (w ∷ [])) ss (with_leaf x w) rows
taken {start = start} {before = before} {w = w} h s = record {
  makes_node = s.makes_node;
  decided = s.decided;
  balanced = s.balanced;
  onward = λ ws out e. (step.token_past (s.onward ws out (subst (λ us. EndsFrom start us out) (append_assoc before (w ∷ []) ws) e))).1;
  back = λ ws out e. subst (λ us. EndsFrom start us out) (sym (append_assoc before (w ∷ []) ws)) (s.back ws out (step.token_from h e));
}

-- ---- the text ends

pub append-none : (ws : List Word) → ws ++ [] ≡ ws
append-none [] = refl
append-none (w ∷ ws) = ap (λ us. w ∷ us) (append-none ws)

pub rows_none : (rows : List Row) → 0 ≡ length rows → [] ≡ rows
rows_none [] h = refl
rows_none (x ∷ rows) h = absurd (omega arith)

pub accepted : {start : Rule} {before : List Word} {x : Row} {rows : List Row} → Stands start before None [] x rows → Sentence start before x
accepted {start = start} {before = before} {x = x} {rows = rows} s =
    let ended : Ends [] x rows [] x = subst (λ more. Ends [] x more [] x) (rows_none rows s.balanced) end in
    Sentence-from s.makes_node (subst (λ us. EndsFrom start us x) (append-none before) (s.back [] x ended))

pub ended_token : {start : Rule} {before : List Word} {t : Terminal} {ss : List Symbol} {x : Row} {rows : List Row}
    → Stands start before None (Token t ∷ ss) x rows → (f : Row) → Sentence start before f → ⊥
ended_token {start = start} {before = before} s f d =
    step.token_end (s.onward [] f (subst (λ us. EndsFrom start us f) (sym (append-none before)) (Sentence-ends d)))

pub ended_rule : {start : Rule} {before : List Word} {r : Rule} {ss : List Symbol} {x : Row} {rows : List Row}
    → Stands start before None (One r ∷ ss) x rows → (f : Row) → Sentence start before f → ⊥
ended_rule {start = start} {before = before} s f d =
    step.rule_end (s.onward [] f (subst (λ us. EndsFrom start us f) (sym (append-none before)) (Sentence-ends d)))

-- ---- a word is refused

-- what a sentence that goes on with the word leaves to the stack
pub goes_on : {start : Rule} {before : List Word} {w : Word} {ss : List Symbol} {x : Row} {rows : List Row}
    → Stands start before (Some w) ss x rows → IsBeginning start (before ++ (w ∷ [])) → (ws : List Word) × ((out : Row) × Ends ss x rows (w ∷ ws) out)
goes_on {start = start} {before = before} {w = w} s b =
    (b.0, (b.1, s.onward b.0 b.1 (subst (λ us. EndsFrom start us b.1) (append_assoc before (w ∷ []) b.0) (Sentence-ends b.2))))

pub refused_token : {start : Rule} {before : List Word} {w : Word} {t : Terminal} {ss : List Symbol} {x : Row} {rows : List Row}
    → takes t w ≡ false → Stands start before (Some w) (Token t ∷ ss) x rows → IsBeginning start (before ++ (w ∷ [])) → ⊥
refused_token h s b =
    let (ws, rest) = goes_on s b in false_true (step.token_past rest.1).0 h

pub refused_rule : {start : Rule} {before : List Word} {w : Word} {r : Rule} {ss : List Symbol} {x : Row} {rows : List Row}
    → way r w ≡ None → Stands start before (Some w) (One r ∷ ss) x rows → IsBeginning start (before ++ (w ∷ [])) → ⊥
refused_rule {w = w} {r = r} h s b =
    let (ws, rest) = goes_on s b in false_true (step.rule_front rest.1) (way-none r w h)

pub refused_rest : {start : Rule} {before : List Word} {w : Word} {x : Row} {rows : List Row}
    → Stands start before (Some w) [] x rows → IsBeginning start (before ++ (w ∷ [])) → ⊥
refused_rest s b =
    let (ws, rest) = goes_on s b in step.rest_end rest.1
