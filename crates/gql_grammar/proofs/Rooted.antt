-- The same turns for a reader whose outermost node is open from the start: neither its end is on the stack, nor the row
-- around it among the rows.
use Rattle.std.proofs.Common.{◌≡◌, ◌+◌, true, false, List, [], ◌∷◌, ◌++◌, length, Option, Some, None, is_some, zero-add, refl, sym, subst, append_assoc, arith}
use Rattle.gql_grammar.specs.declared.word.Word.{Word}
use Rattle.gql_grammar.specs.declared.symbol.Terminal.{Terminal}
use Rattle.gql_grammar.specs.declared.symbol.Symbol.{Symbol}
use Rattle.gql_grammar.specs.declared.symbol.Symbol.TheVariants.{Token, One, Optional, Repeated, Eager, Wrap, Close}
use Rattle.gql_grammar.specs.declared.rule.Rule.{Rule}
use Rattle.gql_grammar.specs.declared.syntax_kind.SyntaxKind.{SyntaxKind}
use Rattle.gql_grammar.specs.Word.{takes}
use Rattle.gql_grammar.specs.Rule.{kind_of}
use Rattle.gql_grammar.specs.Row.{Row, nothing, node, with_leaf, with_node}
use Rattle.gql_grammar.specs.Reads.{Sentence, IsBeginning}
use Rattle.gql_grammar.specs.Starts.{way}
use Rattle.gql_grammar.specs.bridge.Ends.{closes}
use Rattle.gql_grammar.specs.bridge.Stands.{way_at, Stands, rooted, around, BetweenIn, StandsIn}
use Rattle.gql_grammar.proofs.Ways.{way-some}
use Rattle.gql_grammar.proofs.Turns.{begin, begun, look, enter_tree, enter_group, into_optional, into_repeated, into_eager, past_optional, past_repeated, past_eager, past_wrap, past_close, taken, accepted, ended_token, ended_rule, refused_token, refused_rule, refused_rest}

-- ---- the first word

pub none_beginning : (start : Rule) → is_some (kind_of start) ≡ true → IsBeginning start []
none_beginning start h = begun (begin start h)

pub none_sentence : (start : Rule) → is_some (kind_of start) ≡ true → (f : Row) → Sentence start [] f → ⊥
none_sentence start h f d = ended_rule (look (begin start h) None) f d

pub first_refused : (start : Rule) (w : Word) → is_some (kind_of start) ≡ true → way start w ≡ None → IsBeginning start (w ∷ []) → ⊥
first_refused start w h n b = refused_rule n (look (begin start h) (Some w)) b

pub first_stands : (start : Rule) (w : Word) {k : SyntaxKind} {a : List Symbol} → is_some (kind_of start) ≡ true → kind_of start ≡ Some k → way start w ≡ Some a
    → StandsIn start k [] (Some w) a nothing []
first_stands start w h i e = record { stands = enter_tree e i (look (begin start h) (Some w)) }

-- ---- further words

pub look_in : {start : Rule} {k : SyntaxKind} {before : List Word} {ss : List Symbol} {x : Row} {rows : List Row} → BetweenIn start k before ss x rows → (next : Option Word) → StandsIn start k before next ss x rows
look_in b next = record { stands = look b.between next }

pub begun_in : {start : Rule} {k : SyntaxKind} {before : List Word} {next : Option Word} {ss : List Symbol} {x : Row} {rows : List Row} → StandsIn start k before next ss x rows → IsBeginning start before
begun_in s = s.stands.begun

pub taken_in : {start : Rule} {k : SyntaxKind} {before : List Word} {w : Word} {t : Terminal} {ss : List Symbol} {x : Row} {rows : List Row}
    → takes t w ≡ true → StandsIn start k before (Some w) (Token t ∷ ss) x rows → BetweenIn start k (before ++ (w ∷ [])) ss (with_leaf x w) rows
taken_in h s = record { between = taken h s.stands }

-- ---- turns that take no word

pub past_optional_in : {start : Rule} {k : SyntaxKind} {before : List Word} {next : Option Word} {r : Rule} {ss : List Symbol} {x : Row} {rows : List Row}
    → way_at r next ≡ None → StandsIn start k before next (Optional r ∷ ss) x rows → StandsIn start k before next ss x rows
past_optional_in h s = record { stands = past_optional h s.stands }

pub past_repeated_in : {start : Rule} {k : SyntaxKind} {before : List Word} {next : Option Word} {r : Rule} {ss : List Symbol} {x : Row} {rows : List Row}
    → way_at r next ≡ None → StandsIn start k before next (Repeated r ∷ ss) x rows → StandsIn start k before next ss x rows
past_repeated_in h s = record { stands = past_repeated h s.stands }

pub past_eager_in : {start : Rule} {k : SyntaxKind} {before : List Word} {next : Option Word} {r : Rule} {ss : List Symbol} {x : Row} {rows : List Row}
    → way_at r next ≡ None → StandsIn start k before next (Eager r ∷ ss) x rows → StandsIn start k before next ss x rows
past_eager_in h s = record { stands = past_eager h s.stands }

pub past_wrap_in : {start : Rule} {k : SyntaxKind} {before : List Word} {next : Option Word} {j : SyntaxKind} {ss : List Symbol} {x : Row} {rows : List Row}
    → StandsIn start k before next (Wrap j ∷ ss) x rows → StandsIn start k before next ss (node j x nothing) rows
past_wrap_in s = record { stands = past_wrap s.stands }

pub past_close_in : {start : Rule} {k : SyntaxKind} {before : List Word} {next : Option Word} {j : SyntaxKind} {ss : List Symbol} {x y : Row} {rows : List Row}
    → StandsIn start k before next (Close j ∷ ss) y (x ∷ rows) → StandsIn start k before next ss (with_node x j y) rows
past_close_in s = record { stands = past_close s.stands }

pub closes-more : (a b : List Symbol) → closes (a ++ b) ≡ closes a + closes b
closes-more [] b = sym (zero-add (closes b))
closes-more (Token t ∷ a) b = closes-more a b
closes-more (One r ∷ a) b = closes-more a b
closes-more (Optional r ∷ a) b = closes-more a b
closes-more (Repeated r ∷ a) b = closes-more a b
closes-more (Eager r ∷ a) b = closes-more a b
closes-more (Wrap k ∷ a) b = closes-more a b
closes-more (Close k ∷ a) b =
    let rest : closes (a ++ b) ≡ closes a + closes b = closes-more a b in omega arith

pub close_has_row_in : {A : Type 0} {start : Rule} {k : SyntaxKind} {before : List Word} {next : Option Word} {j : SyntaxKind} {ss : List Symbol} {y : Row}
    → StandsIn start k before next (Close j ∷ ss) y [] → A
close_has_row_in {k = k} {ss = ss} s =
    let even : closes (rooted k ss) + 1 ≡ 1 = s.stands.balanced in
    let more : closes (rooted k ss) ≡ closes ss + 1 = closes-more ss (Close k ∷ []) in
    absurd (omega arith)

-- a rule is written out before what is left
pub enter_tree_in : {start : Rule} {k : SyntaxKind} {before : List Word} {w : Word} {r : Rule} {j : SyntaxKind} {a ss : List Symbol} {x : Row} {rows : List Row}
    → way r w ≡ Some a → kind_of r ≡ Some j → StandsIn start k before (Some w) (One r ∷ ss) x rows
    → StandsIn start k before (Some w) (a ++ (Close j ∷ ss)) nothing (x ∷ rows)
enter_tree_in {start = start} {k = k} {before = before} {w = w} {j = j} {a = a} {ss = ss} {x = x} {rows = rows} h i s = record {
  stands = subst (λ ts. Stands start before (Some w) ts nothing (x ∷ around rows)) (sym (append_assoc a (Close j ∷ ss) (Close k ∷ []))) (enter_tree h i s.stands);
}

pub enter_group_in : {start : Rule} {k : SyntaxKind} {before : List Word} {w : Word} {r : Rule} {a ss : List Symbol} {x : Row} {rows : List Row}
    → way r w ≡ Some a → kind_of r ≡ None → StandsIn start k before (Some w) (One r ∷ ss) x rows → StandsIn start k before (Some w) (a ++ ss) x rows
enter_group_in {start = start} {k = k} {before = before} {w = w} {a = a} {ss = ss} {x = x} {rows = rows} h i s = record {
  stands = subst (λ ts. Stands start before (Some w) ts x (around rows)) (sym (append_assoc a ss (Close k ∷ []))) (enter_group h i s.stands);
}

pub into_optional_in : {start : Rule} {k : SyntaxKind} {before : List Word} {w : Word} {r : Rule} {a ss : List Symbol} {x : Row} {rows : List Row}
    → way r w ≡ Some a → StandsIn start k before (Some w) (Optional r ∷ ss) x rows → StandsIn start k before (Some w) (One r ∷ ss) x rows
into_optional_in {w = w} {r = r} {a = a} h s = record { stands = into_optional (way-some r w a h).0 s.stands }

pub into_repeated_in : {start : Rule} {k : SyntaxKind} {before : List Word} {w : Word} {r : Rule} {a ss : List Symbol} {x : Row} {rows : List Row}
    → way r w ≡ Some a → StandsIn start k before (Some w) (Repeated r ∷ ss) x rows → StandsIn start k before (Some w) (One r ∷ Repeated r ∷ ss) x rows
into_repeated_in {w = w} {r = r} {a = a} h s = record { stands = into_repeated (way-some r w a h).0 s.stands }

pub into_eager_in : {start : Rule} {k : SyntaxKind} {before : List Word} {w : Word} {r : Rule} {a ss : List Symbol} {x : Row} {rows : List Row}
    → way r w ≡ Some a → StandsIn start k before (Some w) (Eager r ∷ ss) x rows → StandsIn start k before (Some w) (One r ∷ ss) x rows
into_eager_in {w = w} {r = r} {a = a} h s = record { stands = into_eager (way-some r w a h).0 s.stands }

-- ---- the text ends, or a word is refused

pub no_more_rows : {rows : List Row} → 1 ≡ length (around rows) → [] ≡ rows
no_more_rows {rows = []} h = refl
no_more_rows {rows = x ∷ rows} h = absurd (too_many x rows h)
  where
    too_many : (x : Row) (rows : List Row) → 1 ≡ length (x ∷ (rows ++ (nothing ∷ []))) → ⊥
    too_many x [] h = omega arith
    too_many x (y ∷ rows) h = omega arith

-- with nothing left to read, only the outermost node is open
pub closed_in : {start : Rule} {k : SyntaxKind} {before : List Word} {next : Option Word} {x : Row} {rows : List Row}
    → StandsIn start k before next [] x rows → Stands start before next [] (node k x nothing) []
closed_in {start = start} {k = k} {before = before} {next = next} {x = x} {rows = rows} s =
    past_close (subst (λ more. Stands start before next (Close k ∷ []) x (around more)) (sym (no_more_rows {rows = rows} s.stands.balanced)) s.stands)

pub accepted_in : {start : Rule} {k : SyntaxKind} {before : List Word} {x : Row} {rows : List Row} → StandsIn start k before None [] x rows → Sentence start before (node k x nothing)
accepted_in s = accepted (closed_in s)

pub ended_token_in : {start : Rule} {k : SyntaxKind} {before : List Word} {t : Terminal} {ss : List Symbol} {x : Row} {rows : List Row}
    → StandsIn start k before None (Token t ∷ ss) x rows → (f : Row) → Sentence start before f → ⊥
ended_token_in s f d = ended_token s.stands f d

pub ended_rule_in : {start : Rule} {k : SyntaxKind} {before : List Word} {r : Rule} {ss : List Symbol} {x : Row} {rows : List Row}
    → StandsIn start k before None (One r ∷ ss) x rows → (f : Row) → Sentence start before f → ⊥
ended_rule_in s f d = ended_rule s.stands f d

pub refused_token_in : {start : Rule} {k : SyntaxKind} {before : List Word} {w : Word} {t : Terminal} {ss : List Symbol} {x : Row} {rows : List Row}
    → takes t w ≡ false → StandsIn start k before (Some w) (Token t ∷ ss) x rows → IsBeginning start (before ++ (w ∷ [])) → ⊥
refused_token_in h s b = refused_token h s.stands b

pub refused_rule_in : {start : Rule} {k : SyntaxKind} {before : List Word} {w : Word} {r : Rule} {ss : List Symbol} {x : Row} {rows : List Row}
    → way r w ≡ None → StandsIn start k before (Some w) (One r ∷ ss) x rows → IsBeginning start (before ++ (w ∷ [])) → ⊥
refused_rule_in h s b = refused_rule h s.stands b

pub refused_rest_in : {start : Rule} {k : SyntaxKind} {before : List Word} {w : Word} {x : Row} {rows : List Row}
    → StandsIn start k before (Some w) [] x rows → IsBeginning start (before ++ (w ∷ [])) → ⊥
refused_rest_in s b = refused_rest (closed_in s) b
