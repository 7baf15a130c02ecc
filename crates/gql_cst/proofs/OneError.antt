-- The reading of a text within the same limits ends by one error, or by none, at one place.
use Rattle.std.proofs.Common.{◌≡◌, ◌⊎◌, inl, inr, ℕ, ◌+◌, ◌-◌, ◌<◌, ◌≤◌, List, [], ◌∷◌, ◌++◌, length, suc, drop, take, slice_range, Option, Some, None, refl, sym, ◌∙◌, ap, subst, append_assoc, append-nil, length-append, arith}
use Rattle.std.proofs.Math.Seq.{take-append-add}
use Rattle.std.proofs.lemmas.List.{take-append-drop, length-drop}
use Rattle.std.specs.declared.ops.Range.{Range}
use Rattle.gql_lexer.specs.Lexical.{IsToken, IsFault, StandsOne}
use Rattle.gql_lexer.specs.declared.error.CstError.{CstError}
use Rattle.gql_lexer.specs.declared.error.CstError.TheVariants.{Syntax, RecursionLimit, TokenLimit}
use Rattle.gql_lexer.specs.declared.error.SyntaxFault.{SyntaxFault}
use Rattle.gql_lexer.specs.declared.error.SyntaxFault.TheVariants.{EndOfText, BadCharacter, OpenString, BadEscape, BadNumber, BadToken}
use Rattle.gql_grammar.specs.declared.rule.Rule.{Rule}
use Rattle.gql_grammar.specs.declared.word.Word.{Word}
use Rattle.gql_grammar.specs.Reads.{Sentence, IsBeginning}
use Rattle.gql_grammar.specs.Row as row
use Rattle.gql_grammar.specs.Row.{Row, level}
use Rattle.gql_cst.specs.declared.limits.Limits.{Limits}
use Rattle.gql_cst.specs.Report.{Report}
use Rattle.gql_cst.specs.Forest.{Forest}
use Rattle.gql_cst.specs.Judged.{Judged, word_in}
use Rattle.gql_cst.specs.Leaves.{Part, word, Leaf, IsLeaf, Tiles, leaves}
use Rattle.gql_cst.specs.Levels.{levels, raised, greatest, NestsTo, PassesLast, PassesNoneBeforeLast}
use Rattle.gql_cst.specs.Outcome.{IsWithin, Passes, Reached, Stops, WordAt, EndAt, FaultAt}
use Rattle.gql_cst.specs.Parses.{IsReport, Parses, reached_at, spoken_of}
use Rattle.gql_cst.specs.Sentences.{words, own_word, shown}
use Rattle.gql_cst.specs.Words.{word_of}
use Rattle.gql_cst.proofs.Judging.{words-append}
use Rattle.gql_cst.proofs.Tokens.{same_leaf}
use Rattle.gql_cst.proofs.Whole.{too_many}

abbrev pub OneStands : Type 0
OneStands = (at : List ℕ) → StandsOne at

abbrev pub WordsLaw : Type 0
WordsLaw = (start : Rule) (ws : List Word) (f : Row) → Sentence start ws f → row.leaves f ≡ ws

-- ---- tokens of one text

-- of two rows of tokens from one place, one goes on where the other ends
abbrev Compared : List ℕ → List Leaf → List Leaf → ℕ → ℕ → Type 0
Compared text one other p q =
    ((rest : List Leaf) × (other ≡ one ++ rest) × Tiles text p rest q) ⊎ ((rest : List Leaf) × (one ≡ other ++ rest) × Tiles text q rest p)

one_longer : (text : List ℕ) (a b : Leaf) (one other : List Leaf) (p q : ℕ) → a ≡ b → Compared text one other p q → Compared text (a ∷ one) (b ∷ other) p q
one_longer text a b one other p q e (inl c) = inl (c.0, ap (λ (x : Leaf). x ∷ other) (sym e) ∙ ap (λ (l : List Leaf). a ∷ l) c.1, c.2)
one_longer text a b one other p q e (inr c) = inr (c.0, ap (λ (x : Leaf). x ∷ one) e ∙ ap (λ (l : List Leaf). b ∷ l) c.1, c.2)

compared : OneStands → (text : List ℕ) (from p q : ℕ) (one other : List Leaf) → Tiles text from one p → Tiles text from other q → Compared text one other p q
compared stands text from p q [] other t u = inl (other, refl, subst (λ (n : ℕ). Tiles text n other q) t u)
compared stands text from p q (a ∷ one) [] t u = inr (a ∷ one, refl, subst (λ (n : ℕ). Tiles text n (a ∷ one) p) u t)
compared stands text from p q (a ∷ one) (b ∷ other) t u =
    let e = same_leaf stands text from a b t.0 u.0 in
    one_longer text a b one other p q e
    (compared stands text b.end p q one other (subst (λ (x : Leaf). Tiles text x.end one p) e t.1) u.1)

-- ---- levels

raised-length : (by : ℕ) (ns : List ℕ) → length (raised by ns) ≡ length ns
raised-length by [] = refl
raised-length by (n ∷ ns) = omega (arith, raised-length by ns)

levels-length : (x : Row) → length (levels x) ≡ length (row.leaves x)
levels-length row.nothing = refl
levels-length (row.leaf w x) = omega (arith, levels-length x)
levels-length (row.node k inner x) =
    omega (arith, length-append (raised (level k) (levels inner)) (levels x), length-append (row.leaves inner) (row.leaves x), raised-length (level k) (levels inner), levels-length inner, levels-length x)

-- the last of a list that others follow
greatest-above : (before : List ℕ) (n : ℕ) (behind : List ℕ) → n ≤ greatest (before ++ n ∷ behind)
greatest-above [] n behind = omega arith
greatest-above (b ∷ bs) n behind = omega (arith, greatest-above bs n behind)

-- a list that has more behind an item, cut at its end
cut-end : (before : List ℕ) (n m : ℕ) (behind front : List ℕ) (last : ℕ) → before ++ n ∷ (m ∷ behind) ≡ front ++ last ∷ [] → n ≤ greatest front
cut-end [] n m behind [] last e = let f : n ∷ (m ∷ behind) ≡ last ∷ [] = e in absurd cc
cut-end [] n m behind (x ∷ xs) last e = let f : n ∷ (m ∷ behind) ≡ x ∷ (xs ++ last ∷ []) = e in let g : n ≡ x = cc in omega (arith, g)
cut-end (b ∷ bs) n m behind [] last e = let f : b ∷ (bs ++ n ∷ (m ∷ behind)) ≡ last ∷ [] = e in absurd (omega (arith, ap length f, length-append bs (n ∷ (m ∷ behind))))
cut-end (b ∷ bs) n m behind (x ∷ xs) last e =
    let f : b ∷ (bs ++ n ∷ (m ∷ behind)) ≡ x ∷ (xs ++ last ∷ []) = e in
    let g : bs ++ n ∷ (m ∷ behind) ≡ xs ++ last ∷ [] = cc in
    omega (arith, cut-end bs n m behind xs last g)

-- the level past the limit stands before the last word
too_early : (limit : ℕ) (before : List ℕ) (m : ℕ) (behind around : List ℕ) → before ++ (limit + 1) ∷ (m ∷ behind) ≡ around → PassesNoneBeforeLast limit around → ⊥
too_early limit before m behind around e (inl none) =
    omega (arith, none, greatest-above before (limit + 1) (m ∷ behind), ap greatest e)
too_early limit before m behind around e (inr last) =
    omega (arith, last.within, cut-end before (limit + 1) m behind last.before (limit + 1) (e ∙ last.last))

nests : (limit : ℕ) (around : List ℕ) (error : Option CstError) → NestsTo limit around error → PassesNoneBeforeLast limit around
nests limit around None h = inl h
nests limit around (Some (Syntax EndOfText range)) h = inl h
nests limit around (Some (Syntax BadToken range)) h = inl h
nests limit around (Some (Syntax BadCharacter range)) h = h
nests limit around (Some (Syntax OpenString range)) h = h
nests limit around (Some (Syntax BadEscape range)) h = h
nests limit around (Some (Syntax BadNumber range)) h = h
nests limit around (Some (RecursionLimit range)) h = inr h
nests limit around (Some (TokenLimit range)) h = h

past_limit : (limit n k : ℕ) (ns around before : List ℕ) → take n ns ≡ before ++ (limit + 1) ∷ [] → n < length ns → take (n + suc k) ns ≡ around
    → PassesNoneBeforeLast limit around → ⊥
past_limit limit n k ns around before first inside cut passes = by_rest (drop n ns) refl
  where
    split : take n ns ++ drop n ns ≡ ns
    split = take-append-drop n ns

    by_rest : (ds : List ℕ) → drop n ns ≡ ds → ⊥
    by_rest [] e = omega (arith, inside, ap length e, length-drop n ns)
    by_rest (m ∷ ms) e =
        let front = before ++ (limit + 1) ∷ [] in
        let whole : front ++ (m ∷ ms) ≡ ns = ap (λ (l : List ℕ). l ++ (m ∷ ms)) (sym first) ∙ ap (λ (l : List ℕ). take n ns ++ l) (sym e) ∙ split in
        let many : length front ≡ n = omega (arith, inside, ap length first, ap length split, length-append (take n ns) (drop n ns), length-drop n ns) in
        let made : take (n + suc k) ns ≡ front ++ (m ∷ take k ms) =
        ap (take (n + suc k)) (sym whole) ∙ ap (λ (j : ℕ). take (j + suc k) (front ++ (m ∷ ms))) (sym many) ∙ take-append-add front (m ∷ ms) (suc k) in
        too_early limit before m (take k ms) around (sym (append_assoc before ((limit + 1) ∷ []) (m ∷ take k ms)) ∙ sym made ∙ cut) passes

-- ---- where a reading ends

abbrev leaf_at : Part → Range ℕ → Leaf
leaf_at part range = record { part = part; start = range.start; end = range.end }

abbrev word_at : Range ℕ → Leaf
word_at range = leaf_at word range

abbrev StandsFault : List ℕ → ℕ → SyntaxFault → Range ℕ → Type 0
StandsFault text p fault range = IsFault fault (drop p text) (range.start - p) (range.end - p) × (p < length text) × (p ≤ range.start) × (range.start ≤ range.end)

-- A reading that took these words, with these levels around them, and so many tokens, ended at the place by the error. So
-- many were read.
data Ends (start : Rule) (text : List ℕ) (limits : Limits) (p n : ℕ) (ws : List Word) (around : List ℕ) (read : ℕ) : Option CstError → Type 0 where
  whole : (tree : Row) → p ≡ length text → greatest around ≤ limits.recursion → Sentence start ws tree → read ≡ n → Ends start text limits p n ws around read None
  cut : (range : Range ℕ) → p ≡ length text → range.start ≡ p → range.end ≡ p → greatest around ≤ limits.recursion → ((other : Row) → Sentence start ws other → ⊥) → read ≡ n
      → Ends start text limits p n ws around read (Some (Syntax EndOfText range))
  fault : (f : SyntaxFault) (range : Range ℕ) → StandsFault text p f range → read ≡ n → Ends start text limits p n ws around read (Some (Syntax f range))
  bad : (range : Range ℕ) → IsLeaf text p (word_at range) → greatest around ≤ limits.recursion → read ≡ n + 1 → IsWithin limits.tokens read
      → Ends start text limits p n ws around read (Some (Syntax BadToken range))
  deep_end : (range : Range ℕ) → p ≡ length text → range.start ≡ p → range.end ≡ p → PassesLast limits.recursion around → read ≡ n
      → Ends start text limits p n ws around read (Some (RecursionLimit range))
  deep : (range : Range ℕ) → IsLeaf text p (word_at range) → PassesLast limits.recursion around → read ≡ n + 1 → IsWithin limits.tokens read
      → Ends start text limits p n ws around read (Some (RecursionLimit range))
  many : (part : Part) (range : Range ℕ) → IsLeaf text p (leaf_at part range) → read ≡ n + 1 → Passes limits.tokens read
      → Ends start text limits p n ws around read (Some (TokenLimit range))

module _ (start : Rule) (text : List ℕ) (limits : Limits) (p : ℕ) (xs : Forest) (parsed : Report) where
  abbrev EndsBy : Option CstError → Type 0
  EndsBy e = Ends start text limits p (length (leaves xs)) (words text (leaves xs)) (levels (shown text xs)) parsed.tokens_reached e

  fault_by : (f : SyntaxFault) (range : Range ℕ) → FaultAt f (reached_at text xs p parsed) range → EndsBy (Some (Syntax f range))
  fault_by f range h = fault f range (h.stands, h.some, h.behind, h.ordered) h.read

  ends_by : (e : Option CstError) → Stops limits (reached_at text xs p parsed) e → NestsTo limits.recursion (levels (shown text xs)) e
      → Judged (spoken_of start text limits xs) e → EndsBy e
  ends_by None s n j = whole _ s.0 n j.0 s.1
  ends_by (Some (Syntax EndOfText range)) s n j = cut range s.0.0.0 s.0.0.1 s.0.0.2 n j s.0.1
  ends_by (Some (Syntax BadToken range)) s n j = bad range s.0.0 n s.0.1 s.1
  ends_by (Some (Syntax BadCharacter range)) s n j = fault_by BadCharacter range s.0
  ends_by (Some (Syntax OpenString range)) s n j = fault_by OpenString range s.0
  ends_by (Some (Syntax BadEscape range)) s n j = fault_by BadEscape range s.0
  ends_by (Some (Syntax BadNumber range)) s n j = fault_by BadNumber range s.0
  ends_by (Some (RecursionLimit range)) s n j = by_place s.0
    where
      by_place : ((EndAt (reached_at text xs p parsed) range × (parsed.tokens_reached ≡ length (leaves xs))) ⊎ (WordAt (reached_at text xs p parsed) range × (parsed.tokens_reached ≡ length (leaves xs) + 1)))
          → EndsBy (Some (RecursionLimit range))
      by_place (inl h) = deep_end range h.0.0 h.0.1 h.0.2 n h.1
      by_place (inr h) = deep range h.0 n h.1 s.1
  ends_by (Some (TokenLimit range)) s n j = many s.0.0 range s.0.1 s.1 s.3

-- the tokens of the tree are within the limit
less_within : (limit : Option ℕ) (n m : ℕ) → n ≤ m → IsWithin limit m → IsWithin limit n
less_within None n m h w = tt
less_within (Some limit) n m h w = omega (arith, h, w)

tokens_within : (limits : Limits) (r : Reached) (e : Option CstError) → Stops limits r e → IsWithin limits.tokens r.tokens
tokens_within limits r None s = less_within limits.tokens r.tokens r.read (omega (arith, s.1)) s.2
tokens_within limits r (Some (Syntax EndOfText range)) s = less_within limits.tokens r.tokens r.read (omega (arith, s.0.1)) s.1
tokens_within limits r (Some (Syntax BadToken range)) s = less_within limits.tokens r.tokens r.read (omega (arith, s.0.1)) s.1
tokens_within limits r (Some (Syntax BadCharacter range)) s = less_within limits.tokens r.tokens r.read (omega (arith, s.0.read)) s.1
tokens_within limits r (Some (Syntax OpenString range)) s = less_within limits.tokens r.tokens r.read (omega (arith, s.0.read)) s.1
tokens_within limits r (Some (Syntax BadEscape range)) s = less_within limits.tokens r.tokens r.read (omega (arith, s.0.read)) s.1
tokens_within limits r (Some (Syntax BadNumber range)) s = less_within limits.tokens r.tokens r.read (omega (arith, s.0.read)) s.1
tokens_within limits r (Some (RecursionLimit range)) s = by_place s.0
  where
    by_place : ((EndAt r range × (r.read ≡ r.tokens)) ⊎ (WordAt r range × (r.read ≡ r.tokens + 1))) → IsWithin limits.tokens r.tokens
    by_place (inl h) = less_within limits.tokens r.tokens r.read (omega (arith, h.1)) s.1
    by_place (inr h) = less_within limits.tokens r.tokens r.read (omega (arith, h.1)) s.1
tokens_within limits r (Some (TokenLimit range)) s = s.2

-- ---- two readings that end at one place

same_range : (a b : Range ℕ) → a.start ≡ b.start → a.end ≡ b.end → a ≡ b
same_range a b s e = λ i. record { start = s i; end = e i }

module _ (stands : OneStands) (start : Rule) (text : List ℕ) (limits : Limits) (p n : ℕ) (ws : List Word) (around : List ℕ) where
  end_leaf : {A : Type 0} (leaf : Leaf) → p ≡ length text → IsLeaf text p leaf → A
  end_leaf leaf e h = absurd (omega (arith, e, h.starts, h.further, h.ends_character.0))

  end_fault : {A : Type 0} (f : SyntaxFault) (range : Range ℕ) → p ≡ length text → StandsFault text p f range → A
  end_fault f range e h = absurd (omega (arith, e, h.1))

  leaf_fault : {A : Type 0} (f : SyntaxFault) (leaf : Leaf) (range : Range ℕ) → IsLeaf text p leaf → StandsFault text p f range → A
  leaf_fault f leaf range w h =
      absurd ((stands (drop p text)).not_both w.kind f (leaf.end - leaf.start) (range.start - p) (range.end - p)
      (subst (λ (n : ℕ). IsToken w.kind (drop n text) (leaf.end - leaf.start)) w.starts w.token) h.0)

  low_deep : {A : Type 0} → greatest around ≤ limits.recursion → PassesLast limits.recursion around → A
  low_deep low last = absurd (omega (arith, low, ap greatest last.last, greatest-above last.before (limits.recursion + 1) []))

  few_many : {A : Type 0} (r s : ℕ) → r ≡ n + 1 → s ≡ n + 1 → IsWithin limits.tokens r → Passes limits.tokens s → A
  few_many r s e f w h = absurd (too_many limits.tokens s r (omega (arith, e, f)) h w)

  one_range : (a b : Part) (r s : Range ℕ) → IsLeaf text p (leaf_at a r) → IsLeaf text p (leaf_at b s) → r ≡ s
  one_range a b r s h k =
      let e = same_leaf stands text p (leaf_at a r) (leaf_at b s) h k in same_range r s (ap (λ (l : Leaf). l.start) e) (ap (λ (l : Leaf). l.end) e)

  one_fault : (f g : SyntaxFault) (r s : Range ℕ) → StandsFault text p f r → StandsFault text p g s → Some (Syntax f r) ≡ Some (Syntax g s)
  one_fault f g r s h k =
      let one = (stands (drop p text)).one_fault f g (r.start - p) (r.end - p) (s.start - p) (s.end - p) h.0 k.0 in
      let range : r ≡ s = same_range r s (omega (arith, one.1, h.2, k.2)) (omega (arith, one.2, h.2, h.3, k.2, k.3)) in
      λ i. Some (Syntax (one.0 i) (range i))

  abbrev E : ℕ → Option CstError → Type 0
  E read e = Ends start text limits p n ws around read e

  abbrev Same : Option CstError → Option CstError → ℕ → ℕ → Type 0
  Same e f r s = (e ≡ f) × (r ≡ s)

  one_end : (e f : Option CstError) (x x2 : ℕ) → E x e → E x2 f → Same e f x x2
  one_end e f x x2 (whole t at low s m) (whole t2 at2 low2 s2 m2) = (refl, m ∙ sym m2)
  one_end e f x x2 (whole t at low s m) (cut r2 at2 b2 c2 low2 none2 m2) = absurd (none2 t s)
  one_end e f x x2 (whole t at low s m) (fault g2 r2 h2 m2) = end_fault g2 r2 at h2
  one_end e f x x2 (whole t at low s m) (bad r2 w2 low2 m2 few2) = end_leaf (word_at r2) at w2
  one_end e f x x2 (whole t at low s m) (deep_end r2 at2 b2 c2 last2 m2) = low_deep low last2
  one_end e f x x2 (whole t at low s m) (deep r2 w2 last2 m2 few2) = end_leaf (word_at r2) at w2
  one_end e f x x2 (whole t at low s m) (many part2 r2 w2 m2 over2) = end_leaf (leaf_at part2 r2) at w2
  one_end e f x x2 (cut r at b c low none m) (whole t2 at2 low2 s2 m2) = absurd (none t2 s2)
  one_end e f x x2 (cut r at b c low none m) (cut r2 at2 b2 c2 low2 none2 m2) = (ap (λ (x : Range ℕ). Some (Syntax EndOfText x)) (same_range r r2 (b ∙ sym b2) (c ∙ sym c2)), m ∙ sym m2)
  one_end e f x x2 (cut r at b c low none m) (fault g2 r2 h2 m2) = end_fault g2 r2 at h2
  one_end e f x x2 (cut r at b c low none m) (bad r2 w2 low2 m2 few2) = end_leaf (word_at r2) at w2
  one_end e f x x2 (cut r at b c low none m) (deep_end r2 at2 b2 c2 last2 m2) = low_deep low last2
  one_end e f x x2 (cut r at b c low none m) (deep r2 w2 last2 m2 few2) = end_leaf (word_at r2) at w2
  one_end e f x x2 (cut r at b c low none m) (many part2 r2 w2 m2 over2) = end_leaf (leaf_at part2 r2) at w2
  one_end e f x x2 (fault g r h m) (whole t2 at2 low2 s2 m2) = end_fault g r at2 h
  one_end e f x x2 (fault g r h m) (cut r2 at2 b2 c2 low2 none2 m2) = end_fault g r at2 h
  one_end e f x x2 (fault g r h m) (fault g2 r2 h2 m2) = (one_fault g g2 r r2 h h2, m ∙ sym m2)
  one_end e f x x2 (fault g r h m) (bad r2 w2 low2 m2 few2) = leaf_fault g (word_at r2) r w2 h
  one_end e f x x2 (fault g r h m) (deep_end r2 at2 b2 c2 last2 m2) = end_fault g r at2 h
  one_end e f x x2 (fault g r h m) (deep r2 w2 last2 m2 few2) = leaf_fault g (word_at r2) r w2 h
  one_end e f x x2 (fault g r h m) (many part2 r2 w2 m2 over2) = leaf_fault g (leaf_at part2 r2) r w2 h
  one_end e f x x2 (bad r w low m few) (whole t2 at2 low2 s2 m2) = end_leaf (word_at r) at2 w
  one_end e f x x2 (bad r w low m few) (cut r2 at2 b2 c2 low2 none2 m2) = end_leaf (word_at r) at2 w
  one_end e f x x2 (bad r w low m few) (fault g2 r2 h2 m2) = leaf_fault g2 (word_at r) r2 w h2
  one_end e f x x2 (bad r w low m few) (bad r2 w2 low2 m2 few2) = (ap (λ (x : Range ℕ). Some (Syntax BadToken x)) (one_range word word r r2 w w2), m ∙ sym m2)
  one_end e f x x2 (bad r w low m few) (deep_end r2 at2 b2 c2 last2 m2) = end_leaf (word_at r) at2 w
  one_end e f x x2 (bad r w low m few) (deep r2 w2 last2 m2 few2) = low_deep low last2
  one_end e f x x2 (bad r w low m few) (many part2 r2 w2 m2 over2) = few_many x x2 m m2 few over2
  one_end e f x x2 (deep_end r at b c last m) (whole t2 at2 low2 s2 m2) = low_deep low2 last
  one_end e f x x2 (deep_end r at b c last m) (cut r2 at2 b2 c2 low2 none2 m2) = low_deep low2 last
  one_end e f x x2 (deep_end r at b c last m) (fault g2 r2 h2 m2) = end_fault g2 r2 at h2
  one_end e f x x2 (deep_end r at b c last m) (bad r2 w2 low2 m2 few2) = end_leaf (word_at r2) at w2
  one_end e f x x2 (deep_end r at b c last m) (deep_end r2 at2 b2 c2 last2 m2) = (ap (λ (x : Range ℕ). Some (RecursionLimit x)) (same_range r r2 (b ∙ sym b2) (c ∙ sym c2)), m ∙ sym m2)
  one_end e f x x2 (deep_end r at b c last m) (deep r2 w2 last2 m2 few2) = end_leaf (word_at r2) at w2
  one_end e f x x2 (deep_end r at b c last m) (many part2 r2 w2 m2 over2) = end_leaf (leaf_at part2 r2) at w2
  one_end e f x x2 (deep r w last m few) (whole t2 at2 low2 s2 m2) = end_leaf (word_at r) at2 w
  one_end e f x x2 (deep r w last m few) (cut r2 at2 b2 c2 low2 none2 m2) = end_leaf (word_at r) at2 w
  one_end e f x x2 (deep r w last m few) (fault g2 r2 h2 m2) = leaf_fault g2 (word_at r) r2 w h2
  one_end e f x x2 (deep r w last m few) (bad r2 w2 low2 m2 few2) = low_deep low2 last
  one_end e f x x2 (deep r w last m few) (deep_end r2 at2 b2 c2 last2 m2) = end_leaf (word_at r) at2 w
  one_end e f x x2 (deep r w last m few) (deep r2 w2 last2 m2 few2) = (ap (λ (x : Range ℕ). Some (RecursionLimit x)) (one_range word word r r2 w w2), m ∙ sym m2)
  one_end e f x x2 (deep r w last m few) (many part2 r2 w2 m2 over2) = few_many x x2 m m2 few over2
  one_end e f x x2 (many part r w m over) (whole t2 at2 low2 s2 m2) = end_leaf (leaf_at part r) at2 w
  one_end e f x x2 (many part r w m over) (cut r2 at2 b2 c2 low2 none2 m2) = end_leaf (leaf_at part r) at2 w
  one_end e f x x2 (many part r w m over) (fault g2 r2 h2 m2) = leaf_fault g2 (leaf_at part r) r2 w h2
  one_end e f x x2 (many part r w m over) (bad r2 w2 low2 m2 few2) = few_many x2 x m2 m few2 over
  one_end e f x x2 (many part r w m over) (deep_end r2 at2 b2 c2 last2 m2) = end_leaf (leaf_at part r) at2 w
  one_end e f x x2 (many part r w m over) (deep r2 w2 last2 m2 few2) = few_many x2 x m2 m few2 over
  one_end e f x x2 (many part r w m over) (many part2 r2 w2 m2 over2) = (ap (λ (x : Range ℕ). Some (TokenLimit x)) (one_range part part2 r r2 w w2), m ∙ sym m2)

-- ---- any two readings

-- what they tell is one
pub record Told (one other : Report) : Type 0 where
  pub error : one.error ≡ other.error
  pub levels : one.recursion_reached ≡ other.recursion_reached
  pub tokens : one.tokens_reached ≡ other.tokens_reached

module _ (stands : OneStands) (words_law : WordsLaw) (start : Rule) (text : List ℕ) (limits : Limits) where
  abbrev Reading : Report → ℕ → Forest → Type 0
  Reading parsed p xs = Parses start text limits parsed p xs

  -- one can't end before a token that the other takes
  module _ (one other : Report) (p q : ℕ) (xs ys : Forest) (P : Reading one p xs) (Q : Reading other q ys) (a : Leaf) (behind : List Leaf)
      (longer : leaves ys ≡ leaves xs ++ a ∷ behind) (rest : Tiles text p (a ∷ behind) q) where
    no_end : p ≡ length text → ⊥
    no_end e = omega (arith, e, rest.0.starts, rest.0.further, rest.0.ends_character.0)

    no_fault : (f : SyntaxFault) (range : Range ℕ) → StandsFault text p f range → ⊥
    no_fault f range h =
        (stands (drop p text)).not_both rest.0.kind f (a.end - a.start) (range.start - p) (range.end - p)
        (subst (λ (n : ℕ). IsToken rest.0.kind (drop n text) (a.end - a.start)) rest.0.starts rest.0.token) h.0

    as_words : (range : Range ℕ) → IsLeaf text p (word_at range) → words text (leaves ys) ≡ words text (leaves xs) ++ word_in text range ∷ words text behind
    as_words range h =
        ap (words text) longer ∙ words-append text (leaves xs) (a ∷ behind)
        ∙ ap (λ (b : Leaf). words text (leaves xs) ++ (own_word b.part (word_of (slice_range text b.start b.end)) ++ words text behind)) (same_leaf stands text p a (word_at range) rest.0 h)

    abbrev more : List Word
    more = Q.begins.0

    abbrev tree : Row
    tree = Q.begins.1

    goes_on : (range : Range ℕ) → IsLeaf text p (word_at range) → Sentence start (words text (leaves xs) ++ word_in text range ∷ (words text behind ++ more)) tree
    goes_on range h =
        subst (λ (ws : List Word). Sentence start ws tree)
        (ap (λ (ws : List Word). ws ++ more) (as_words range h) ∙ append_assoc (words text (leaves xs)) (word_in text range ∷ words text behind) more) Q.begins.2

    no_bad : (range : Range ℕ) → IsLeaf text p (word_at range) → (IsBeginning start (words text (leaves xs) ++ word_in text range ∷ []) → ⊥) → ⊥
    no_bad range h none =
        none (
          words text behind ++ more,
          tree,
          subst (λ (ws : List Word). Sentence start ws tree)
              (sym (append_assoc (words text (leaves xs)) (word_in text range ∷ []) (words text behind ++ more))) (goes_on range h),
        )

    no_depth : (range : Range ℕ) → IsLeaf text p (word_at range) → PassesLast limits.recursion (levels (shown text xs)) → ⊥
    no_depth range h last =
        let front = words text (leaves xs) in
        let first : take (length front) (levels tree) ≡ levels (shown text xs) = P.around (word_in text range ∷ (words text behind ++ more)) tree (goes_on range h) in
        let second : take (length (words text (leaves ys))) (levels tree) ≡ levels (shown text ys) = Q.around more tree Q.begins.2 in
        let many : length (words text (leaves ys)) ≡ length front + suc (length (words text behind)) = ap length (as_words range h) ∙ length-append front (word_in text range ∷ words text behind) in
        let all : length (levels tree) ≡ length (words text (leaves ys) ++ more) = levels-length tree ∙ ap length (words_law start (words text (leaves ys) ++ more) tree Q.begins.2) in
        past_limit limits.recursion (length front) (length (words text behind)) (levels tree) (levels (shown text ys)) last.before (first ∙ last.last)
        (omega (arith, all, many, length-append (words text (leaves ys)) more))
        (ap (λ (n : ℕ). take n (levels tree)) (sym many) ∙ second) (nests limits.recursion (levels (shown text ys)) other.error Q.nests)

    no_many : (read : ℕ) → read ≡ length (leaves xs) + 1 → Passes limits.tokens read → ⊥
    no_many read e over =
        too_many limits.tokens read (length (leaves ys)) (omega (arith, e, ap length longer, length-append (leaves xs) (a ∷ behind))) over
        (tokens_within limits (reached_at text ys q other) other.error Q.stops)

    ahead : (e : Option CstError) → Judged (spoken_of start text limits xs) e → EndsBy start text limits p xs one e → ⊥
    ahead e j (whole t at low s m) = no_end at
    ahead e j (cut r at b c low none m) = no_end at
    ahead e j (fault f r h m) = no_fault f r h
    ahead e j (bad r w low m few) = no_bad r w j
    ahead e j (deep_end r at b c last m) = no_end at
    ahead e j (deep r w last m few) = no_depth r w last
    ahead e j (many part r w m over) = no_many _ m over

    not_ahead : ⊥
    not_ahead = ahead one.error P.judged (ends_by start text limits p xs one one.error P.stops P.nests P.judged)

  -- at one place they end by one error
  module _ (one other : Report) (p q : ℕ) (xs ys : Forest) (P : Reading one p xs) (Q : Reading other q ys) (same : leaves ys ≡ leaves xs) (at : q ≡ p) where
    same_levels : levels (shown text ys) ≡ levels (shown text xs)
    same_levels =
        sym (Q.around P.begins.0 P.begins.1 (subst (λ (ls : List Leaf). Sentence start (words text ls ++ P.begins.0) P.begins.1) (sym same) P.begins.2))
        ∙ ap (λ (ls : List Leaf). take (length (words text ls)) (levels P.begins.1)) same ∙ P.around P.begins.0 P.begins.1 P.begins.2

    at_one_place : Told one other
    at_one_place =
        let ends = one_end stands start text limits p (length (leaves xs)) (words text (leaves xs)) (levels (shown text xs)) one.error other.error one.tokens_reached other.tokens_reached
        (ends_by start text limits p xs one one.error P.stops P.nests P.judged)
        (subst (λ (l : List ℕ). Ends start text limits p (length (leaves xs)) (words text (leaves xs)) l other.tokens_reached other.error) same_levels
        (subst (λ (ls : List Leaf). Ends start text limits p (length ls) (words text ls) (levels (shown text ys)) other.tokens_reached other.error) same
        (subst (λ (n : ℕ). Ends start text limits n (length (leaves ys)) (words text (leaves ys)) (levels (shown text ys)) other.tokens_reached other.error) at
        (ends_by start text limits q ys other other.error Q.stops Q.nests Q.judged)))) in
        record { error = ends.0; levels = P.levels_reached ∙ ap greatest (sym same_levels) ∙ sym Q.levels_reached; tokens = ends.1 }

  turned : (one other : Report) → Told one other → Told other one
  turned one other t = record { error = sym t.error; levels = sym t.levels; tokens = sym t.tokens }

  by_rest : (one other : Report) (p q : ℕ) (xs ys : Forest) → Reading one p xs → Reading other q ys → (rest : List Leaf) → leaves ys ≡ leaves xs ++ rest → Tiles text p rest q → Told one other
  by_rest one other p q xs ys P Q [] longer t = at_one_place one other p q xs ys P Q (longer ∙ append-nil (leaves xs)) (sym t)
  by_rest one other p q xs ys P Q (a ∷ behind) longer t = absurd (not_ahead one other p q xs ys P Q a behind longer t)

  by_order : (one other : Report) (p q : ℕ) (xs ys : Forest) → Reading one p xs → Reading other q ys → Compared text (leaves xs) (leaves ys) p q → Told one other
  by_order one other p q xs ys P Q (inl c) = by_rest one other p q xs ys P Q c.0 c.1 c.2
  by_order one other p q xs ys P Q (inr c) = turned other one (by_rest other one q p ys xs Q P c.0 c.1 c.2)

  pub told_alike : (one other : Report) → IsReport start text limits one → IsReport start text limits other → Told one other
  told_alike one other P Q = by_order one other P.0 Q.0 P.1 Q.1 P.2 Q.2 (compared stands text 0 P.0 Q.0 (leaves P.1) (leaves Q.1) P.2.tiles Q.2.tiles)
