-- A text that is a sentence within the limits has no error.
use Rattle.std.proofs.Common.{◌≡◌, ℕ, ◌+◌, ◌-◌, ◌<◌, ◌≤◌, List, [], ◌∷◌, ◌++◌, length, drop, Option, Some, None, refl, ◌∙◌, sym, ap, subst, append_assoc, arith, length-append}
use Rattle.std.specs.declared.ops.Range.{Range}
use Rattle.gql_lexer.specs.Lexical.{IsToken, IsFault}
use Rattle.gql_lexer.specs.declared.error.CstError.{CstError}
use Rattle.gql_lexer.specs.declared.error.CstError.TheVariants.{Syntax, RecursionLimit, TokenLimit}
use Rattle.gql_lexer.specs.declared.error.SyntaxFault.{SyntaxFault}
use Rattle.gql_lexer.specs.declared.error.SyntaxFault.TheVariants.{EndOfText, BadCharacter, OpenString, BadEscape, BadNumber, BadToken}
use Rattle.gql_lexer.proofs.Only.{stands_one}
use Rattle.gql_grammar.specs.declared.word.Word.{Word}
use Rattle.gql_grammar.specs.declared.rule.Rule.{Rule}
use Rattle.gql_grammar.specs.Reads.{Sentence}
use Rattle.gql_grammar.specs.Row as row
use Rattle.gql_grammar.specs.Row.{Row}
use Rattle.gql_cst.specs.declared.limits.Limits.{Limits}
use Rattle.gql_cst.specs.Report.{Report}
use Rattle.gql_cst.specs.Forest.{Forest}
use Rattle.gql_cst.specs.Judged.{Judged, Spoken, word_in}
use Rattle.gql_cst.specs.Leaves.{Part, Leaf, leaves, part_of_token, IsLeaf, Tiles}
use Rattle.gql_cst.specs.Outcome.{IsWithin, Passes, Reached, FaultAt, Stops}
use Rattle.gql_cst.specs.Parses.{Parses, Admits}
use Rattle.gql_cst.specs.Sentences.{words, shown, root_kind}
use Rattle.gql_cst.proofs.Judging.{words-append}

-- ---- one token stands at a place

no_leaf : (text : List ℕ) (place : ℕ) (leaf : Leaf) → place ≡ length text → IsLeaf text place leaf → ⊥
no_leaf text place leaf e l = omega (arith, e, l.starts, l.further, l.ends_character.0)

made : Part → ℕ → ℕ → Leaf
made part start end = record { part = part; start = start; end = end }

same_leaf : (text : List ℕ) (place : ℕ) (a b : Leaf) → IsLeaf text place a → IsLeaf text place b → a ≡ b
unfolding made
same_leaf text place a b l m =
    let starts : a.start ≡ b.start = l.starts ∙ sym m.starts in
    let token = subst (λ (n : ℕ). IsToken m.kind (drop n text) (b.end - b.start)) (sym starts) m.token in
    let one = (stands_one (drop a.start text)).one_token l.kind m.kind (a.end - a.start) (b.end - b.start) l.token token in
    let ends : a.end ≡ b.end = omega (arith, starts, one.1, l.further, m.further) in
    let parts : a.part ≡ b.part = sym l.part ∙ ap part_of_token one.0 ∙ m.part in
    ap (λ p. made p a.start a.end) parts ∙ ap (λ n. made b.part n a.end) starts ∙ ap (λ n. made b.part b.start n) ends

-- the tokens of the whole text begin with those up to a place
pub record GoesOn (text : List ℕ) (place : ℕ) (all before rest : List Leaf) : Type 0 where
  pub all_same : all ≡ before ++ rest
  pub tiles : Tiles text place rest (length text)

along : (text : List ℕ) (from : ℕ) (all before : List Leaf) (place : ℕ) → Tiles text from all (length text) → Tiles text from before place → (rest : List Leaf) × GoesOn text place all before rest
along text from all [] place t u = (all, record { all_same = refl; tiles = subst (λ (n : ℕ). Tiles text n all (length text)) u t })
along text from [] (b ∷ before) place t u = absurd (no_leaf text from b t u.0)
along text from (a ∷ all) (b ∷ before) place t u =
    let e = same_leaf text from a b t.0 u.0 in
    let deeper = along text b.end all before place (subst (λ (x : Leaf). Tiles text x.end all (length text)) e t.1) u.1 in
    (deeper.0, record { all_same = ap (λ x. x ∷ all) e ∙ ap (λ xs. b ∷ xs) deeper.1.all_same; tiles = deeper.1.tiles })

-- ---- no error is one

some_leaf : (text : List ℕ) (place : ℕ) (leaf : Leaf) (rest : List Leaf) → Tiles text place rest (length text) → IsLeaf text place leaf → (more : List Leaf) × (rest ≡ leaf ∷ more)
some_leaf text place leaf [] t l = absurd (no_leaf text place leaf t l)
some_leaf text place leaf (a ∷ more) t l = (more, ap (λ x. x ∷ more) (same_leaf text place a leaf t.0 l))

no_more : (text : List ℕ) (place : ℕ) (rest : List Leaf) → place ≡ length text → Tiles text place rest (length text) → rest ≡ []
no_more text place [] e t = refl
no_more text place (a ∷ rest) e t = absurd (no_leaf text place a e t.0)

no_fault : (text : List ℕ) (fault : SyntaxFault) (r : Reached) (range : Range ℕ) (rest : List Leaf) → r.text ≡ text → Tiles text r.place rest (length text) → FaultAt fault r range → ⊥
no_fault text fault r range [] e t f =
    let small : r.place < length text = subst (λ (s : List ℕ). r.place < length s) e f.some in
    let at_end : r.place ≡ length text = t in omega arith
no_fault text fault r range (a ∷ rest) e t f =
    let l = t.0 in
    let stands = subst (λ (s : List ℕ). IsFault fault (drop r.place s) (range.start - r.place) (range.end - r.place)) e f.stands in
    let token = subst (λ (n : ℕ). IsToken l.kind (drop n text) (a.end - a.start)) l.starts l.token in
    (stands_one (drop r.place text)).not_both l.kind fault (a.end - a.start) (range.start - r.place) (range.end - r.place) token stands

nil : (xs : List Leaf) → xs ++ [] ≡ xs
nil [] = refl
nil (x ∷ xs) = ap (λ ys. x ∷ ys) (nil xs)

pub too_many : (limit : Option ℕ) (n m : ℕ) → n ≤ m → Passes limit n → IsWithin limit m → ⊥
too_many None n m h p w = p
too_many (Some limit) n m h p w = omega (arith, h, p, w)

refuted : (start : Rule) (text : List ℕ) (limits : Limits) (place read : ℕ) (before rest : List Leaf) (tree shown : Row) (error : CstError)
    → Tiles text place rest (length text) → Sentence start (words text (before ++ rest)) tree → row.nesting tree ≤ limits.recursion → IsWithin limits.tokens (length (before ++ rest))
    → Stops limits (record { text = text; tokens = length before; place = place; read = read }) (Some error)
    → Judged (record { start = start; text = text; words = words text before; row = shown; recursion = limits.recursion }) (Some error) → ⊥
refuted start text limits place read before rest tree shown (Syntax EndOfText range) t s low within stops judged =
    let none = no_more text place rest stops.0.0.0 t in
    judged tree (subst (λ (ls : List Leaf). Sentence start (words text ls) tree) (ap (λ r. before ++ r) none ∙ nil before) s)
refuted start text limits place read before rest tree shown (Syntax BadToken range) t s low within stops judged =
    let p = some_leaf text place _ rest t stops.0.0 in
    let w = word_in text range in
    let e : words text (before ++ rest) ≡ (words text before ++ (w ∷ [])) ++ words text p.0 =
    words-append text before rest ∙ ap (λ r. words text before ++ words text r) p.1 ∙ sym (append_assoc (words text before) (w ∷ []) (words text p.0)) in
    judged (words text p.0, tree, subst (λ (ws : List Word). Sentence start ws tree) e s)
refuted start text limits place read before rest tree shown (Syntax BadCharacter range) t s low within stops judged = no_fault text BadCharacter _ range rest refl t stops.0
refuted start text limits place read before rest tree shown (Syntax OpenString range) t s low within stops judged = no_fault text OpenString _ range rest refl t stops.0
refuted start text limits place read before rest tree shown (Syntax BadEscape range) t s low within stops judged = no_fault text BadEscape _ range rest refl t stops.0
refuted start text limits place read before rest tree shown (Syntax BadNumber range) t s low within stops judged = no_fault text BadNumber _ range rest refl t stops.0
refuted start text limits place read before rest tree shown (RecursionLimit range) t s low within stops judged =
    let past = judged (words text rest) tree (subst (λ (ws : List Word). Sentence start ws tree) (words-append text before rest) s) in
    omega (arith, past, low)
refuted start text limits place read before rest tree shown (TokenLimit range) t s low within stops judged =
    let p = some_leaf text place _ rest t stops.0.1 in
    let longer : length before + 1 ≤ length (before ++ rest) = omega (arith, length-append before rest, ap length p.1) in
    let count : read ≡ length before + 1 = stops.1 in
    too_many limits.tokens read (length (before ++ rest)) (omega arith) stops.3 within

none_of : (error : Option CstError) → ((e : CstError) → error ≡ Some e → ⊥) → error ≡ None
none_of None h = refl
none_of (Some e) h = absurd (h e refl)

pub accepts : (start : Rule) (text : List ℕ) (limits : Limits) (parsed : Report) (place : ℕ) (children : Forest) → Parses start text limits parsed place children → Admits start text limits parsed.error
accepts start text limits parsed place children h tokens tree tiles sentence low within =
    let p = along text 0 tokens (leaves children) place tiles h.tiles in
    let all = p.1.all_same in
    let shown_row : Row = row.node (root_kind start) (shown text children) row.nothing in
    let r : Reached = record { text = text; tokens = length (leaves children); place = place; read = parsed.tokens_reached } in
    let s : Spoken = record { start = start; text = text; words = words text (leaves children); row = shown_row; recursion = limits.recursion } in
    none_of parsed.error (λ e is.
    refuted start text limits place parsed.tokens_reached (leaves children) p.0 tree shown_row e p.1.tiles
    (subst (λ (ls : List Leaf). Sentence start (words text ls) tree) all sentence) low
    (subst (λ (ls : List Leaf). IsWithin limits.tokens (length ls)) all within)
    (subst (λ (x : Option CstError). Stops limits r x) is h.stops) (subst (λ (x : Option CstError). Judged s x) is h.judged))
