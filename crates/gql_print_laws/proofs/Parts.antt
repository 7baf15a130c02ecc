-- Parts that stand or do not: a description before something, or a node behind a space.
use Rattle.std.proofs.Common.{◌≡◌, ℕ, true, false, List, ◌∷◌, ◌++◌, ◌+◌, length, Option, Some, None, refl, sym, ap, ◌∙◌, subst, append_assoc, append-nil, arith}
use Rattle.std.specs.Prelude.{codes, slice_get}
use Rattle.gql_grammar.specs.declared.word.Word.{Word}
use Rattle.gql_grammar.specs.declared.symbol.Symbol.{Symbol}
use Rattle.gql_grammar.specs.declared.symbol.Symbol.TheVariants.{Optional}
use Rattle.gql_grammar.specs.declared.rule.Rule.TheVariants as rule
use Rattle.gql_grammar.specs.declared.syntax_kind.SyntaxKind.{SyntaxKind}
use Rattle.gql_grammar.specs.declared.syntax_kind.SyntaxKind.TheVariants as kind
use Rattle.gql_grammar.specs.Sentence.{here}
use Rattle.gql_cst.specs.Forest.{nothing, tree_then}
use Rattle.gql_ast_base.specs.Kinds.{is_kind}
use Rattle.gql_ast_base.specs.Literals.{string_of, description}
use Rattle.gql_ast_base.specs.Names.{is_name}
use Rattle.gql_ast_base.specs.Parts.{first, token_text}
use Rattle.gql_ast_laws.proofs.TokenKinds.{same_kind}
use Rattle.gql_print_laws.specs.bridge.Said.{Text, Said, over, token, space, under, text_of, forest_at}
use Rattle.gql_print_laws.proofs.Strings.{string_stands}
use Rattle.gql_sdl.specs.Forms.{string_text, described}
use Rattle.jb_print.specs.Quoted.{quoted}
use Rattle.gql_print_laws.proofs.Depths.{IsShallow}
use Rattle.gql_print_laws.proofs.Grammar.{FitsTo, no_symbol, one_token, one_node, ignored, skip, take}
use Rattle.gql_print_laws.proofs.Reading.{From, string_from, blank_after, node_from}
use Rattle.gql_print_laws.proofs.Standing.{inside_said, nodes_said, names_said, Stands, Within, within, leaf_tree, token_stands}

-- ---- a node behind a space

abbrev pub part_said : SyntaxKind → Option Said → Said → Said
part_said k None s = s
part_said k (Some i) s = space (codes " ") (under k i s)

abbrev pub inner : Option Said → Said
inner None = over
inner (Some i) = i

pub inside_other : (known k : SyntaxKind) (o : Option Said) (s : Said) → is_kind k known ≡ false → inside_said known (part_said k o s) ≡ inside_said known s
inside_other known k None s e = refl
inside_other known k (Some i) s e = rw e refl

pub inside_own : (k : SyntaxKind) (o : Option Said) (s : Said) → inside_said k s ≡ over → inside_said k (part_said k o s) ≡ inner o
inside_own k None s e = e
inside_own k (Some i) s e = let h = same_kind k in rw h refl

pub nodes_other : (known k : SyntaxKind) (o : Option Said) (s : Said) → is_kind k known ≡ false → nodes_said known (part_said k o s) ≡ nodes_said known s
nodes_other known k None s e = refl
nodes_other known k (Some i) s e = rw e refl

-- ---- a node right behind a name

abbrev pub close_said : SyntaxKind → Option Said → Said → Said
close_said k None s = s
close_said k (Some i) s = under k i s

pub close_other : (known k : SyntaxKind) (o : Option Said) (s : Said) → is_kind k known ≡ false → inside_said known (close_said k o s) ≡ inside_said known s
close_other known k None s e = refl
close_other known k (Some i) s e = rw e refl

pub close_own : (k : SyntaxKind) (o : Option Said) (s : Said) → inside_said k s ≡ over → inside_said k (close_said k o s) ≡ inner o
close_own k None s e = e
close_own k (Some i) s e = let h = same_kind k in rw h refl

pub close_nodes : (known k : SyntaxKind) (o : Option Said) (s : Said) → is_kind k known ≡ false → nodes_said known (close_said k o s) ≡ nodes_said known s
close_nodes known k None s e = refl
close_nodes known k (Some i) s e = rw e refl

pub close_names : (k : SyntaxKind) (o : Option Said) (s : Said) → names_said (close_said k o s) ≡ names_said s
close_names k None s = refl
close_names k (Some i) s = refl

-- a name that stands first
pub named_first : (t : Text) (s : Said) → is_name t ≡ true → slice_get (names_said (token t s)) 0 ≡ Some t
named_first t s h = rw h refl

-- ---- descriptions

abbrev pub description_said : Option Text → Option Said
description_said None = None
description_said (Some t) = Some (token (quoted t) over)

abbrev pub described_said : Option Text → Said → Said
described_said None s = s
described_said (Some t) s = under kind.Description (token (quoted t) over) (space (codes " ") s)

pub described_text : (d : Option Text) (s : Said) → text_of (described_said d s) ≡ described d ++ text_of s
unfolding string_text
described_text None s = refl
described_text (Some t) s = ap (λ l. l ++ (32 ∷ text_of s)) (append-nil (quoted t)) ∙ sym (append_assoc (quoted t) (codes " ") (text_of s))

pub described_from : (d : Option Text) {s : Said} {rest : Text} → From s rest → From (described_said d s) rest
described_from None f = f
described_from (Some t) f = let b = blank_after f in node_from refl (string_from t (record { ends = b.ends; lexes = tt })) b.lexes

pub described_fits : {ss : List Symbol} (d : Option Text) {s : Said} {vs : List Word} → FitsTo ss s vs → FitsTo (Optional rule.Description ∷ ss) (described_said d s) vs
described_fits None f = skip f
described_fits (Some t) f = take (one_node rule.Description _ refl here (one_token refl no_symbol) (ignored f))

pub described_shallow : (d : Option Text) (s : Said) → IsShallow s → IsShallow (described_said d s)
described_shallow None s h = h
described_shallow (Some t) s h = omega (arith, h)

pub inside_described : (known : SyntaxKind) (d : Option Text) (s : Said) → is_kind kind.Description known ≡ false → inside_said known (described_said d s) ≡ inside_said known s
inside_described known None s e = refl
inside_described known (Some t) s e = rw e refl

pub own_description : (d : Option Text) (s : Said) → inside_said kind.Description s ≡ over → inside_said kind.Description (described_said d s) ≡ inner (description_said d)
unfolding is_kind
own_description None s e = e
own_description (Some t) s e = refl

pub nodes_described : (known : SyntaxKind) (d : Option Text) (s : Said) → is_kind kind.Description known ≡ false → nodes_said known (described_said d s) ≡ nodes_said known s
nodes_described known None s e = refl
nodes_described known (Some t) s e = rw e refl

pub names_described : (d : Option Text) (s : Said) → names_said (described_said d s) ≡ names_said s
names_described None s = refl
names_described (Some t) s = refl

module _ (text : Text) where
  string_is : (n : ℕ) (t : Text) → token_text text (leaf_tree text n t) ≡ Some t → (v : Text) → t ≡ quoted v
      → first (string_of text) (tree_then kind.Token n (n + length t) nothing nothing) ≡ Some v
  string_is n t h v e = rw h (rw e (ap (λ x. Some x) (string_stands v)))

  described_is : (d : Option Text) (n : ℕ) → Stands text n (inner (description_said d)) → first (string_of text) (forest_at n (inner (description_said d))) ≡ d
  described_is None n r = refl
  described_is (Some t) n r = string_is n (quoted t) (token_stands text n (quoted t) over r) t refl

  pub description_is : (d : Option Text) (s : Said) (n : ℕ) → Stands text n s → inside_said kind.Description s ≡ inner (description_said d) → description text (forest_at n s) ≡ d
  unfolding description
  description_is d s n r e =
      let w : Within text n kind.Description s (inner (description_said d)) = subst (λ i. Within text n kind.Description s i) e (within text kind.Description refl s n r) in
      ap (λ row. first (string_of text) row) w.is ∙ described_is d w.place w.stands
