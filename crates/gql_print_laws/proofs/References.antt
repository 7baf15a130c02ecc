-- Names of types with a mark between them: interfaces and members.
use Rattle.std.proofs.Common.{◌≡◌, ℕ, true, List, [], ◌∷◌, ◌++◌, map, Option, Some, None, refl, sym, ap, ◌∙◌, subst, append_assoc, append-nil, arith}
use Rattle.std.specs.Prelude.{codes}
use Rattle.gql_source.specs.declared.file_id.FileId.{FileId}
use Rattle.gql_grammar.specs.declared.word.Word.{Word}
use Rattle.gql_grammar.specs.declared.word.Word.TheVariants.{Ampersand, Bar}
use Rattle.gql_grammar.specs.declared.symbol.Symbol.{Symbol}
use Rattle.gql_grammar.specs.declared.symbol.Symbol.TheVariants.{Token, One, Optional, Repeated}
use Rattle.gql_grammar.specs.declared.symbol.Terminal.TheVariants.{Exactly}
use Rattle.gql_grammar.specs.declared.rule.Rule.{Rule}
use Rattle.gql_grammar.specs.declared.rule.Rule.TheVariants as rule
use Rattle.gql_grammar.specs.declared.syntax_kind.SyntaxKind.TheVariants as kind
use Rattle.gql_grammar.specs.Grammar.{declared}
use Rattle.gql_grammar.specs.Rule.{kind_of}
use Rattle.gql_grammar.specs.Sentence.{IsOneOf, here}
use Rattle.gql_grammar.specs.Word.{is_same}
use Rattle.gql_cst.specs.Words.{word_of}
use Rattle.gql_cst.specs.Forest.{Forest}
use Rattle.gql_ast.specs.TypeText.{type_text}
use Rattle.gql_ast_base.specs.Kinds.{is_kind}
use Rattle.gql_ast_base.specs.Names.{Named, is_name}
use Rattle.gql_ast_base.specs.Parts.{nth_name}
use Rattle.gql_ast_base.specs.NamedTypes.{named_type_of}
use Rattle.gql_ast_base.specs.declared.type_ref.TypeRef.{TypeRef}
use Rattle.gql_ast.specs.Definitions.{interfaces, members}
use Rattle.gql_ast_laws.proofs.Blind.{tree}
use Rattle.gql_print_laws.specs.bridge.Said.{Text, Said, over, token, space, under, text_of, forest_at}
use Rattle.gql_print_laws.proofs.Named.{name_is_name}
use Rattle.gql_sdl.specs.Forms.{implements_text, members_text}
use Rattle.gql_sdl.specs.Pieces.{pieces}
use Rattle.gql_print_laws.specs.Meant.{name_text}
use Rattle.gql_print_laws.specs.Printable.{Each, IsReference}
use Rattle.gql_print_laws.proofs.Depths.{IsShallow}
use Rattle.gql_print_laws.proofs.Grammar.{FitsTo, no_symbol, one_token, one_node, one_group, ignored, skip, take, stop, again}
use Rattle.gql_print_laws.proofs.Parts.{part_said, inner, named_first}
use Rattle.gql_print_laws.proofs.Reading.{After, From, after_over, IsMark, ampersand, bar, equals, mark_from, name_from, node_from, blank_after}
use Rattle.gql_print_laws.proofs.Standing.{inside_said, nodes_said, Stands, name_at, Only, Means, AllMean, inside_gathered}

abbrev pub IsName : Text → Type 0
IsName t = is_name t ≡ true

pub references : (types : List TypeRef) → Each IsReference types → Each IsName (map type_text types)
references [] h = tt
references (ty ∷ types) h = (h.0, references types h.1)

-- ---- one name, and others behind a mark

abbrev name_said : Text → Said → Said
name_said t s = under kind.NamedType (token t over) s

abbrev signs : ℕ → List Text → Said → Said
signs b [] s = s
signs b (t ∷ ts) s = space (codes " ") (token (b ∷ []) (space (codes " ") (name_said t (signs b ts s))))

signs_text : (b : ℕ) (ts : List Text) (s : Said) → text_of (signs b ts s) ≡ pieces (32 ∷ b ∷ 32 ∷ []) true ts ++ text_of s
signs_text b [] s = refl
signs_text b (t ∷ ts) s =
    ap (λ l. 32 ∷ b ∷ 32 ∷ l)
    (ap (λ l. l ++ text_of (signs b ts s)) (append-nil t) ∙ ap (λ l. t ++ l) (signs_text b ts s) ∙ sym (append_assoc t (pieces (32 ∷ b ∷ 32 ∷ []) true ts) (text_of s)))

name_reads : {t : Text} {s : Said} {rest : Text} → IsName t → After s rest → From (name_said t s) rest
name_reads n a = node_from refl (name_from n (after_over a.ends)) a.lexes

signs_after : {b : ℕ} → IsMark b → (ts : List Text) → Each IsName ts → {s : Said} {rest : Text} → After s rest → After (signs b ts s) rest
signs_after m [] h a = a
signs_after m (t ∷ ts) h a = blank_after (mark_from m (blank_after (name_reads h.0 (signs_after m ts h.1 a))))

signs_shallow : (b : ℕ) (ts : List Text) (s : Said) → IsShallow s → IsShallow (signs b ts s)
signs_shallow b [] s h = h
signs_shallow b (t ∷ ts) s h = let a = signs_shallow b ts s h in omega (arith, a)

name_fits : {ss : List Symbol} {t : Text} {s : Said} {vs : List Word} → IsName t → FitsTo ss s vs → FitsTo (One rule.NamedType ∷ ss) (name_said t s) vs
name_fits {t = t} n f = one_node rule.NamedType _ refl here (one_token (name_is_name t n) no_symbol) f

signs_fit : (b : ℕ) (w : Word) (r : Rule) → kind_of r ≡ None → IsOneOf (Token (Exactly w) ∷ One rule.NamedType ∷ []) (declared r) → is_same w (word_of (b ∷ [])) ≡ true
    → {ss : List Symbol} (ts : List Text) → Each IsName ts → {s : Said} {vs : List Word} → FitsTo ss s vs → FitsTo (Repeated r ∷ ss) (signs b ts s) vs
signs_fit b w r e o g [] h f = stop f
signs_fit b w r e o g (t ∷ ts) h f =
    again (one_group r (Token (Exactly w) ∷ One rule.NamedType ∷ []) e o (ignored (one_token g (ignored (name_fits h.0 (signs_fit b w r e o g ts h.1 f))))))

module _ (text : Text) (file : FileId) where
  named_is : (row : Forest) (name : Named) → nth_name text file 0 row ≡ Some name → named_type_of text file (tree kind.NamedType 0 0 row) ≡ Some name
  unfolding named_type_of is_kind
  named_is row name e = e

  only_name : Only text (named_type_of text file) name_text kind.NamedType
  unfolding named_type_of
  only_name t h = rw h refl

  abbrev AllNamed : List Said → List Text → Type 0
  AllNamed is ts = AllMean text (named_type_of text file) name_text kind.NamedType is ts

  name_means : (t : Text) → IsName t → Means text (named_type_of text file) name_text kind.NamedType (token t over) t
  name_means t h n r =
      let a = name_at text file n (token t over) r 0 t (named_first t over h) in
      record { found = a.found; is = named_is (forest_at n (token t over)) a.found a.is; same = a.same }

  signs_mean : (b : ℕ) (ts : List Text) → Each IsName ts → AllNamed (nodes_said kind.NamedType (signs b ts over)) ts
  unfolding is_kind
  signs_mean b [] h = tt
  signs_mean b (t ∷ ts) h = (name_means t h.0, signs_mean b ts h.1)

-- ---- interfaces

abbrev pub interfaces_said : List Text → Option Said
interfaces_said [] = None
interfaces_said (t ∷ ts) = Some (token (codes "implements") (space (codes " ") (name_said t (signs 38 ts over))))

abbrev pub implemented_said : List Text → Said → Said
implemented_said ts s = part_said kind.ImplementsInterfaces (interfaces_said ts) s

pub implemented_text : (types : List TypeRef) (s : Said) → text_of (implemented_said (map type_text types) s) ≡ implements_text types ++ text_of s
implemented_text [] s = refl
implemented_text (ty ∷ types) s =
    let t = type_text ty in
    let ts = map type_text types in
    ap (λ l. (codes " implements " ++ l) ++ text_of s)
    (ap (λ l. l ++ text_of (signs 38 ts over)) (append-nil t) ∙ ap (λ l. t ++ l) (signs_text 38 ts over ∙ append-nil (pieces (codes " & ") true ts)))

pub implemented_after : (ts : List Text) → Each IsName ts → {s : Said} {rest : Text} → After s rest → After (implemented_said ts s) rest
implemented_after [] h a = a
implemented_after (t ∷ ts) h a =
    blank_after (node_from refl (name_from refl (blank_after (name_reads h.0 (signs_after ampersand ts h.1 (after_over a.ends))))) a.lexes)

pub implemented_shallow : (ts : List Text) (s : Said) → IsShallow s → IsShallow (implemented_said ts s)
implemented_shallow [] s h = h
implemented_shallow (t ∷ ts) s h = let a = signs_shallow 38 ts over (omega arith) in omega (arith, a, h)

pub implemented_fits : {ss : List Symbol} (ts : List Text) → Each IsName ts → {s : Said} {vs : List Word} → FitsTo ss s vs
    → FitsTo (Optional rule.ImplementsInterfaces ∷ ss) (implemented_said ts s) vs
implemented_fits [] h f = skip f
implemented_fits (t ∷ ts) h f =
    ignored (take (one_node rule.ImplementsInterfaces _ refl here (one_token refl (skip (ignored (name_fits h.0
    (signs_fit 38 Ampersand rule.AmpersandType refl here refl ts h.1 no_symbol))))) f))

-- ---- members

abbrev pub members_said : List Text → Option Said
members_said [] = None
members_said (t ∷ ts) = Some (token (codes "=") (space (codes " ") (name_said t (signs 124 ts over))))

abbrev pub membered_said : List Text → Said → Said
membered_said ts s = part_said kind.UnionMemberTypes (members_said ts) s

pub membered_text : (types : List TypeRef) (s : Said) → text_of (membered_said (map type_text types) s) ≡ members_text types ++ text_of s
membered_text [] s = refl
membered_text (ty ∷ types) s =
    let t = type_text ty in
    let ts = map type_text types in
    ap (λ l. (codes " = " ++ l) ++ text_of s)
    (ap (λ l. l ++ text_of (signs 124 ts over)) (append-nil t) ∙ ap (λ l. t ++ l) (signs_text 124 ts over ∙ append-nil (pieces (codes " | ") true ts)))

pub membered_after : (ts : List Text) → Each IsName ts → {s : Said} {rest : Text} → After s rest → After (membered_said ts s) rest
membered_after [] h a = a
membered_after (t ∷ ts) h a =
    blank_after (node_from refl (mark_from equals (blank_after (name_reads h.0 (signs_after bar ts h.1 (after_over a.ends))))) a.lexes)

pub membered_shallow : (ts : List Text) (s : Said) → IsShallow s → IsShallow (membered_said ts s)
membered_shallow [] s h = h
membered_shallow (t ∷ ts) s h = let a = signs_shallow 124 ts over (omega arith) in omega (arith, a, h)

pub membered_fits : {ss : List Symbol} (ts : List Text) → Each IsName ts → {s : Said} {vs : List Word} → FitsTo ss s vs
    → FitsTo (Optional rule.UnionMemberTypes ∷ ss) (membered_said ts s) vs
membered_fits [] h f = skip f
membered_fits (t ∷ ts) h f =
    ignored (take (one_node rule.UnionMemberTypes _ refl here (one_token refl (skip (ignored (name_fits h.0
    (signs_fit 124 Bar rule.BarType refl here refl ts h.1 no_symbol))))) f))

module _ (text : Text) (file : FileId) where
  interfaces_mean : (ts : List Text) → Each IsName ts → AllNamed text file (nodes_said kind.NamedType (inner (interfaces_said ts))) ts
  unfolding is_kind
  interfaces_mean [] h = tt
  interfaces_mean (t ∷ ts) h = (name_means text file t h.0, signs_mean text file 38 ts h.1)

  members_mean : (ts : List Text) → Each IsName ts → AllNamed text file (nodes_said kind.NamedType (inner (members_said ts))) ts
  unfolding is_kind
  members_mean [] h = tt
  members_mean (t ∷ ts) h = (name_means text file t h.0, signs_mean text file 124 ts h.1)

  pub interfaces_are : (ts : List Text) → Each IsName ts → (s : Said) (n : ℕ) → Stands text n s → inside_said kind.ImplementsInterfaces s ≡ inner (interfaces_said ts)
      → map name_text (interfaces text file (forest_at n s)) ≡ ts
  unfolding interfaces
  interfaces_are ts h s n r e =
      inside_gathered text (named_type_of text file) name_text kind.NamedType (only_name text file) refl kind.ImplementsInterfaces refl s n r ts
      (subst (λ i. AllNamed text file (nodes_said kind.NamedType i) ts) (sym e) (interfaces_mean ts h))

  pub members_are : (ts : List Text) → Each IsName ts → (s : Said) (n : ℕ) → Stands text n s → inside_said kind.UnionMemberTypes s ≡ inner (members_said ts)
      → map name_text (members text file (forest_at n s)) ≡ ts
  unfolding members
  members_are ts h s n r e =
      inside_gathered text (named_type_of text file) name_text kind.NamedType (only_name text file) refl kind.UnionMemberTypes refl s n r ts
      (subst (λ i. AllNamed text file (nodes_said kind.NamedType i) ts) (sym e) (members_mean ts h))
