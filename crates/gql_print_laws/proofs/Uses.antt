-- The directives that are used: `@deprecated`, `@specifiedBy` and `@oneOf`.
use Rattle.std.proofs.Common.{◌≡◌, ℕ, true, List, [], ◌∷◌, ◌++◌, map, Option, Some, None, refl, sym, ap, ◌∙◌, subst, append-nil, arith}
use Rattle.std.specs.Prelude.{codes, slice_get}
use Rattle.gql_source.specs.declared.file_id.FileId.{FileId}
use Rattle.gql_grammar.specs.declared.word.Word.{Word}
use Rattle.gql_grammar.specs.declared.symbol.Symbol.{Symbol}
use Rattle.gql_grammar.specs.declared.symbol.Symbol.TheVariants.{Token, Optional}
use Rattle.gql_grammar.specs.declared.symbol.Terminal.TheVariants.{Exactly, AnyName}
use Rattle.gql_grammar.specs.declared.word.Word.TheVariants.{At}
use Rattle.gql_grammar.specs.declared.rule.Rule.TheVariants as rule
use Rattle.gql_grammar.specs.declared.syntax_kind.SyntaxKind.TheVariants as kind
use Rattle.gql_grammar.specs.Sentence.{here}
use Rattle.gql_cst.specs.Forest.{Forest}
use Rattle.gql_ast_base.specs.Directives.{argument_of, arguments, directive_of, directives}
use Rattle.gql_ast_base.specs.Kinds.{is_kind}
use Rattle.gql_ast_base.specs.Names.{Named, is_name}
use Rattle.gql_ast_base.specs.Parts.{first, gather, location, nth_name}
use Rattle.gql_ast_base.specs.Values.{value_of}
use Rattle.gql_ast_base.specs.declared.directive.Directive.{Directive}
use Rattle.gql_ast_base.specs.declared.value.Value.{Value}
use Rattle.gql_ast_laws.proofs.Blind.{tree}
use Rattle.gql_print_laws.specs.Literal.{Literal, null, string, literal_in}
use Rattle.gql_print_laws.specs.bridge.Said.{Text, Said, over, token, space, under, text_of, forest_at}
use Rattle.gql_print_laws.specs.Written.{IsConstant}
use Rattle.gql_print_laws.specs.bridge.Written.{content_said, Ends}
use Rattle.gql_print_laws.proofs.Fitting.{fits_value}
use Rattle.gql_print_laws.proofs.Named.{name_is_name}
use Rattle.gql_sdl.specs.Forms.{string_text, reason_text, deprecated}
use Rattle.gql_sdl.specs.declared.shown.Deprecation.{Deprecation}
use Rattle.jb_print.specs.Quoted.{quoted}
use Rattle.gql_print_laws.specs.Forms.{Form}
use Rattle.gql_print_laws.specs.Meant.{argument_says, use_says}
use Rattle.gql_print_laws.specs.Plain as plain
use Rattle.gql_print_laws.specs.Plain.{Use}
use Rattle.gql_print_laws.specs.Told.{reason_value, use_with, deprecation_uses}
use Rattle.gql_print_laws.proofs.Depths.{IsShallow}
use Rattle.gql_print_laws.proofs.Grammar.{FitsTo, no_symbol, one_token, one_node, ignored, skip, take, stop}
use Rattle.gql_print_laws.proofs.Parts.{part_said, inner}
use Rattle.gql_print_laws.proofs.Printed.{Printed}
use Rattle.gql_print_laws.proofs.Reading.{After, From, after_over, at_sign, paren_open, paren_close, colon, mark_after, mark_after_from, mark_from_from, name_from, node_from, node_after, blank_after, value_from}
use Rattle.gql_print_laws.proofs.Standing.{inside_said, nodes_said, names_said, Stands, name_at, Only, Means, AllMean, gathered, inside_gathered, first_of}
use Rattle.gql_print_laws.proofs.Values.{value_means, only_value}

pub data Note : Type 0 where
  deprecation : Option Text → Note
  url : Text → Note
  one_of : Note

abbrev pub note_text : Note → Text
note_text (deprecation reason) = codes "@deprecated(reason: " ++ (reason_text reason ++ codes ")")
note_text (url t) = codes "@specifiedBy(url: " ++ (string_text t ++ codes ")")
note_text one_of = codes "@oneOf"

abbrev pub note_told : Note → Use
note_told (deprecation reason) = use_with (codes "deprecated") (codes "reason") (reason_value reason)
note_told (url t) = use_with (codes "specifiedBy") (codes "url") (string t)
note_told one_of = record { name = codes "oneOf"; arguments = [] }

abbrev pub note_form : Form Note Directive Use
note_form = record { rule = rule.ConstDirective; kind = kind.Directive; written = note_text; meant = directive_of; says = use_says; told = note_told }

-- ---- an argument

abbrev argument_said : Text → Literal → Said
argument_said name l = token name (token (codes ":") (space (codes " ") (under kind.Value (content_said l) over)))

abbrev arguments_said : Text → Literal → Said
arguments_said name l = token (codes "(") (under kind.Argument (argument_said name l) (token (codes ")") over))

abbrev with_argument : Text → Text → Literal → Said
with_argument name argument l = token (codes "@") (token name (under kind.Arguments (arguments_said argument l) over))

abbrev make_use : Text → List plain.Argument → Use
make_use name given = record { name = name; arguments = given }

module _ (text : Text) (file : FileId) where
  argument_is : (row : Forest) (name : Named) (value : Value) → nth_name text file 0 row ≡ Some name → first (value_of text file) row ≡ Some value
      → argument_of text file (tree kind.Argument 0 0 row) ≡ Some (record { name = name; value = value; location = location file (tree kind.Argument 0 0 row) })
  unfolding argument_of is_kind
  argument_is row name value e f = rw (e, f) refl

  only_argument : Only text (argument_of text file) argument_says kind.Argument
  unfolding argument_of
  only_argument t h = rw h refl

  argument_name : (name : Text) (l : Literal) → is_name name ≡ true → slice_get (names_said (argument_said name l)) 0 ≡ Some name
  argument_name name l h = rw h refl

  argument_value : (name : Text) (l : Literal) → IsConstant l → (n : ℕ) → Stands text n (argument_said name l)
      → map literal_in (gather (value_of text file) (forest_at n (argument_said name l))) ≡ l ∷ []
  unfolding is_kind
  argument_value name l h n r =
      gathered text (value_of text file) literal_in kind.Value (only_value text file) refl (argument_said name l) n r (l ∷ []) (value_means text file l h, tt)

  argument_means : (name : Text) (l : Literal) → is_name name ≡ true → IsConstant l → Means text (argument_of text file) argument_says kind.Argument (argument_said name l) (name, l)
  argument_means name l n h m r =
      let a = name_at text file m (argument_said name l) r 0 name (argument_name name l n) in
      let v = first_of text (value_of text file) literal_in kind.Value (forest_at m (argument_said name l)) l (argument_value name l h m r) in
      record {
        found = record { name = a.found; value = v.found; location = location file (tree kind.Argument 0 0 (forest_at m (argument_said name l))) };
        is = argument_is (forest_at m (argument_said name l)) a.found v.found a.is v.is;
        same = ap (λ x. (x, literal_in v.found)) a.same ∙ ap (λ x. (name, x)) v.same;
      }

  -- ---- a directive

  directive_is : (row : Forest) (name : Named) → nth_name text file 0 row ≡ Some name
      → directive_of text file (tree kind.Directive 0 0 row) ≡ Some (record { name = name; arguments = arguments text file row; location = location file (tree kind.Directive 0 0 row) })
  unfolding directive_of is_kind
  directive_is row name e = rw e refl

  pub only_directive : Only text (directive_of text file) use_says kind.Directive
  unfolding directive_of
  only_directive t h = rw h refl

  directive_means : (s : Said) (name : Text) (given : List plain.Argument) → slice_get (names_said s) 0 ≡ Some name
      → ((n : ℕ) → Stands text n s → map argument_says (arguments text file (forest_at n s)) ≡ given)
      → Means text (directive_of text file) use_says kind.Directive s (make_use name given)
  directive_means s name given h g m r =
      let a = name_at text file m s r 0 name h in
      record {
        found = record { name = a.found; arguments = arguments text file (forest_at m s); location = location file (tree kind.Directive 0 0 (forest_at m s)) };
        is = directive_is (forest_at m s) a.found a.is;
        same = ap (λ x. make_use x (map argument_says (arguments text file (forest_at m s)))) a.same ∙ ap (λ x. make_use name x) (g m r);
      }

  given_one : (name argument : Text) (l : Literal) → is_name argument ≡ true → IsConstant l → (n : ℕ) → Stands text n (with_argument name argument l)
      → map argument_says (arguments text file (forest_at n (with_argument name argument l))) ≡ (argument, l) ∷ []
  unfolding arguments is_kind
  given_one name argument l a h n r =
      inside_gathered text (argument_of text file) argument_says kind.Argument only_argument refl kind.Arguments refl (with_argument name argument l) n r ((argument, l) ∷ [])
      (argument_means argument l a h, tt)

  given_none : (n : ℕ) → Stands text n (token (codes "@") (token (codes "oneOf") over)) → map argument_says (arguments text file (forest_at n (token (codes "@") (token (codes "oneOf") over)))) ≡ []
  unfolding arguments is_kind
  given_none n r = refl

  with_argument_name : (name argument : Text) (l : Literal) → is_name name ≡ true → slice_get (names_said (with_argument name argument l)) 0 ≡ Some name
  with_argument_name name argument l h = rw h refl

-- ---- how it is read

argument_from : (name : Text) (l : Literal) → is_name name ≡ true → IsConstant l → {rest : Text} → Ends rest → From (argument_said name l) rest
argument_from name l n h e = name_from n (mark_after colon (blank_after (node_from refl (value_from l h e) tt)))

with_argument_from : (name argument : Text) (l : Literal) → is_name name ≡ true → is_name argument ≡ true → IsConstant l → {rest : Text} → Ends rest → From (with_argument name argument l) rest
with_argument_from name argument l n a h e =
    let close = mark_after paren_close (after_over e) in
    let opened = mark_after_from paren_open (node_from refl (argument_from argument l a h close.ends) close.lexes) in
    mark_from_from at_sign (name_from n (node_after refl opened tt))

abbrev directive_way : List Symbol
directive_way = Token (Exactly At) ∷ Token AnyName ∷ Optional rule.ConstArguments ∷ []

with_argument_fits : (name argument : Text) (l : Literal) → is_name name ≡ true → is_name argument ≡ true → IsConstant l → {vs : List Word}
    → FitsTo directive_way (with_argument name argument l) vs
with_argument_fits name argument l n a h =
    let v = fits_value l h in
    one_token refl (one_token (name_is_name name n) (take (one_node rule.ConstArguments _ refl here
    (one_token refl (one_node rule.ConstArgument _ refl here
    (one_token (name_is_name argument a) (one_token refl (ignored (one_node rule.ConstValue v.way refl v.one (record { fits = v.fits _ }) no_symbol))))
    (stop (one_token refl no_symbol)))) no_symbol)))

closing : (t : Text) → ((((t ++ []) ++ []) ++ (41 ∷ [])) ++ []) ≡ t ++ (41 ∷ [])
closing t = append-nil (((t ++ []) ++ []) ++ (41 ∷ [])) ∙ ap (λ l. l ++ (41 ∷ [])) (append-nil (t ++ []) ∙ append-nil t)

noted : (note : Note) (name argument : Text) (l : Literal) → is_name name ≡ true → is_name argument ≡ true → IsConstant l → IsShallow (content_said l)
    → text_of (with_argument name argument l) ≡ note_text note → make_use name ((argument, l) ∷ []) ≡ note_told note → Printed note_form note
noted note name argument l n a h shallow text told = record {
  said = with_argument name argument l;
  text = text;
  from = with_argument_from name argument l n a h;
  way = directive_way;
  one = here;
  fits = with_argument_fits name argument l n a h;
  shallow = omega (arith, shallow);
  means = λ t file. subst (λ u. Means t (directive_of t file) use_says kind.Directive (with_argument name argument l) u) told
      (directive_means t file (with_argument name argument l) name ((argument, l) ∷ []) (with_argument_name t file name argument l n) (given_one t file name argument l a h));
}

quoted_text : (front t : Text) → front ++ ((((quoted t ++ []) ++ []) ++ (41 ∷ [])) ++ []) ≡ front ++ (string_text t ++ (41 ∷ []))
unfolding string_text
quoted_text front t = ap (λ l. front ++ l) (closing (quoted t))

pub printed_note : (note : Note) → Printed note_form note
printed_note (deprecation None) = noted (deprecation None) (codes "deprecated") (codes "reason") null refl refl tt (omega arith) refl refl
printed_note (deprecation (Some t)) = noted (deprecation (Some t)) (codes "deprecated") (codes "reason") (string t) refl refl tt (omega arith) (quoted_text (codes "@deprecated(reason: ") t) refl
printed_note (url t) = noted (url t) (codes "specifiedBy") (codes "url") (string t) refl refl tt (omega arith) (quoted_text (codes "@specifiedBy(url: ") t) refl
printed_note one_of = record {
  said = token (codes "@") (token (codes "oneOf") over);
  text = refl;
  from = λ e. mark_from_from at_sign (name_from refl (after_over e));
  way = directive_way;
  one = here;
  fits = one_token refl (one_token refl (skip no_symbol));
  shallow = omega arith;
  means = λ t file. directive_means t file (token (codes "@") (token (codes "oneOf") over)) (codes "oneOf") [] refl (given_none t file);
}

-- ---- the part with the directives of something

abbrev pub notes_said : Option Note → Option Said
notes_said None = None
notes_said (Some note) = Some (under kind.Directive (printed_note note).said over)

abbrev pub noted_said : Option Note → Said → Said
noted_said o s = part_said kind.Directives (notes_said o) s

abbrev pub notes_text : Option Note → Text
notes_text None = []
notes_text (Some note) = codes " " ++ note_text note

abbrev pub notes_told : Option Note → List Use
notes_told None = []
notes_told (Some note) = note_told note ∷ []

pub noted_text : (o : Option Note) (s : Said) → text_of (noted_said o s) ≡ notes_text o ++ text_of s
noted_text None s = refl
noted_text (Some note) s = let p = printed_note note in ap (λ t. codes " " ++ (t ++ text_of s)) (append-nil (text_of p.said) ∙ p.text)

pub noted_shallow : (o : Option Note) (s : Said) → IsShallow s → IsShallow (noted_said o s)
noted_shallow None s h = h
noted_shallow (Some note) s h = let a = (printed_note note).shallow in omega (arith, a, h)

pub noted_after : (o : Option Note) {s : Said} {rest : Text} → After s rest → After (noted_said o s) rest
noted_after None a = a
noted_after (Some note) a = blank_after (node_from refl (node_from refl ((printed_note note).from a.ends) tt) a.lexes)

pub noted_fits : {ss : List Symbol} (o : Option Note) {s : Said} {vs : List Word} → FitsTo ss s vs → FitsTo (Optional rule.ConstDirectives ∷ ss) (noted_said o s) vs
noted_fits None f = skip f
noted_fits (Some note) f =
    let p = printed_note note in
    ignored (take (one_node rule.ConstDirectives _ refl here (one_node rule.ConstDirective p.way refl p.one p.fits (stop no_symbol)) f))

module _ (text : Text) (file : FileId) where
  note_means : (o : Option Note) → AllMean text (directive_of text file) use_says kind.Directive (nodes_said kind.Directive (inner (notes_said o))) (notes_told o)
  unfolding is_kind
  note_means None = tt
  note_means (Some note) = ((printed_note note).means text file, tt)

  pub uses_are : (o : Option Note) (s : Said) (n : ℕ) → Stands text n s → inside_said kind.Directives s ≡ inner (notes_said o)
      → map use_says (directives text file (forest_at n s)) ≡ notes_told o
  unfolding directives
  uses_are o s n r e =
      inside_gathered text (directive_of text file) use_says kind.Directive (only_directive text file) refl kind.Directives refl s n r (notes_told o)
      (subst (λ i. AllMean text (directive_of text file) use_says kind.Directive (nodes_said kind.Directive i) (notes_told o)) (sym e) (note_means o))

-- ---- what is shown

abbrev pub deprecation_note : Option Deprecation → Option Note
deprecation_note None = None
deprecation_note (Some it) = Some (deprecation it.reason)

pub deprecated_text : (o : Option Deprecation) → notes_text (deprecation_note o) ≡ deprecated o
deprecated_text None = refl
deprecated_text (Some it) = refl

pub deprecated_told : (o : Option Deprecation) → notes_told (deprecation_note o) ≡ deprecation_uses o
deprecated_told None = refl
deprecated_told (Some it) = refl
