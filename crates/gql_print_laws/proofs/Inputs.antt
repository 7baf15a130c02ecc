-- Arguments, and fields of input objects.
use Rattle.std.proofs.Common.{◌≡◌, ℕ, true, List, [], ◌∷◌, ◌++◌, map, Option, Some, None, refl, sym, ap, ◌∙◌, subst, append-nil, arith}
use Rattle.std.specs.Prelude.{codes, slice_get}
use Rattle.std.specs.Option.{option_map}
use Rattle.gql_source.specs.declared.file_id.FileId.{FileId}
use Rattle.gql_grammar.specs.declared.word.Word.{Word}
use Rattle.gql_grammar.specs.declared.symbol.Symbol.{Symbol}
use Rattle.gql_grammar.specs.declared.symbol.Symbol.TheVariants.{Token, One, Optional}
use Rattle.gql_grammar.specs.declared.symbol.Terminal.TheVariants.{Exactly, AnyName}
use Rattle.gql_grammar.specs.declared.word.Word.TheVariants.{Colon}
use Rattle.gql_grammar.specs.declared.rule.Rule.TheVariants as rule
use Rattle.gql_grammar.specs.declared.syntax_kind.SyntaxKind.TheVariants as kind
use Rattle.gql_grammar.specs.Sentence.{here}
use Rattle.gql_cst.specs.Forest.{Forest}
use Rattle.gql_ast.specs.TypeText.{type_text}
use Rattle.gql_ast.specs.ValueText.{value_text}
use Rattle.gql_ast_base.specs.Directives.{directives}
use Rattle.gql_ast_base.specs.Kinds.{is_kind}
use Rattle.gql_ast_base.specs.Literals.{description}
use Rattle.gql_ast_base.specs.Names.{Named}
use Rattle.gql_ast_base.specs.Parts.{first, location, nth_name}
use Rattle.gql_ast_base.specs.Types.{type_of}
use Rattle.gql_ast_base.specs.Values.{value_of, default_value}
use Rattle.gql_ast_base.specs.declared.type_ref.TypeRef.{TypeRef}
use Rattle.gql_ast_base.specs.declared.value.Value.{Value}
use Rattle.gql_ast.specs.Fields.{input_value_of, argument_definitions}
use Rattle.gql_ast_laws.specs.Printed.{unplaced}
use Rattle.gql_ast_laws.proofs.Blind.{tree}
use Rattle.gql_print_laws.specs.Literal.{literal_in}
use Rattle.gql_print_laws.specs.bridge.Said.{Text, Said, over, token, space, under, text_of, forest_at}
use Rattle.gql_print_laws.specs.bridge.Written.{content_said, Ends}
use Rattle.gql_print_laws.proofs.Fitting.{fits_value}
use Rattle.gql_print_laws.proofs.Named.{name_is_name}
use Rattle.gql_print_laws.proofs.Texts.{text_is_written}
use Rattle.gql_sdl.specs.Forms.{described, default_text, deprecated, input_text, arguments_text}
use Rattle.gql_sdl.specs.Pieces.{pieces}
use Rattle.gql_sdl.specs.declared.shown.ShownInput.{ShownInput}
use Rattle.gql_print_laws.specs.Forms.{input_form}
use Rattle.gql_print_laws.specs.Meant.{input_says}
use Rattle.gql_print_laws.specs.Plain.{Input, Use}
use Rattle.gql_print_laws.specs.Printable.{Each, IsDefault, IsInput}
use Rattle.gql_print_laws.specs.Told.{input_told}
use Rattle.gql_print_laws.proofs.Depths.{IsShallow, value_depth}
use Rattle.gql_print_laws.proofs.Grammar.{FitsTo, no_symbol, one_token, one_node, ignored, skip, take}
use Rattle.gql_print_laws.proofs.Parts.{part_said, close_said, inner, named_first, inside_own, inside_other, nodes_other, described_said, description_said, described_text, described_from, described_fits, inside_described, own_description, nodes_described, names_described, description_is, described_shallow}
use Rattle.gql_print_laws.proofs.Printed.{Printed, one_said, one_text, commas, commas_text, commas_after, one_fits, commas_fit, one_says, commas_say, one_shallow, commas_shallow}
use Rattle.gql_print_laws.proofs.Reading.{After, From, after_over, equals, paren_open, paren_close, colon, mark_after, mark_after_from, mark_from, name_from, node_from, node_after, blank_after, value_from}
use Rattle.gql_print_laws.proofs.Standing.{inside_said, nodes_said, names_said, Stands, Within, within, name_at, Only, Means, AllMean, gathered, inside_gathered, first_of}
use Rattle.gql_print_laws.proofs.Types.{printed_type, only_type}
use Rattle.gql_print_laws.proofs.Uses.{noted_said, noted_text, noted_after, noted_fits, notes_said, notes_text, uses_are, deprecation_note, deprecated_text, deprecated_told, noted_shallow}
use Rattle.gql_print_laws.proofs.Values.{value_means, only_value, written_alike}

-- ---- defaults

-- the literal of a default, which is said
abbrev default_said : (o : Option Text) → IsDefault o → Option Said
default_said None h = None
default_said (Some t) h = Some (token (codes "=") (space (codes " ") (under kind.Value (content_said (literal_in h.value)) over)))

abbrev defaulted_said : (o : Option Text) → IsDefault o → Said → Said
defaulted_said o h s = part_said kind.DefaultValue (default_said o h) s

defaulted_text : (o : Option Text) (h : IsDefault o) (s : Said) → text_of (defaulted_said o h s) ≡ default_text o ++ text_of s
defaulted_text None h s = refl
defaulted_text (Some t) h s =
    ap (λ l. codes " = " ++ (l ++ text_of s)) (append-nil (text_of (content_said (literal_in h.value))) ∙ sym (text_is_written h.value.kind) ∙ sym h.is)

defaulted_shallow : (o : Option Text) (h : IsDefault o) (s : Said) → IsShallow s → IsShallow (defaulted_said o h s)
defaulted_shallow None h s a = a
defaulted_shallow (Some t) h s a = let b = value_depth (literal_in h.value) in let c = h.shallow in omega (arith, a, b, c)

defaulted_after : (o : Option Text) (h : IsDefault o) {s : Said} {rest : Text} → After s rest → After (defaulted_said o h s) rest
defaulted_after None h a = a
defaulted_after (Some t) h a = blank_after (node_from refl (mark_from equals (blank_after (node_from refl (value_from (literal_in h.value) h.constant a.ends) tt))) a.lexes)

defaulted_fits : {ss : List Symbol} (o : Option Text) (h : IsDefault o) {s : Said} {vs : List Word} → FitsTo ss s vs → FitsTo (Optional rule.DefaultValue ∷ ss) (defaulted_said o h s) vs
defaulted_fits None h f = skip f
defaulted_fits (Some t) h f =
    let v = fits_value (literal_in h.value) h.constant in
    ignored (take (one_node rule.DefaultValue _ refl here (one_token refl (ignored (one_node rule.ConstValue v.way refl v.one (record { fits = v.fits _ }) no_symbol))) f))

module _ (text : Text) (file : FileId) where
  first_value : (f : Forest) (v : Value) → first (value_of text file) f ≡ Some v → (t : Text) → value_text v ≡ t → option_map value_text (first (value_of text file) f) ≡ Some t
  first_value f v e t h = ap (λ o. option_map value_text o) e ∙ ap (λ x. Some x) h

  default_within : (o : Option Text) (h : IsDefault o) (n : ℕ) → Stands text n (inner (default_said o h)) → option_map value_text (first (value_of text file) (forest_at n (inner (default_said o h)))) ≡ o
  unfolding is_kind
  default_within None h n r = refl
  default_within (Some t) h n r =
      let l = literal_in h.value in
      let s = token (codes "=") (space (codes " ") (under kind.Value (content_said l) over)) in
      let v = first_of text (value_of text file) literal_in kind.Value (forest_at n s) l
      (gathered text (value_of text file) literal_in kind.Value (only_value text file) refl s n r (l ∷ []) (value_means text file l h.constant, tt)) in
      first_value (forest_at n s) v.found v.is t (written_alike v.found h.value v.same ∙ sym h.is)

  default_is : (o : Option Text) (h : IsDefault o) (s : Said) (n : ℕ) → Stands text n s → inside_said kind.DefaultValue s ≡ inner (default_said o h)
      → option_map value_text (default_value text file (forest_at n s)) ≡ o
  unfolding default_value
  default_is o h s n r e =
      let w : Within text n kind.DefaultValue s (inner (default_said o h)) = subst (λ i. Within text n kind.DefaultValue s i) e (within text kind.DefaultValue refl s n r) in
      ap (λ row. option_map value_text (first (value_of text file) row)) w.is ∙ default_within o h w.place w.stands

-- ---- one input

abbrev make_input : Option Text → Text → TypeRef → Option Text → List Use → Input
make_input d name ty default uses = record { description = d; name = name; ty = ty; default = default; uses = uses }

abbrev input_way : List Symbol
input_way =
    Optional rule.Description ∷ Token AnyName ∷ Token (Exactly Colon) ∷ One rule.TypeReference ∷ Optional rule.DefaultValue ∷ Optional rule.ConstDirectives ∷ []

same_input : {d e : Option Text} {m n : Text} {s t : TypeRef} {o p : Option Text} {u v : List Use} → d ≡ e → m ≡ n → s ≡ t → o ≡ p → u ≡ v
    → make_input d m s o u ≡ make_input e n t p v
same_input {d = d} {e = e} {m = m} {n = n} {s = s} {t = t} {o = o} {p = p} {u = u} {v = v} a b c f g =
    ap (λ x. make_input x m s o u) a ∙ ap (λ x. make_input e x s o u) b ∙ ap (λ x. make_input e n x o u) c ∙ ap (λ x. make_input e n t x u) f
    ∙ ap (λ x. make_input e n t p x) g

module _ (text : Text) (file : FileId) where
  input_is : (row : Forest) (name : Named) (ty : TypeRef) → nth_name text file 0 row ≡ Some name → first (type_of text file) row ≡ Some ty
      → input_value_of text file (tree kind.InputValueDefinition 0 0 row) ≡ Some (record {
        description = description text row;
        name = name;
        ty = ty;
        default_value = default_value text file row;
        directives = directives text file row;
        location = location file (tree kind.InputValueDefinition 0 0 row);
      })
  unfolding input_value_of is_kind
  input_is row name ty e f = rw (e, f) refl

  pub only_input : Only text (input_value_of text file) input_says kind.InputValueDefinition
  unfolding input_value_of
  only_input t h = rw h refl

module _ (x : ShownInput) (h : IsInput x) where
  abbrev tail : Said
  tail = defaulted_said x.default_value h.constant (noted_said (deprecation_note x.deprecation) over)

  abbrev behind_name : Said
  behind_name = token (codes ":") (space (codes " ") (under kind.TypeReference (printed_type x.ty h.typed h.shallow).said tail))

  abbrev input_said : Said
  input_said = described_said x.description (token x.name.text behind_name)

  tail_text : text_of tail ≡ default_text x.default_value ++ deprecated x.deprecation
  tail_text =
      defaulted_text x.default_value h.constant (noted_said (deprecation_note x.deprecation) over)
      ∙ ap (λ t. default_text x.default_value ++ t) (noted_text (deprecation_note x.deprecation) over ∙ append-nil (notes_text (deprecation_note x.deprecation)) ∙ deprecated_text x.deprecation)

  said_text : text_of input_said ≡ input_text x
  said_text =
      described_text x.description (token x.name.text behind_name)
      ∙ ap (λ t. described x.description ++ (x.name.text ++ (codes ": " ++ (t ++ text_of tail)))) (printed_type x.ty h.typed h.shallow).text
      ∙ ap (λ t. described x.description ++ (x.name.text ++ (codes ": " ++ (type_text x.ty ++ t)))) tail_text

  said_from : {rest : Text} → Ends rest → From input_said rest
  said_from e =
      let more = defaulted_after x.default_value h.constant (noted_after (deprecation_note x.deprecation) (after_over e)) in
      described_from x.description (name_from h.named (mark_after colon (blank_after (node_from refl ((printed_type x.ty h.typed h.shallow).from more.ends) more.lexes))))

  said_fits : {vs : List Word} → FitsTo input_way input_said vs
  said_fits =
      let t = printed_type x.ty h.typed h.shallow in
      described_fits x.description (one_token (name_is_name x.name.text h.named) (one_token refl (ignored (one_node rule.TypeReference t.way refl t.one t.fits
      (defaulted_fits x.default_value h.constant (noted_fits (deprecation_note x.deprecation) no_symbol))))))

  said_shallow : IsShallow input_said
  said_shallow =
      let t = (printed_type x.ty h.typed h.shallow).shallow in
      let a = defaulted_shallow x.default_value h.constant (noted_said (deprecation_note x.deprecation) over) (noted_shallow (deprecation_note x.deprecation) over (omega arith)) in
      described_shallow x.description (token x.name.text behind_name) (omega (arith, t, a))

  said_name : slice_get (names_said input_said) 0 ≡ Some x.name.text
  said_name = ap (λ l. slice_get l 0) (names_described x.description (token x.name.text behind_name)) ∙ named_first x.name.text behind_name h.named

  tail_inside : inside_said kind.Description tail ≡ over
  unfolding is_kind
  tail_inside =
      inside_other kind.Description kind.DefaultValue (default_said x.default_value h.constant) (noted_said (deprecation_note x.deprecation) over) refl
      ∙ inside_other kind.Description kind.Directives (notes_said (deprecation_note x.deprecation)) over refl

  said_description : inside_said kind.Description input_said ≡ inner (description_said x.description)
  unfolding is_kind
  said_description = own_description x.description (token x.name.text behind_name) tail_inside

  said_default : inside_said kind.DefaultValue input_said ≡ inner (default_said x.default_value h.constant)
  unfolding is_kind
  said_default =
      inside_described kind.DefaultValue x.description (token x.name.text behind_name) refl
      ∙ inside_own kind.DefaultValue (default_said x.default_value h.constant) (noted_said (deprecation_note x.deprecation) over)
      (inside_other kind.DefaultValue kind.Directives (notes_said (deprecation_note x.deprecation)) over refl)

  said_uses : inside_said kind.Directives input_said ≡ inner (notes_said (deprecation_note x.deprecation))
  unfolding is_kind
  said_uses =
      inside_described kind.Directives x.description (token x.name.text behind_name) refl
      ∙ inside_other kind.Directives kind.DefaultValue (default_said x.default_value h.constant) (noted_said (deprecation_note x.deprecation) over) refl
      ∙ inside_own kind.Directives (notes_said (deprecation_note x.deprecation)) over refl

  said_types : nodes_said kind.TypeReference input_said ≡ (printed_type x.ty h.typed h.shallow).said ∷ []
  unfolding is_kind
  said_types =
      nodes_described kind.TypeReference x.description (token x.name.text behind_name) refl
      ∙ ap (λ l. (printed_type x.ty h.typed h.shallow).said ∷ l)
      (nodes_other kind.TypeReference kind.DefaultValue (default_said x.default_value h.constant) (noted_said (deprecation_note x.deprecation) over) refl
      ∙ nodes_other kind.TypeReference kind.Directives (notes_said (deprecation_note x.deprecation)) over refl)

  said_means : (text : Text) (file : FileId) → Means text (input_value_of text file) input_says kind.InputValueDefinition input_said (input_told x)
  said_means text file n r =
      let row = forest_at n input_said in
      let a = name_at text file n input_said r 0 x.name.text said_name in
      let t = first_of text (type_of text file) unplaced kind.TypeReference row (unplaced x.ty)
      (gathered text (type_of text file) unplaced kind.TypeReference (only_type text file) refl input_said n r (unplaced x.ty ∷ [])
      (subst (λ is. AllMean text (type_of text file) unplaced kind.TypeReference is (unplaced x.ty ∷ [])) (sym said_types) ((printed_type x.ty h.typed h.shallow).means text file, tt))) in
      record {
        found = record {
          description = description text row;
          name = a.found;
          ty = t.found;
          default_value = default_value text file row;
          directives = directives text file row;
          location = location file (tree kind.InputValueDefinition 0 0 row);
        };
        is = input_is text file row a.found t.found a.is t.is;
        same = same_input (description_is text x.description input_said n r said_description) a.same t.same
            (default_is text file x.default_value h.constant input_said n r said_default)
            (uses_are text file (deprecation_note x.deprecation) input_said n r said_uses ∙ deprecated_told x.deprecation);
      }

pub printed_input : (x : ShownInput) → IsInput x → Printed input_form x
printed_input x h = record {
  said = input_said x h;
  text = said_text x h;
  from = said_from x h;
  way = input_way;
  one = here;
  fits = said_fits x h;
  shallow = said_shallow x h;
  means = said_means x h;
}

-- ---- arguments

abbrev pub arguments_said : (xs : List ShownInput) → Each (Printed input_form) xs → Option Said
arguments_said [] h = None
arguments_said (x ∷ xs) h = Some (token (codes "(") (one_said input_form x h.0 (commas input_form xs h.1 (token (codes ")") over))))

abbrev pub argued_said : (xs : List ShownInput) → Each (Printed input_form) xs → Said → Said
argued_said xs h s = close_said kind.ArgumentsDefinition (arguments_said xs h) s

pub argued_text : (xs : List ShownInput) (h : Each (Printed input_form) xs) (s : Said) → text_of (argued_said xs h s) ≡ arguments_text xs ++ text_of s
argued_text [] h s = refl
argued_text (x ∷ xs) h s =
    let close = token (codes ")") over in
    ap (λ t. (codes "(" ++ t) ++ text_of s)
    (one_text input_form x h.0 (commas input_form xs h.1 close) (pieces (codes ", ") true (map input_text xs)) (codes ")") (commas_text input_form xs h.1 close))

pub argued_shallow : (xs : List ShownInput) (h : Each (Printed input_form) xs) (s : Said) → IsShallow s → IsShallow (argued_said xs h s)
argued_shallow [] h s a = a
argued_shallow (x ∷ xs) h s a =
    let close = token (codes ")") over in
    let b = one_shallow input_form refl x h.0 (commas input_form xs h.1 close) (commas_shallow input_form refl xs h.1 close (omega arith)) in
    omega (arith, a, b)

pub argued_after : (xs : List ShownInput) (h : Each (Printed input_form) xs) {s : Said} {rest : Text} → After s rest → After (argued_said xs h s) rest
argued_after [] h a = a
argued_after (x ∷ xs) h a =
    let more = commas_after input_form refl xs h.1 (mark_after paren_close (after_over a.ends)) in
    node_after refl (mark_after_from paren_open (node_from refl (h.0.from more.ends) more.lexes)) a.lexes

pub argued_fits : {ss : List Symbol} (xs : List ShownInput) (h : Each (Printed input_form) xs) {s : Said} {vs : List Word} → FitsTo ss s vs
    → FitsTo (Optional rule.ArgumentsDefinition ∷ ss) (argued_said xs h s) vs
argued_fits [] h f = skip f
argued_fits (x ∷ xs) h f =
    take (one_node rule.ArgumentsDefinition _ refl here
    (one_token refl (one_fits input_form refl x h.0 (commas_fit input_form refl xs h.1 (one_token refl no_symbol)))) f)

module _ (text : Text) (file : FileId) where
  arguments_say : (xs : List ShownInput) (h : Each (Printed input_form) xs)
      → AllMean text (input_value_of text file) input_says kind.InputValueDefinition (nodes_said kind.InputValueDefinition (inner (arguments_said xs h))) (map input_told xs)
  arguments_say [] h = tt
  arguments_say (x ∷ xs) h =
      one_says input_form text file x h.0 (commas input_form xs h.1 (token (codes ")") over)) (map input_told xs) (commas_say input_form text file xs h.1 (token (codes ")") over) tt)

  pub arguments_are : (xs : List ShownInput) (h : Each (Printed input_form) xs) (s : Said) (n : ℕ) → Stands text n s
      → inside_said kind.ArgumentsDefinition s ≡ inner (arguments_said xs h) → map input_says (argument_definitions text file (forest_at n s)) ≡ map input_told xs
  unfolding argument_definitions
  arguments_are xs h s n r e =
      inside_gathered text (input_value_of text file) input_says kind.InputValueDefinition (only_input text file) refl kind.ArgumentsDefinition refl s n r (map input_told xs)
      (subst (λ i. AllMean text (input_value_of text file) input_says kind.InputValueDefinition (nodes_said kind.InputValueDefinition i) (map input_told xs)) (sym e) (arguments_say xs h))
