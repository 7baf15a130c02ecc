-- Definitions of directives.
use Rattle.std.proofs.Common.{◌≡◌, ℕ, ◌<◌, Bool, true, false, List, [], ◌∷◌, ◌++◌, length, map, Option, Some, None, refl, sym, ap, ◌∙◌, append_assoc, arith}
use Rattle.std.specs.Prelude.{codes, slice_get}
use Rattle.gql_source.specs.declared.file_id.FileId.{FileId}
use Rattle.gql_grammar.specs.declared.word.Word.{Word}
use Rattle.gql_grammar.specs.declared.word.Word.TheVariants.{At, DirectiveWord, RepeatableWord}
use Rattle.gql_grammar.specs.declared.symbol.Symbol.{Symbol}
use Rattle.gql_grammar.specs.declared.symbol.Symbol.TheVariants.{Token, Optional}
use Rattle.gql_grammar.specs.declared.symbol.Terminal.TheVariants.{Exactly, AnyName}
use Rattle.gql_grammar.specs.declared.rule.Rule.TheVariants as rule
use Rattle.gql_grammar.specs.declared.syntax_kind.SyntaxKind.{SyntaxKind}
use Rattle.gql_grammar.specs.declared.syntax_kind.SyntaxKind.TheVariants as kind
use Rattle.gql_grammar.specs.Sentence.{here, there}
use Rattle.gql_cst.specs.Forest.{Forest}
use Rattle.gql_ast.specs.Documents.{choice_of}
use Rattle.gql_ast.specs.declared.definition.Definition.TheVariants as definition
use Rattle.gql_ast_base.specs.Kinds.{is_kind}
use Rattle.gql_ast_base.specs.Literals.{description}
use Rattle.gql_ast_base.specs.Names.{Named}
use Rattle.gql_ast_base.specs.Parts.{gather, is_word, location, nth_name, nth_text}
use Rattle.gql_ast.specs.Fields.{argument_definitions}
use Rattle.gql_ast.specs.Schemas.{location_word, directive_location_of, directive_locations, directive_definition_of}
use Rattle.gql_ast.specs.declared.schema_definition.DirectiveDefinition.{DirectiveDefinition}
use Rattle.gql_ast.specs.declared.schema_definition.DirectiveLocation.{DirectiveLocation}
use Rattle.gql_ast_laws.proofs.Blind.{tree}
use Rattle.gql_print_laws.specs.bridge.Said.{Text, Said, token, space, text_of, forest_at}
use Rattle.gql_print_laws.specs.bridge.Written.{Ends}
use Rattle.gql_print_laws.proofs.Named.{name_is_name}
use Rattle.gql_sdl.specs.Definitions.{directive_text, locations_text}
use Rattle.gql_sdl.specs.Forms.{described, arguments_text}
use Rattle.gql_sdl.specs.Pieces.{between_if}
use Rattle.gql_sdl.specs.declared.shown.ShownDirective.{ShownDirective}
use Rattle.gql_sdl.specs.declared.shown.ShownInput.{ShownInput}
use Rattle.gql_print_laws.specs.Forms.{input_form}
use Rattle.gql_print_laws.specs.Meant.{says}
use Rattle.gql_print_laws.specs.Plain as plain
use Rattle.gql_print_laws.specs.Plain.{Input, Plain}
use Rattle.gql_print_laws.specs.Printable.{Each, IsInput, IsDirective}
use Rattle.gql_print_laws.specs.Told.{input_told, directive_told}
use Rattle.gql_print_laws.proofs.Depths.{IsShallow}
use Rattle.gql_print_laws.proofs.Choices.{is_directive}
use Rattle.gql_print_laws.proofs.Definition.{PrintedDefinition, definition_of_node, head_apart}
use Rattle.gql_print_laws.proofs.Grammar.{FitsTo, one_token, one_group, ignored, skip, take}
use Rattle.gql_print_laws.proofs.Inputs.{printed_input, arguments_said, argued_said, argued_text, argued_after, argued_fits, arguments_are, argued_shallow}
use Rattle.gql_print_laws.proofs.Locations.{on_said, on_text, on_after, on_way, on_fits, on_inside, locations_in, on_told, located, on_shallow}
use Rattle.gql_print_laws.proofs.Parts.{inner, close_said, close_own, close_other, close_names, described_said, description_said, described_text, described_from, described_fits, inside_described, own_description, names_described, description_is, described_shallow}
use Rattle.gql_print_laws.proofs.Printed.{Printed, each_printed}
use Rattle.gql_print_laws.proofs.Reading.{After, From, at_sign, mark_from_from, name_from, blank_after}
use Rattle.gql_print_laws.proofs.References.{IsName}
use Rattle.gql_print_laws.proofs.Standing.{inside_said, names_said, after_said, Stands, stands_behind, name_at, text_at, Means}

-- ---- `repeatable`

abbrev repeated_said : Bool → Said → Said
repeated_said true s = space (codes " ") (token (codes "repeatable") s)
repeated_said false s = s

repeated_text : (b : Bool) (s : Said) → text_of (repeated_said b s) ≡ between_if (codes " repeatable") b ++ text_of s
repeated_text true s = refl
repeated_text false s = refl

repeated_shallow : (b : Bool) (s : Said) → IsShallow s → IsShallow (repeated_said b s)
repeated_shallow true s h = h
repeated_shallow false s h = h

repeated_after : (b : Bool) {s : Said} {rest : Text} → After s rest → After (repeated_said b s) rest
repeated_after true a = blank_after (name_from refl a)
repeated_after false a = a

repeated_fits : {ss : List Symbol} (b : Bool) {s : Said} {vs : List Word} → FitsTo ss s vs → FitsTo (Optional rule.RepeatableSign ∷ ss) (repeated_said b s) vs
repeated_fits true f = ignored (take (one_group rule.RepeatableSign (Token (Exactly RepeatableWord) ∷ []) refl here (one_token refl f)))
repeated_fits false f = skip f

repeated_inside : (known : SyntaxKind) (b : Bool) (s : Said) → inside_said known (repeated_said b s) ≡ inside_said known s
repeated_inside known true s = refl
repeated_inside known false s = refl

repeated_told : (b : Bool) (s : Said) → locations_in (repeated_said b s) ≡ locations_in s
unfolding location_word
repeated_told true s = refl
repeated_told false s = refl

-- the names behind that of the directive tell whether it is repeatable
is_repeated : (b : Bool) (l : DirectiveLocation) (ls : List DirectiveLocation) → is_word (slice_get (names_said (repeated_said b (on_said l ls))) 0) (codes "repeatable") ≡ b
is_repeated true l ls = refl
is_repeated false l ls = refl

argued_told : (o : Option Said) (s : Said) → locations_in (close_said kind.ArgumentsDefinition o s) ≡ locations_in s
argued_told None s = refl
argued_told (Some i) s = refl

after_described : (n : ℕ) (d : Option Text) (s : Said) → after_said n (described_said d s) ≡ after_said n s
after_described n None s = refl
after_described n (Some t) s = refl

abbrev directive_way : List Symbol
directive_way =
    Optional rule.Description ∷ Token (Exactly DirectiveWord) ∷ Token (Exactly At) ∷ Token AnyName ∷ Optional rule.ArgumentsDefinition ∷ Optional rule.RepeatableSign ∷ on_way

abbrev told_directive : Option Text → Text → List Input → Bool → List DirectiveLocation → Plain
told_directive d n i b ls = plain.directive (record { description = d; name = n; arguments = i; repeatable = b; locations = ls })

same_directive : {d e : Option Text} {m n : Text} {i j : List Input} {b c : Bool} {k l : List DirectiveLocation} → d ≡ e → m ≡ n → i ≡ j → b ≡ c → k ≡ l
    → told_directive d m i b k ≡ told_directive e n j c l
same_directive {d = d} {e = e} {m = m} {n = n} {i = i} {j = j} {b = b} {c = c} {k = k} {l = l} v w x y z =
    ap (λ o. told_directive o m i b k) v ∙ ap (λ o. told_directive e o i b k) w ∙ ap (λ o. told_directive e n o b k) x ∙ ap (λ o. told_directive e n j o k) y
    ∙ ap (λ o. told_directive e n j c o) z

module _ (d : Option Text) (name : Text) (n : IsName name) (xs : List ShownInput) (hs : Each IsInput xs) (b : Bool) (l : DirectiveLocation) (ls : List DirectiveLocation) where
  given : Each (Printed input_form) xs
  given = each_printed input_form IsInput printed_input xs hs

  abbrev tail : Said
  tail = repeated_said b (on_said l ls)

  abbrev argued : Said
  argued = argued_said xs given tail

  abbrev named_said : Said
  named_said = token (codes "directive") (space (codes " ") (token (codes "@") (token name argued)))

  abbrev said : Said
  said = described_said d named_said

  said_text : text_of said ≡ (described d ++ (codes "directive @" ++ name)) ++ (arguments_text xs ++ (between_if (codes " repeatable") b ++ locations_text (l ∷ ls)))
  said_text =
      described_text d named_said
      ∙ ap (λ t. described d ++ (codes "directive @" ++ (name ++ t)))
      (argued_text xs given tail ∙ ap (λ t. arguments_text xs ++ t) (repeated_text b (on_said l ls) ∙ ap (λ t. between_if (codes " repeatable") b ++ t) (on_text l ls)))
      ∙ sym (append_assoc (described d) (codes "directive @" ++ name) (arguments_text xs ++ (between_if (codes " repeatable") b ++ locations_text (l ∷ ls))))

  said_from : {rest : Text} → Ends rest → From said rest
  said_from e =
      described_from d (name_from refl (blank_after (mark_from_from at_sign (name_from n (argued_after xs given (repeated_after b (on_after l ls e)))))))

  said_fits : {vs : List Word} → FitsTo directive_way said vs
  said_fits =
      described_fits d (one_token refl (ignored (one_token refl (one_token (name_is_name name n) (argued_fits xs given (repeated_fits b (on_fits l ls)))))))

  said_description : inside_said kind.Description said ≡ inner (description_said d)
  unfolding is_kind
  said_description =
      own_description d named_said (close_other kind.Description kind.ArgumentsDefinition (arguments_said xs given) tail refl
      ∙ repeated_inside kind.Description b (on_said l ls) ∙ on_inside kind.Description l ls)

  said_arguments : inside_said kind.ArgumentsDefinition said ≡ inner (arguments_said xs given)
  unfolding is_kind
  said_arguments =
      inside_described kind.ArgumentsDefinition d named_said refl
      ∙ close_own kind.ArgumentsDefinition (arguments_said xs given) tail (repeated_inside kind.ArgumentsDefinition b (on_said l ls) ∙ on_inside kind.ArgumentsDefinition l ls)

  names : names_said said ≡ codes "directive" ∷ name ∷ names_said tail
  names = names_described d named_said ∙ own ∙ ap (λ m. codes "directive" ∷ name ∷ m) (close_names kind.ArgumentsDefinition (arguments_said xs given) tail) where
    own : names_said named_said ≡ codes "directive" ∷ name ∷ names_said argued
    own = rw n refl

  behind_name : after_said 1 said ≡ argued
  behind_name = after_described 1 d named_said ∙ own where
    own : after_said 1 named_said ≡ argued
    own = rw n refl

  told : locations_in (after_said 1 said) ≡ l ∷ ls
  told = ap locations_in behind_name ∙ argued_told (arguments_said xs given) tail ∙ repeated_told b (on_said l ls) ∙ on_told l ls

  module _ (text : Text) (file : FileId) where
    locations_are : (m : ℕ) → Stands text m said → directive_locations text (forest_at m said) ≡ l ∷ ls
    unfolding directive_locations
    locations_are m r =
        let w = stands_behind text said m 1 r in
        ap (λ row. gather (directive_location_of text) row) w.is ∙ located text (after_said 1 said) w.place w.stands ∙ told

    repeatable_is : (m : ℕ) → Stands text m said → is_word (nth_text text 2 (forest_at m said)) (codes "repeatable") ≡ b
    repeatable_is m r = ap (λ o. is_word o (codes "repeatable")) (text_at text m said r 2 ∙ ap (λ ns. slice_get ns 2) names) ∙ is_repeated b l ls

    directive_is : (row : Forest) (found : Named) → nth_name text file 1 row ≡ Some found
        → directive_definition_of text file (tree kind.DirectiveDefinition 0 0 row) ≡ Some (record {
          description = description text row;
          name = found;
          arguments = argument_definitions text file row;
          repeatable = is_word (nth_text text 2 row) (codes "repeatable");
          locations = directive_locations text row;
          location = location file (tree kind.DirectiveDefinition 0 0 row);
        })
    unfolding directive_definition_of is_kind
    directive_is row found e = rw e refl

    said_means : Means text (choice_of text file) says kind.DirectiveDefinition said (told_directive d name (map input_told xs) b (l ∷ ls))
    said_means m r =
        let row = forest_at m said in
        let a = name_at text file m said r 1 name (ap (λ ns. slice_get ns 1) names) in
        let it : DirectiveDefinition = record {
          description = description text row;
          name = a.found;
          arguments = argument_definitions text file row;
          repeatable = is_word (nth_text text 2 row) (codes "repeatable");
          locations = directive_locations text row;
          location = location file (tree kind.DirectiveDefinition 0 0 row);
        } in
        record {
          found = definition.DirectiveDefinition it;
          is = is_directive text file row it (directive_is row a.found a.is);
          same = same_directive (description_is text d said m r said_description) a.same (arguments_are text file xs given said m r said_arguments) (repeatable_is m r)
              (locations_are m r);
        }

  printed_located : PrintedDefinition ((described d ++ (codes "directive @" ++ name)) ++ (arguments_text xs ++ (between_if (codes " repeatable") b ++ locations_text (l ∷ ls))))
      (told_directive d name (map input_told xs) b (l ∷ ls))
  printed_located =
      definition_of_node rule.DirectiveDefinition kind.DirectiveDefinition said
      ((described d ++ (codes "directive @" ++ name)) ++ (arguments_text xs ++ (between_if (codes " repeatable") b ++ locations_text (l ∷ ls))))
      (told_directive d name (map input_told xs) b (l ∷ ls)) refl refl refl (there (there (there here)))
      (record {
        text = said_text;
        from = said_from;
        way = directive_way;
        one = here;
        fits = λ e. said_fits;
        shallow = described_shallow d named_said (argued_shallow xs given tail (repeated_shallow b (on_said l ls) (on_shallow l ls)));
        apart = head_apart d (codes "directive") (space (codes " ") (token (codes "@") (token name argued))) refl;
        means = said_means;
      })

-- the locations, of which there are some
with_locations : (d : Option Text) (name : Text) → IsName name → (xs : List ShownInput) → Each IsInput xs → (b : Bool) (ls : List DirectiveLocation) → 0 < length ls
    → PrintedDefinition ((described d ++ (codes "directive @" ++ name)) ++ (arguments_text xs ++ (between_if (codes " repeatable") b ++ locations_text ls)))
    (told_directive d name (map input_told xs) b ls)
with_locations d name n xs hs b [] some = absurd (omega arith)
with_locations d name n xs hs b (l ∷ ls) some = printed_located d name n xs hs b l ls

pub printed_directive : (x : ShownDirective) → IsDirective x → PrintedDefinition (directive_text x) (directive_told x)
printed_directive x h = with_locations x.description x.name.text h.named x.arguments h.arguments x.is_repeatable x.locations h.some
