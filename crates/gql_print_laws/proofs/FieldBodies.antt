-- The interfaces and the fields of a type, behind a keyword and its name.
use Rattle.std.proofs.Common.{◌≡◌, ℕ, true, false, List, [], ◌∷◌, ◌++◌, map, Some, None, refl, ap, ◌∙◌, append-nil, arith}
use Rattle.std.specs.Prelude.{codes, slice_get}
use Rattle.gql_source.specs.declared.file_id.FileId.{FileId}
use Rattle.gql_grammar.specs.declared.word.Word.TheVariants.{BraceOpen}
use Rattle.gql_grammar.specs.declared.symbol.Symbol.{Symbol}
use Rattle.gql_grammar.specs.declared.symbol.Symbol.TheVariants.{Optional, Eager}
use Rattle.gql_grammar.specs.declared.rule.Rule.TheVariants as rule
use Rattle.gql_grammar.specs.declared.syntax_kind.SyntaxKind.TheVariants as kind
use Rattle.gql_grammar.specs.Sentence.{here, is_brace_next}
use Rattle.gql_ast.specs.TypeText.{type_text}
use Rattle.gql_ast_base.specs.Directives.{directives}
use Rattle.gql_ast_base.specs.Kinds.{is_kind}
use Rattle.gql_ast_base.specs.Literals.{description}
use Rattle.gql_print_laws.specs.bridge.Said.{Text, Said, over, token, space, text_of, words_of, forest_at}
use Rattle.gql_print_laws.specs.bridge.Written.{Ends}
use Rattle.gql_sdl.specs.declared.shown.ShownType.{ShownType}
use Rattle.gql_sdl.specs.declared.shown.TypeKind.{TypeKind}
use Rattle.gql_sdl.specs.Forms.{described}
use Rattle.gql_print_laws.specs.Meant.{use_says, name_text}
use Rattle.gql_print_laws.specs.Printable.{Each, IsField, IsReference}
use Rattle.gql_print_laws.proofs.Depths.{IsShallow}
use Rattle.gql_print_laws.proofs.Definition.{head_said, head_text, head_description, head_inside, head_from, head_name, head_fits, head_apart, head_shallow}
use Rattle.gql_print_laws.proofs.Grammar.{FitsTo, no_symbol, skip}
use Rattle.gql_print_laws.proofs.Parts.{inner, inside_own, inside_other, description_said, description_is}
use Rattle.gql_print_laws.proofs.Printed.{Printed, each_printed}
use Rattle.gql_print_laws.proofs.Reading.{From, after_over}
use Rattle.gql_print_laws.proofs.References.{IsName, references}
use Rattle.gql_print_laws.proofs.Standing.{inside_said, names_said, Stands}
use Rattle.gql_print_laws.proofs.TypeParts.{head_way, told_type, same_head, same_parts}
use Rattle.gql_grammar.specs.declared.word.Word.{Word}
use Rattle.gql_grammar.specs.Word.{is_same}
use Rattle.gql_cst.specs.Words.{word_of}
use Rattle.gql_ast_base.specs.Names.{is_name}
use Rattle.gql_ast.specs.Definitions.{interfaces}
use Rattle.gql_ast.specs.Fields.{fields}
use Rattle.gql_sdl.specs.Definitions.{fields_text}
use Rattle.gql_sdl.specs.Forms.{implements_text, field_text}
use Rattle.gql_sdl.specs.Pieces.{block}
use Rattle.gql_print_laws.specs.Forms.{field_form}
use Rattle.gql_print_laws.specs.Meant.{field_says}
use Rattle.gql_print_laws.specs.Told.{field_told}
use Rattle.gql_print_laws.proofs.Blocks.{in_braces, block_said, block_text, block_after, block_fits, block_is, block_shallow}
use Rattle.gql_print_laws.proofs.Fields.{printed_field, only_field}
use Rattle.gql_print_laws.proofs.References.{interfaces_said, implemented_said, implemented_text, implemented_after, implemented_shallow, implemented_fits, interfaces_are}
use Rattle.gql_print_laws.proofs.Uses.{uses_are}

abbrev pub fielded_way : Word → List Symbol
fielded_way w = head_way w (Optional rule.ImplementsInterfaces ∷ Optional rule.ConstDirectives ∷ Eager rule.FieldsDefinition ∷ [])

module _ (word : Text) (x : ShownType) (hi : Each IsReference x.interfaces) (hf : Each IsField x.fields) where
  abbrev given : Each (Printed field_form) x.fields
  given = each_printed field_form IsField printed_field x.fields hf

  abbrev names : List Text
  names = map type_text x.interfaces

  abbrev fields_said : Said
  fields_said = block_said field_form kind.FieldsDefinition x.fields given over

  abbrev body : Said
  body = implemented_said names fields_said

  abbrev pub fielded_said : Said
  fielded_said = head_said x.description word x.name.text body

  pub fielded_text : text_of fielded_said ≡ described x.description ++ (word ++ (codes " " ++ (x.name.text ++ fields_text x)))
  fielded_text =
      head_text x.description word x.name.text body
      ∙ ap (λ t. described x.description ++ (word ++ (codes " " ++ (x.name.text ++ t))))
      (implemented_text x.interfaces fields_said
      ∙ ap (λ t. implements_text x.interfaces ++ t) (block_text field_form kind.FieldsDefinition x.fields given over ∙ append-nil (block (map field_text x.fields))))

  pub fielded_name : is_name word ≡ true → IsName x.name.text → slice_get (names_said fielded_said) 1 ≡ Some x.name.text
  fielded_name w n = head_name x.description word x.name.text body w n

  pub fielded_from : is_name word ≡ true → IsName x.name.text → {rest : Text} → Ends rest → From fielded_said rest
  fielded_from w n e =
      head_from x.description word x.name.text body w n
      (implemented_after names (references x.interfaces hi) (block_after field_form kind.FieldsDefinition refl refl x.fields given (after_over e)))

  pub fielded_fits : (w : Word) → is_same w (word_of word) ≡ true → IsName x.name.text → {vs : List Word} → is_brace_next vs ≡ false → FitsTo (fielded_way w) fielded_said vs
  fielded_fits w e n b =
      head_fits x.description word x.name.text body w e n
      (implemented_fits names (references x.interfaces hi) (skip (block_fits field_form kind.FieldsDefinition rule.FieldsDefinition refl refl here x.fields given b no_symbol)))

  pub fielded_shallow : IsShallow fielded_said
  fielded_shallow =
      head_shallow x.description word x.name.text body
      (implemented_shallow names fields_said (block_shallow field_form kind.FieldsDefinition refl refl x.fields given over (omega arith)))

  pub fielded_apart : is_same BraceOpen (word_of word) ≡ false → (vs : List Word) → is_brace_next (words_of fielded_said ++ vs) ≡ false
  fielded_apart e vs = head_apart x.description word (space (codes " ") (token x.name.text body)) e vs

  said_description : inside_said kind.Description fielded_said ≡ inner (description_said x.description)
  unfolding is_kind
  said_description =
      head_description x.description word x.name.text body
      (inside_other kind.Description kind.ImplementsInterfaces (interfaces_said names) fields_said refl
      ∙ inside_other kind.Description kind.FieldsDefinition (in_braces field_form x.fields given) over refl)

  said_interfaces : inside_said kind.ImplementsInterfaces fielded_said ≡ inner (interfaces_said names)
  unfolding is_kind
  said_interfaces =
      head_inside x.description word x.name.text body kind.ImplementsInterfaces refl
      ∙ inside_own kind.ImplementsInterfaces (interfaces_said names) fields_said
      (inside_other kind.ImplementsInterfaces kind.FieldsDefinition (in_braces field_form x.fields given) over refl)

  said_uses : inside_said kind.Directives fielded_said ≡ over
  unfolding is_kind
  said_uses =
      head_inside x.description word x.name.text body kind.Directives refl
      ∙ inside_other kind.Directives kind.ImplementsInterfaces (interfaces_said names) fields_said refl
      ∙ inside_other kind.Directives kind.FieldsDefinition (in_braces field_form x.fields given) over refl

  said_fields : inside_said kind.FieldsDefinition fielded_said ≡ inner (in_braces field_form x.fields given)
  unfolding is_kind
  said_fields =
      head_inside x.description word x.name.text body kind.FieldsDefinition refl
      ∙ inside_other kind.FieldsDefinition kind.ImplementsInterfaces (interfaces_said names) fields_said refl
      ∙ inside_own kind.FieldsDefinition (in_braces field_form x.fields given) over refl

  module _ (text : Text) (file : FileId) (m : ℕ) (r : Stands text m fielded_said) where
    fields_are : map field_says (fields text file (forest_at m fielded_said)) ≡ map field_told x.fields
    unfolding fields
    fields_are = block_is field_form kind.FieldsDefinition text file refl refl (only_field text file) x.fields given fielded_said m r said_fields

    -- what the parts say, in a type of the kind with the name
    pub fielded_says : (k : TypeKind) (name : Text) → name ≡ x.name.text
        → told_type k (description text (forest_at m fielded_said)) name (map use_says (directives text file (forest_at m fielded_said)))
        (map name_text (interfaces text file (forest_at m fielded_said))) (map field_says (fields text file (forest_at m fielded_said))) [] [] []
        ≡ told_type k x.description x.name.text [] names (map field_told x.fields) [] [] []
    fielded_says k name e =
        same_head k (map name_text (interfaces text file (forest_at m fielded_said))) (map field_says (fields text file (forest_at m fielded_said))) [] [] []
        (description_is text x.description fielded_said m r said_description) e (uses_are text file None fielded_said m r said_uses)
        ∙ same_parts k x.description x.name.text [] (interfaces_are text file names (references x.interfaces hi) fielded_said m r said_interfaces) fields_are refl refl refl
