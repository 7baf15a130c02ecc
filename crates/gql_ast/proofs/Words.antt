-- Which conversion answers for an extension: that of the word behind `extend`.
use Rattle.std.proofs.Common.{◌≡◌, Bool, true, false, ◌&&◌, Option, Some, None, refl, sym, ap, ◌∙◌}
use Rattle.std.proofs.lemmas.Slice.Eq.{bytes_eq-Decides}
use Rattle.std.specs.Prelude.{codes}
use Rattle.std.specs.Option.{option_map}
use Rattle.std.specs.Str.{bytes_eq}
use Rattle.gql_source.specs.declared.file_id.FileId.{FileId}
use Rattle.gql_cst.specs.Forest.{Plain}
use Rattle.gql_grammar.specs.declared.syntax_kind.SyntaxKind.TheVariants as kind
use Rattle.gql_ast_base.specs.Kinds.{is_kind}
use Rattle.gql_ast_base.specs.Parts.{Text, or_else, nth_text, is_word}
use Rattle.gql_ast.specs.Extensions.{extends, schema_extension_of, scalar_extension_of, object_extension_of, interface_extension_of}
use Rattle.gql_ast.specs.Extensions.{union_extension_of, enum_extension_of, input_object_extension_of}
use Rattle.gql_ast.specs.declared.definition.Definition.{Definition}
use Rattle.gql_ast.specs.declared.definition.Definition.TheVariants as definition
use Rattle.gql_ast.specs.Documents.{extension_of}
use Rattle.gql_ast.proofs.Choices.{only}

-- the first of seven
abbrev seven : (a b c d e f g : Option Definition) → Option Definition
seven a b c d e f g = or_else a (or_else b (or_else c (or_else d (or_else e (or_else f g)))))

and-false : (a b : Bool) → b ≡ false → (a && b) ≡ false
and-false true b isnt = isnt
and-false false b isnt = refl

not_true : (b : Bool) → (b ≡ true → ⊥) → b ≡ false
not_true true isnt = absurd (isnt refl)
not_true false isnt = refl

module _ (text : Text) (file : FileId) (t : Plain) where
  other : (word : Text) → is_word (nth_text text 1 t.children) word ≡ false → extends text word t ≡ false
  unfolding extends
  other word isnt = and-false (is_kind t.kind kind.Extension) (is_word (nth_text text 1 t.children) word) isnt

  abbrev as_schema : Option Definition
  as_schema = option_map definition.SchemaExtension (schema_extension_of text file t)

  no_schema : is_word (nth_text text 1 t.children) (codes "schema") ≡ false → as_schema ≡ None
  unfolding schema_extension_of
  no_schema isnt = rw (other (codes "schema") isnt) refl

  abbrev as_scalar : Option Definition
  as_scalar = option_map definition.ScalarTypeExtension (scalar_extension_of text file t)

  no_scalar : is_word (nth_text text 1 t.children) (codes "scalar") ≡ false → as_scalar ≡ None
  unfolding scalar_extension_of
  no_scalar isnt = rw (other (codes "scalar") isnt) refl

  abbrev as_type : Option Definition
  as_type = option_map definition.ObjectTypeExtension (object_extension_of text file t)

  no_type : is_word (nth_text text 1 t.children) (codes "type") ≡ false → as_type ≡ None
  unfolding object_extension_of
  no_type isnt = rw (other (codes "type") isnt) refl

  abbrev as_interface : Option Definition
  as_interface = option_map definition.InterfaceTypeExtension (interface_extension_of text file t)

  no_interface : is_word (nth_text text 1 t.children) (codes "interface") ≡ false → as_interface ≡ None
  unfolding interface_extension_of
  no_interface isnt = rw (other (codes "interface") isnt) refl

  abbrev as_union : Option Definition
  as_union = option_map definition.UnionTypeExtension (union_extension_of text file t)

  no_union : is_word (nth_text text 1 t.children) (codes "union") ≡ false → as_union ≡ None
  unfolding union_extension_of
  no_union isnt = rw (other (codes "union") isnt) refl

  abbrev as_enum : Option Definition
  as_enum = option_map definition.EnumTypeExtension (enum_extension_of text file t)

  no_enum : is_word (nth_text text 1 t.children) (codes "enum") ≡ false → as_enum ≡ None
  unfolding enum_extension_of
  no_enum isnt = rw (other (codes "enum") isnt) refl

  abbrev as_input : Option Definition
  as_input = option_map definition.InputObjectTypeExtension (input_object_extension_of text file t)

  no_input : is_word (nth_text text 1 t.children) (codes "input") ≡ false → as_input ≡ None
  unfolding input_object_extension_of
  no_input isnt = rw (other (codes "input") isnt) refl

  in_turn : extension_of text file t ≡ seven as_schema as_scalar as_type as_interface as_union as_enum as_input
  unfolding extension_of
  in_turn = refl

  none : is_word (nth_text text 1 t.children) (codes "schema") ≡ false → is_word (nth_text text 1 t.children) (codes "scalar") ≡ false → is_word
      (nth_text text 1 t.children) (codes "type") ≡ false → is_word (nth_text text 1 t.children) (codes "interface") ≡ false → is_word
      (nth_text text 1 t.children) (codes "union") ≡ false → is_word (nth_text text 1 t.children) (codes "enum") ≡ false → is_word
      (nth_text text 1 t.children) (codes "input") ≡ false → None ≡ extension_of text file t
  none n0 n1 n2 n3 n4 n5 n6 = sym (in_turn ∙ (λ i. seven (no_schema n0 i) (no_scalar n1 i) (no_type n2 i) (no_interface n3 i) (no_union n4 i)
      (no_enum n5 i) (no_input n6 i)))

  -- there is no word
  pub no_word : nth_text text 1 t.children ≡ None → None ≡ extension_of text file t
  no_word is = none (ap (λ o. is_word o (codes "schema")) is) (ap (λ o. is_word o (codes "scalar")) is) (ap (λ o. is_word o (codes "type")) is)
      (ap (λ o. is_word o (codes "interface")) is) (ap (λ o. is_word o (codes "union")) is) (ap (λ o. is_word o (codes "enum")) is)
      (ap (λ o. is_word o (codes "input")) is)

  -- another word
  is_other : (found word : Text) → nth_text text 1 t.children ≡ Some found → bytes_eq found word ≡ false → is_word (nth_text text 1 t.children) word ≡ false
  is_other found word is isnt = ap (λ o. is_word o word) is ∙ isnt

  differs : (found word : Text) → nth_text text 1 t.children ≡ Some found → (found ≡ word → ⊥) → is_word (nth_text text 1 t.children) word ≡ false
  differs found word is isnt = is_other found word is (not_true (bytes_eq found word) (λ q. isnt ((bytes_eq-Decides found word).0 q)))

  -- the word says nothing that is extended
  pub no_such_word : (found : Text) → nth_text text 1 t.children ≡ Some found → (found ≡ codes "schema" → ⊥) → (found ≡ codes "scalar" → ⊥) →
      (found ≡ codes "type" → ⊥) → (found ≡ codes "interface" → ⊥) → (found ≡ codes "union" → ⊥) → (found ≡ codes "enum" → ⊥) →
      (found ≡ codes "input" → ⊥) → None ≡ extension_of text file t
  no_such_word found is n0 n1 n2 n3 n4 n5 n6 = none (differs found (codes "schema") is n0) (differs found (codes "scalar") is n1)
      (differs found (codes "type") is n2) (differs found (codes "interface") is n3) (differs found (codes "union") is n4)
      (differs found (codes "enum") is n5) (differs found (codes "input") is n6)

  pub by_schema : (found : Text) (made : Option Definition) → nth_text text 1 t.children ≡ Some found → found ≡ codes "schema" → made ≡ as_schema →
      made ≡ extension_of text file t
  by_schema found made is same m =
      let e : nth_text text 1 t.children ≡ Some (codes "schema") = is ∙ ap Some same in
      m ∙ sym (in_turn ∙ (λ i. seven as_schema (no_scalar (is_other (codes "schema") (codes "scalar") e refl) i)
      (no_type (is_other (codes "schema") (codes "type") e refl) i) (no_interface (is_other (codes "schema") (codes "interface") e refl) i)
      (no_union (is_other (codes "schema") (codes "union") e refl) i) (no_enum (is_other (codes "schema") (codes "enum") e refl) i)
      (no_input (is_other (codes "schema") (codes "input") e refl) i)) ∙ only as_schema)

  pub by_scalar : (found : Text) (made : Option Definition) → nth_text text 1 t.children ≡ Some found → found ≡ codes "scalar" → made ≡ as_scalar →
      made ≡ extension_of text file t
  by_scalar found made is same m =
      let e : nth_text text 1 t.children ≡ Some (codes "scalar") = is ∙ ap Some same in
      m ∙ sym (in_turn ∙ (λ i. seven (no_schema (is_other (codes "scalar") (codes "schema") e refl) i) as_scalar
      (no_type (is_other (codes "scalar") (codes "type") e refl) i) (no_interface (is_other (codes "scalar") (codes "interface") e refl) i)
      (no_union (is_other (codes "scalar") (codes "union") e refl) i) (no_enum (is_other (codes "scalar") (codes "enum") e refl) i)
      (no_input (is_other (codes "scalar") (codes "input") e refl) i)) ∙ only as_scalar)

  pub by_type : (found : Text) (made : Option Definition) → nth_text text 1 t.children ≡ Some found → found ≡ codes "type" → made ≡ as_type → made ≡
      extension_of text file t
  by_type found made is same m =
      let e : nth_text text 1 t.children ≡ Some (codes "type") = is ∙ ap Some same in
      m ∙ sym (in_turn ∙ (λ i. seven (no_schema (is_other (codes "type") (codes "schema") e refl) i)
      (no_scalar (is_other (codes "type") (codes "scalar") e refl) i) as_type
      (no_interface (is_other (codes "type") (codes "interface") e refl) i) (no_union (is_other (codes "type") (codes "union") e refl) i)
      (no_enum (is_other (codes "type") (codes "enum") e refl) i) (no_input (is_other (codes "type") (codes "input") e refl) i)) ∙ only as_type)

  pub by_interface : (found : Text) (made : Option Definition) → nth_text text 1 t.children ≡ Some found → found ≡ codes "interface" → made ≡
      as_interface → made ≡ extension_of text file t
  by_interface found made is same m =
      let e : nth_text text 1 t.children ≡ Some (codes "interface") = is ∙ ap Some same in
      m ∙ sym (in_turn ∙ (λ i. seven (no_schema (is_other (codes "interface") (codes "schema") e refl) i)
      (no_scalar (is_other (codes "interface") (codes "scalar") e refl) i) (no_type (is_other (codes "interface") (codes "type") e refl) i)
      as_interface (no_union (is_other (codes "interface") (codes "union") e refl) i)
      (no_enum (is_other (codes "interface") (codes "enum") e refl) i) (no_input (is_other (codes "interface") (codes "input") e refl) i)) ∙ only
      as_interface)

  pub by_union : (found : Text) (made : Option Definition) → nth_text text 1 t.children ≡ Some found → found ≡ codes "union" → made ≡ as_union → made
      ≡ extension_of text file t
  by_union found made is same m =
      let e : nth_text text 1 t.children ≡ Some (codes "union") = is ∙ ap Some same in
      m ∙ sym (in_turn ∙ (λ i. seven (no_schema (is_other (codes "union") (codes "schema") e refl) i)
      (no_scalar (is_other (codes "union") (codes "scalar") e refl) i) (no_type (is_other (codes "union") (codes "type") e refl) i)
      (no_interface (is_other (codes "union") (codes "interface") e refl) i) as_union
      (no_enum (is_other (codes "union") (codes "enum") e refl) i) (no_input (is_other (codes "union") (codes "input") e refl) i)) ∙ only
      as_union)

  pub by_enum : (found : Text) (made : Option Definition) → nth_text text 1 t.children ≡ Some found → found ≡ codes "enum" → made ≡ as_enum → made ≡
      extension_of text file t
  by_enum found made is same m =
      let e : nth_text text 1 t.children ≡ Some (codes "enum") = is ∙ ap Some same in
      m ∙ sym (in_turn ∙ (λ i. seven (no_schema (is_other (codes "enum") (codes "schema") e refl) i)
      (no_scalar (is_other (codes "enum") (codes "scalar") e refl) i) (no_type (is_other (codes "enum") (codes "type") e refl) i)
      (no_interface (is_other (codes "enum") (codes "interface") e refl) i) (no_union (is_other (codes "enum") (codes "union") e refl) i) as_enum
      (no_input (is_other (codes "enum") (codes "input") e refl) i)) ∙ only as_enum)

  pub by_input : (found : Text) (made : Option Definition) → nth_text text 1 t.children ≡ Some found → found ≡ codes "input" → made ≡ as_input → made
      ≡ extension_of text file t
  by_input found made is same m =
      let e : nth_text text 1 t.children ≡ Some (codes "input") = is ∙ ap Some same in
      m ∙ sym (in_turn ∙ (λ i. seven (no_schema (is_other (codes "input") (codes "schema") e refl) i)
      (no_scalar (is_other (codes "input") (codes "scalar") e refl) i) (no_type (is_other (codes "input") (codes "type") e refl) i)
      (no_interface (is_other (codes "input") (codes "interface") e refl) i) (no_union (is_other (codes "input") (codes "union") e refl) i)
      (no_enum (is_other (codes "input") (codes "enum") e refl) i) as_input))
