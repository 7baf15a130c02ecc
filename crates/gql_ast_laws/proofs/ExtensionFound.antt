-- An extension of a sentence stands for one.
use Rattle.std.proofs.Common.{◌≡◌, ℕ, ◌+◌, ◌≤◌, arith, true, List, [], ◌∷◌, ◌++◌, length, is_some, Option, Some, None, refl, sym, ap, ◌∙◌, subst}
use Rattle.std.specs.Prelude.{map, slice_get, codes}
use Rattle.std.specs.Str.{bytes_eq}
use Rattle.gql_source.specs.declared.file_id.FileId.{FileId}
use Rattle.gql_grammar.specs.declared.word.Word.{Word}
use Rattle.gql_grammar.specs.declared.word.Word.TheVariants.{SchemaWord, ScalarWord, TypeWord, InterfaceWord, UnionWord, EnumWord, InputWord}
use Rattle.gql_grammar.specs.declared.symbol.Symbol.{Symbol}
use Rattle.gql_grammar.specs.declared.rule.Rule.TheVariants as rule
use Rattle.gql_grammar.specs.declared.syntax_kind.SyntaxKind.TheVariants as kind
use Rattle.gql_grammar.specs.Grammar.{declared}
use Rattle.gql_grammar.specs.Word.{is_same, is_name as names}
use Rattle.gql_grammar.specs.Nodes.{IsAllowed, AllAllowed}
use Rattle.gql_grammar.specs.Row.{Row, leaf}
use Rattle.gql_grammar.specs.Sentence.{Fits, token, tree, group, IsOneOf, here, there}
use Rattle.gql_cst.specs.Forest.{Forest, Plain}
use Rattle.gql_cst.specs.Leaves.{leaves}
use Rattle.gql_cst.specs.Sentences.{shown}
use Rattle.gql_cst.specs.Words.{word_of}
use Rattle.gql_ast_base.specs.Kinds.{is_kind}
use Rattle.gql_ast_base.specs.Parts.{Text, or_else, is_word, nth_text}
use Rattle.gql_ast.specs.Extensions.{extends, schema_extension_of, scalar_extension_of, object_extension_of, interface_extension_of, union_extension_of, enum_extension_of, input_object_extension_of}
use Rattle.std.specs.Option.{option_map}
use Rattle.gql_ast.specs.declared.definition.Definition.{Definition}
use Rattle.gql_ast.specs.declared.definition.Definition.TheVariants as definition
use Rattle.gql_ast.specs.Documents.{extension_of}
use Rattle.gql_ast_laws.proofs.Blind.{tree as plain_tree}
use Rattle.gql_ast_laws.proofs.Named.{nth_text-is}
use Rattle.gql_ast_laws.proofs.Shown.{AreSpelled, name-at, texts, tops-shown}
use Rattle.gql_ast_laws.proofs.Tops.{tops, name-taken}
use Rattle.gql_ast_laws.proofs.TypeFound.{some-map}
use Rattle.gql_ast_laws.proofs.Ways.{made}
use Rattle.gql_ast_laws.proofs.Extended.{word-schema, word-scalar, word-type, word-interface, word-union, word-enum, word-input}

pub some-left : {A : Type 0} (a b : Option A) → is_some a ≡ true → is_some (or_else a b) ≡ true
some-left None b h = absurd (cc)
some-left (Some x) b h = refl

pub some-right : {A : Type 0} (a b : Option A) → is_some b ≡ true → is_some (or_else a b) ≡ true
some-right None b h = h
some-right (Some x) b h = refl

-- what the second word of an extension is, with the names behind it
data Which (second : Word) (later : List Word) : Type 0 where
  of_schema : is_same SchemaWord second ≡ true → Which second later
  of_scalar : is_same ScalarWord second ≡ true → 1 ≤ length later → Which second later
  of_type : is_same TypeWord second ≡ true → 1 ≤ length later → Which second later
  of_interface : is_same InterfaceWord second ≡ true → 1 ≤ length later → Which second later
  of_union : is_same UnionWord second ≡ true → 1 ≤ length later → Which second later
  of_enum : is_same EnumWord second ≡ true → 1 ≤ length later → Which second later
  of_input : is_same InputWord second ≡ true → 1 ≤ length later → Which second later

record Extends (row : Row) : Type 0 where
  front : Word
  second : Word
  later : List Word
  are : tops row ≡ front ∷ second ∷ later
  which : Which second later

-- two names in front
two : (w u : Word) (x : Row) → names w ≡ true → names u ≡ true → tops (leaf w (leaf u x)) ≡ w ∷ u ∷ tops x
two w u x p q = rw (p, q) refl

one-later : (z : Word) (x : Row) → names z ≡ true → 1 ≤ length (tops (leaf z x))
one-later z x p = rw p (omega arith)

extended : (ss : List Symbol) {ws vs : List Word} {row : Row} (w : Word) → names w ≡ true → (way : List Symbol) → IsOneOf way (declared rule.ExtendedDefinition) → Fits (way ++ ss) ws row vs → Extends (leaf w row)
extended ss w p _ here (token {row = x} t u e g) = record { front = w; second = u; later = tops x; are = two w u x p (name-taken t u e refl); which = of_schema e }
extended ss w p _ (there here) (token t u e (token {row = x} s z q g)) =
    record { front = w; second = u; later = tops (leaf z x); are = two w u (leaf z x) p (name-taken t u e refl); which = of_scalar e (one-later z x (name-taken s z q refl)) }
extended ss w p _ (there (there here)) (token t u e (token {row = x} s z q g)) =
    record { front = w; second = u; later = tops (leaf z x); are = two w u (leaf z x) p (name-taken t u e refl); which = of_type e (one-later z x (name-taken s z q refl)) }
extended ss w p _ (there (there (there here))) (token t u e (token {row = x} s z q g)) =
    record { front = w; second = u; later = tops (leaf z x); are = two w u (leaf z x) p (name-taken t u e refl); which = of_interface e (one-later z x (name-taken s z q refl)) }
extended ss w p _ (there (there (there (there here)))) (token t u e (token {row = x} s z q g)) =
    record { front = w; second = u; later = tops (leaf z x); are = two w u (leaf z x) p (name-taken t u e refl); which = of_union e (one-later z x (name-taken s z q refl)) }
extended ss w p _ (there (there (there (there (there here))))) (token t u e (token {row = x} s z q g)) =
    record { front = w; second = u; later = tops (leaf z x); are = two w u (leaf z x) p (name-taken t u e refl); which = of_enum e (one-later z x (name-taken s z q refl)) }
extended ss w p _ (there (there (there (there (there (there here)))))) (token t u e (token {row = x} s z q g)) =
    record { front = w; second = u; later = tops (leaf z x); are = two w u (leaf z x) p (name-taken t u e refl); which = of_input e (one-later z x (name-taken s z q refl)) }
extended ss w p _ (there (there (there (there (there (there (there x))))))) f = elim x [ ]

extends-way : {ws vs : List Word} {row : Row} (way : List Symbol) → IsOneOf way (declared rule.Extension) → Fits way ws row vs → Extends row
extends-way _ here (token t w e (group {ss = ss} r way m o f)) = extended ss w (name-taken t w e refl) way o f
extends-way _ here (token t w e (tree r k way m o f g)) = absurd (cc)
extends-way _ (there x) f = elim x [ ]

second-text : (xs : List Text) (a b : Word) (l : List Word) → map word_of xs ≡ a ∷ b ∷ l → (x : Text) × (slice_get xs 1 ≡ Some x) × (word_of x ≡ b)
second-text [] a b l e = absurd (cc)
second-text (x ∷ []) a b l e = absurd (cc)
second-text (x ∷ y ∷ ys) a b l e = (y, refl, let q : word_of y ≡ b = cc in q)

module _ (text : Text) (file : FileId) where
  -- each way to extend something
  abbrev as_schema_extension : Plain → Option Definition
  as_schema_extension t = option_map definition.SchemaExtension (schema_extension_of text file t)

  abbrev as_scalar_extension : Plain → Option Definition
  as_scalar_extension t = option_map definition.ScalarTypeExtension (scalar_extension_of text file t)

  abbrev as_object_extension : Plain → Option Definition
  as_object_extension t = option_map definition.ObjectTypeExtension (object_extension_of text file t)

  abbrev as_interface_extension : Plain → Option Definition
  as_interface_extension t = option_map definition.InterfaceTypeExtension (interface_extension_of text file t)

  abbrev as_union_extension : Plain → Option Definition
  as_union_extension t = option_map definition.UnionTypeExtension (union_extension_of text file t)

  abbrev as_enum_extension : Plain → Option Definition
  as_enum_extension t = option_map definition.EnumTypeExtension (enum_extension_of text file t)

  module _ (start end : ℕ) (children : Forest) (below : AllAllowed (shown text children)) (h : AreSpelled text (leaves children)) where
    extends-word : (x word : Text) → nth_text text 1 children ≡ Some x → bytes_eq x word ≡ true → extends text word (plain_tree kind.Extension start end children) ≡ true
    unfolding extends is_kind
    extends-word x word e q = ap (λ o. is_word o word) e ∙ q

    schema_extension-found : (x : Text) → nth_text text 1 children ≡ Some x → is_same SchemaWord (word_of x) ≡ true → is_some (schema_extension_of text file (plain_tree kind.Extension start end children)) ≡ true
    unfolding schema_extension_of
    schema_extension-found x e q = rw (extends-word x (codes "schema") e (word-schema x q)) refl

    scalar_extension-found : (x : Text) → nth_text text 1 children ≡ Some x → is_same ScalarWord (word_of x) ≡ true → 3 ≤ length (tops (shown text children)) → is_some (scalar_extension_of text file (plain_tree kind.Extension start end children)) ≡ true
    unfolding scalar_extension_of
    scalar_extension-found x e q le = rw (extends-word x (codes "scalar") e (word-scalar x q)) (some-map _ _ (name-at text file 2 children h le))

    object_extension-found : (x : Text) → nth_text text 1 children ≡ Some x → is_same TypeWord (word_of x) ≡ true → 3 ≤ length (tops (shown text children)) → is_some (object_extension_of text file (plain_tree kind.Extension start end children)) ≡ true
    unfolding object_extension_of
    object_extension-found x e q le = rw (extends-word x (codes "type") e (word-type x q)) (some-map _ _ (name-at text file 2 children h le))

    interface_extension-found : (x : Text) → nth_text text 1 children ≡ Some x → is_same InterfaceWord (word_of x) ≡ true → 3 ≤ length (tops (shown text children)) → is_some (interface_extension_of text file (plain_tree kind.Extension start end children)) ≡ true
    unfolding interface_extension_of
    interface_extension-found x e q le = rw (extends-word x (codes "interface") e (word-interface x q)) (some-map _ _ (name-at text file 2 children h le))

    union_extension-found : (x : Text) → nth_text text 1 children ≡ Some x → is_same UnionWord (word_of x) ≡ true → 3 ≤ length (tops (shown text children)) → is_some (union_extension_of text file (plain_tree kind.Extension start end children)) ≡ true
    unfolding union_extension_of
    union_extension-found x e q le = rw (extends-word x (codes "union") e (word-union x q)) (some-map _ _ (name-at text file 2 children h le))

    enum_extension-found : (x : Text) → nth_text text 1 children ≡ Some x → is_same EnumWord (word_of x) ≡ true → 3 ≤ length (tops (shown text children)) → is_some (enum_extension_of text file (plain_tree kind.Extension start end children)) ≡ true
    unfolding enum_extension_of
    enum_extension-found x e q le = rw (extends-word x (codes "enum") e (word-enum x q)) (some-map _ _ (name-at text file 2 children h le))

    input_object_extension-found : (x : Text) → nth_text text 1 children ≡ Some x → is_same InputWord (word_of x) ≡ true → 3 ≤ length (tops (shown text children)) → is_some (input_object_extension_of text file (plain_tree kind.Extension start end children)) ≡ true
    unfolding input_object_extension_of
    input_object_extension-found x e q le = rw (extends-word x (codes "input") e (word-input x q)) (some-map _ _ (name-at text file 2 children h le))

    extension-which : (x : Text) (second : Word) (later : List Word) → nth_text text 1 children ≡ Some x → word_of x ≡ second → 2 + length later ≤ length (tops (shown text children)) → Which second later
        → is_some (extension_of text file (plain_tree kind.Extension start end children)) ≡ true
    unfolding extension_of
    extension-which x second later e s le (of_schema q) =
        some-left (as_schema_extension (plain_tree kind.Extension start end children)) _ (some-map definition.SchemaExtension (schema_extension_of text file (plain_tree kind.Extension start end children)) (schema_extension-found x e (ap (λ v. is_same SchemaWord v) s ∙ q)))
    extension-which x second later e s le (of_scalar q n) =
        some-right (as_schema_extension (plain_tree kind.Extension start end children)) _
        (some-left (as_scalar_extension (plain_tree kind.Extension start end children)) _ (some-map definition.ScalarTypeExtension (scalar_extension_of text file (plain_tree kind.Extension start end children)) (scalar_extension-found x e (ap (λ v. is_same ScalarWord v) s ∙ q) (omega arith))))
    extension-which x second later e s le (of_type q n) =
        some-right (as_schema_extension (plain_tree kind.Extension start end children)) _
        (some-right (as_scalar_extension (plain_tree kind.Extension start end children)) _
        (some-left (as_object_extension (plain_tree kind.Extension start end children)) _ (some-map definition.ObjectTypeExtension (object_extension_of text file (plain_tree kind.Extension start end children)) (object_extension-found x e (ap (λ v. is_same TypeWord v) s ∙ q) (omega arith)))))
    extension-which x second later e s le (of_interface q n) =
        some-right (as_schema_extension (plain_tree kind.Extension start end children)) _
        (some-right (as_scalar_extension (plain_tree kind.Extension start end children)) _
        (some-right (as_object_extension (plain_tree kind.Extension start end children)) _
        (some-left (as_interface_extension (plain_tree kind.Extension start end children)) _ (some-map definition.InterfaceTypeExtension (interface_extension_of text file (plain_tree kind.Extension start end children)) (interface_extension-found x e (ap (λ v. is_same InterfaceWord v) s ∙ q) (omega arith))))))
    extension-which x second later e s le (of_union q n) =
        some-right (as_schema_extension (plain_tree kind.Extension start end children)) _
        (some-right (as_scalar_extension (plain_tree kind.Extension start end children)) _
        (some-right (as_object_extension (plain_tree kind.Extension start end children)) _
        (some-right (as_interface_extension (plain_tree kind.Extension start end children)) _
        (some-left (as_union_extension (plain_tree kind.Extension start end children)) _ (some-map definition.UnionTypeExtension (union_extension_of text file (plain_tree kind.Extension start end children)) (union_extension-found x e (ap (λ v. is_same UnionWord v) s ∙ q) (omega arith)))))))
    extension-which x second later e s le (of_enum q n) =
        some-right (as_schema_extension (plain_tree kind.Extension start end children)) _
        (some-right (as_scalar_extension (plain_tree kind.Extension start end children)) _
        (some-right (as_object_extension (plain_tree kind.Extension start end children)) _
        (some-right (as_interface_extension (plain_tree kind.Extension start end children)) _
        (some-right (as_union_extension (plain_tree kind.Extension start end children)) _
        (some-left (as_enum_extension (plain_tree kind.Extension start end children)) _ (some-map definition.EnumTypeExtension (enum_extension_of text file (plain_tree kind.Extension start end children)) (enum_extension-found x e (ap (λ v. is_same EnumWord v) s ∙ q) (omega arith))))))))
    extension-which x second later e s le (of_input q n) =
        some-right (as_schema_extension (plain_tree kind.Extension start end children)) _
        (some-right (as_scalar_extension (plain_tree kind.Extension start end children)) _
        (some-right (as_object_extension (plain_tree kind.Extension start end children)) _
        (some-right (as_interface_extension (plain_tree kind.Extension start end children)) _
        (some-right (as_union_extension (plain_tree kind.Extension start end children)) _
        (some-right (as_enum_extension (plain_tree kind.Extension start end children)) _
        (some-map definition.InputObjectTypeExtension (input_object_extension_of text file (plain_tree kind.Extension start end children)) (input_object_extension-found x e (ap (λ v. is_same InputWord v) s ∙ q) (omega arith))))))))

    pub extension-found : IsAllowed kind.Extension (shown text children) → is_some (extension_of text file (plain_tree kind.Extension start end children)) ≡ true
    extension-found a =
        let m = made kind.Extension (shown text children) refl a in
        let x = extends-way m.way m.one m.fits in
        let second = second-text (texts text children) x.front x.second x.later (tops-shown text children h ∙ x.are) in
        let le : 2 + length x.later ≤ length (tops (shown text children)) = subst (λ l. 2 + length x.later ≤ length l) (sym x.are) (omega arith) in
        extension-which second.0 x.second x.later (nth_text-is text 1 children ∙ second.1) second.2 le x.which
    -- each of these kinds defines something
