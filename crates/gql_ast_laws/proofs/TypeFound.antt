-- A tree that refers to a type in a sentence stands for one.
use Rattle.std.proofs.Common.{◌≡◌, ℕ, Bool, true, false, List, ◌++◌, is_some, option_to_list, Option, Some, None, refl, sym, ap, ◌∙◌, subst}
use Rattle.std.specs.Option.{option_map}
use Rattle.gql_source.specs.declared.file_id.FileId.{FileId}
use Rattle.gql_grammar.specs.declared.word.Word.{Word}
use Rattle.gql_grammar.specs.declared.symbol.Symbol.{Symbol}
use Rattle.gql_grammar.specs.declared.rule.Rule.TheVariants as rule
use Rattle.gql_grammar.specs.declared.syntax_kind.SyntaxKind.{SyntaxKind}
use Rattle.gql_grammar.specs.declared.syntax_kind.SyntaxKind.TheVariants as kind
use Rattle.gql_grammar.specs.Grammar.{declared}
use Rattle.gql_grammar.specs.Nodes.{IsAllowed, AllAllowed}
use Rattle.gql_grammar.specs.Row.{Row}
use Rattle.gql_grammar.specs.Sentence.{Fits, tree, group, IsOneOf, here, there}
use Rattle.gql_cst.specs.Forest.{Forest, nothing, tree_then}
use Rattle.gql_cst.specs.Leaves.{node, part_of, leaves}
use Rattle.gql_cst.specs.Sentences.{shown}
use Rattle.gql_cst.specs.Words.{word_of}
use Rattle.std.specs.Prelude.{slice_range}
use Rattle.gql_ast_base.specs.Kinds.{is_kind}
use Rattle.gql_ast_base.specs.Parts.{Text, head}
use Rattle.gql_ast_base.specs.Types.{form_step, type_step, types, forms, type_of}
use Rattle.gql_ast_laws.proofs.TokenKinds.{kind_is}
use Rattle.gql_ast_laws.proofs.Blind.{tree as plain_tree}
use Rattle.gql_ast_laws.proofs.Inner.{both_ways}
use Rattle.gql_ast_laws.proofs.Shown.{AreSpelled, below-of, rest-of, name-at, node-row, rest-row, has-later, none-here}
use Rattle.gql_ast_laws.proofs.Tops.{first, next, HasNode, has-node}
use Rattle.gql_ast_laws.proofs.Ways.{made, only-names, only-node}

pub some-map : {A B : Type 0} (f : A → B) (o : Option A) → is_some o ≡ true → is_some (option_map f o) ≡ true
some-map f None h = h
some-map f (Some x) h = refl

pub head-first : {A : Type 0} (o : Option A) (l : List A) → is_some o ≡ true → is_some (head (option_to_list o ++ l)) ≡ true
head-first None l h = absurd (cc)
head-first (Some x) l h = refl

pub head-rest : {A : Type 0} (o : Option A) (l : List A) → is_some (head l) ≡ true → is_some (head (option_to_list o ++ l)) ≡ true
head-rest None l h = h
head-rest (Some x) l h = refl

-- the kinds of the ways to refer to a type
abbrev pub is_form : SyntaxKind → Bool
is_form kind.NamedType = true
is_form kind.ListType = true
is_form kind.NonNullType = true
is_form _ = false

form-node : (k : SyntaxKind) → is_form k ≡ true → part_of k ≡ node
form-node kind.NamedType h = refl
form-node kind.ListType h = refl
form-node kind.NonNullType h = refl
form-node _ h = absurd (cc)

record HasForm (row : Row) : Type 0 where
  k : SyntaxKind
  form : is_form k ≡ true
  has : HasNode k row

reference-way : {ws vs : List Word} {row : Row} (way : List Symbol) → IsOneOf way (declared rule.TypeReference) → Fits way ws row vs → HasForm row
reference-way _ here f = record { k = kind.NamedType; form = refl; has = has-node rule.NamedType kind.NamedType refl f first }
reference-way _ (there here) f = record { k = kind.ListType; form = refl; has = has-node rule.ListType kind.ListType refl f first }
reference-way _ (there (there here)) f = record { k = kind.NonNullType; form = refl; has = has-node rule.NonNullType kind.NonNullType refl f first }
reference-way _ (there (there (there x))) f = elim x [ ]

core-way : (ss : List Symbol) {ws vs : List Word} {row : Row} (way : List Symbol) → IsOneOf way (declared rule.TypeCore) → Fits (way ++ ss) ws row vs → HasForm row
core-way ss _ here f = record { k = kind.NamedType; form = refl; has = has-node rule.NamedType kind.NamedType refl f first }
core-way ss _ (there here) f = record { k = kind.ListType; form = refl; has = has-node rule.ListType kind.ListType refl f first }
core-way ss _ (there (there x)) f = elim x [ ]

bang-way : {ws vs : List Word} {row : Row} (way : List Symbol) → IsOneOf way (declared rule.NonNullType) → Fits way ws row vs → HasForm row
bang-way _ here (group {ss = ss} r way m o f) = core-way ss way o f
bang-way _ here (tree r k way m o f g) = absurd (cc)
bang-way _ (there x) f = elim x [ ]

module _ (text : Text) (file : FileId) where
  -- what a row of trees tells, where the row that it shows has a node of the kind
  pub record Told (f : Forest) : Type 0 where
    pub of_form : (k : SyntaxKind) → is_form k ≡ true → HasNode k (shown text f) → is_some (head (forms text file f)) ≡ true
    pub of_type : HasNode kind.TypeReference (shown text f) → is_some (head (types text file f)) ≡ true

  form-found : (k : SyntaxKind) (start end : ℕ) (children : Forest) → is_form k ≡ true → IsAllowed k (shown text children) → AreSpelled text (leaves children) → Told children
      → is_some (form_step text file (plain_tree k start end children) (types text file children) (forms text file children)) ≡ true
  unfolding form_step is_kind
  form-found kind.NamedType start end children e a h told =
      let m = made kind.NamedType (shown text children) refl a in
      some-map _ _ (name-at text file 0 children h (only-names _ m.way m.one m.fits))
  form-found kind.ListType start end children e a h told =
      let m = made kind.ListType (shown text children) refl a in
      some-map _ _ (told.of_type (only-node _ m.way rule.TypeReference kind.TypeReference refl (next first) m.one m.fits))
  form-found kind.NonNullType start end children e a h told =
      let m = made kind.NonNullType (shown text children) refl a in
      let b = bang-way m.way m.one m.fits in
      some-map _ _ (told.of_form b.k b.form b.has)
  form-found _ start end children e a h told = absurd (cc)

  type-found : (start end : ℕ) (children : Forest) → IsAllowed kind.TypeReference (shown text children) → Told children
      → is_some (type_step text file (plain_tree kind.TypeReference start end children) (forms text file children)) ≡ true
  unfolding type_step is_kind
  type-found start end children a told =
      let m = made kind.TypeReference (shown text children) refl a in
      let b = reference-way m.way m.one m.fits in
      told.of_form b.k b.form b.has

  told-of : (f : Forest) → AllAllowed (shown text f) → AreSpelled text (leaves f) → Told f
  told-of nothing a h = record { of_form = λ k e has. none-here text k has; of_type = λ has. none-here text kind.TypeReference has }
  told-of (tree_then k start end children rest) a h =
      let w = word_of (slice_range text start end) in
      let behind = told-of rest (rest-row text (part_of k) k w (shown text children) (shown text rest) a) (rest-of text k start end children rest h) in
      record {
        of_form = λ j e has. both_ways (is_kind k j)
            (λ q.
            let same : k ≡ j = kind_is k j q in
            let both = node-row text j k (part_of k) w (shown text children) (shown text rest) (ap part_of same ∙ form-node j e) (sym same) a in
            let spelled = below-of text k start end children rest h in
            head-first _ (forms text file rest)
            (subst (λ i. is_some (form_step text file (plain_tree i start end children) (types text file children) (forms text file children)) ≡ true) (sym same)
            (form-found j start end children e both.0 spelled (told-of children both.1 spelled))))
            (λ q. head-rest _ (forms text file rest) (behind.of_form j e (has-later text (part_of k) j k w (shown text children) (shown text rest) q has)));
        of_type = λ has. both_ways (is_kind k kind.TypeReference)
            (λ q.
            let same : k ≡ kind.TypeReference = kind_is k kind.TypeReference q in
            let both = node-row text kind.TypeReference k (part_of k) w (shown text children) (shown text rest) (ap part_of same) (sym same) a in
            let spelled = below-of text k start end children rest h in
            head-first _ (types text file rest)
            (subst (λ i. is_some (type_step text file (plain_tree i start end children) (forms text file children)) ≡ true) (sym same)
            (type-found start end children both.0 (told-of children both.1 spelled))))
            (λ q. head-rest _ (types text file rest) (behind.of_type (has-later text (part_of k) kind.TypeReference k w (shown text children) (shown text rest) q has)));
      }

  -- a tree of a sentence that refers to a type stands for one
  pub reference-found : (start end : ℕ) (children : Forest) → IsAllowed kind.TypeReference (shown text children) → AllAllowed (shown text children) → AreSpelled text (leaves children)
      → is_some (type_of text file (plain_tree kind.TypeReference start end children)) ≡ true
  reference-found start end children a below h = type-found start end children a (told-of children below h)
