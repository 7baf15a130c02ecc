-- What is printed of a form, alone in a text.
use Rattle.std.proofs.Common.{◌≡◌, ◌+◌, List, [], ◌∷◌, ◌++◌, length, Some, refl, sym, ap, ◌∙◌, subst, arith, append-nil}
use Rattle.gql_source.specs.declared.file_id.FileId.{FileId}
use Rattle.gql_grammar.specs.declared.rule.Rule.{Rule}
use Rattle.gql_grammar.specs.declared.rule.Rule.TheVariants as rule
use Rattle.gql_grammar.specs.declared.syntax_kind.SyntaxKind.TheVariants as kind
use Rattle.gql_grammar.specs.declared.symbol.Symbol.{Symbol}
use Rattle.gql_grammar.specs.declared.syntax_kind.SyntaxKind.{SyntaxKind}
use Rattle.gql_grammar.specs.Grammar.{declared}
use Rattle.gql_grammar.specs.Rule.{kind_of}
use Rattle.gql_grammar.specs.Row as row
use Rattle.gql_grammar.specs.Sentence.{Fits, IsOneOf, done, tree}
use Rattle.gql_grammar.specs.declared.symbol.Symbol.TheVariants.{One}
use Rattle.gql_cst.specs.Forest.{Forest, Plain}
use Rattle.gql_cst.specs.Bare.{bare, TokensEnd}
use Rattle.gql_cst.specs.Leaves.{leaves, node, part_of, Tiles}
use Rattle.gql_cst.specs.Sentences.{kind_or, words, shown}
use Rattle.gql_cst.specs.TreeOf.{IsTreeOf}
use Rattle.gql_ast_laws.proofs.Blind.{tree as plain_tree, Blind}
use Rattle.gql_ast_laws.proofs.DocumentMeaning.{definition-blind}
use Rattle.gql_ast_laws.proofs.Whole.{node_once}
use Rattle.gql_print_laws.specs.bridge.Said.{Text, Said, text_of, forest_at, row_of, words_of, Lexes}
use Rattle.gql_print_laws.proofs.Rest.{Rest}
use Rattle.gql_print_laws.proofs.Laid.{laid, shown_is, words_are}
use Rattle.gql_print_laws.specs.Forms.{Form, IsMeant, IsReadBack, definition_form}
use Rattle.gql_print_laws.specs.Plain.{Plain as Says}
use Rattle.gql_print_laws.proofs.Definition.{PrintedDefinition}
use Rattle.gql_print_laws.proofs.Grammar.{FitsTo}
use Rattle.gql_print_laws.proofs.Printed.{Printed}
use Rattle.gql_print_laws.proofs.Reading.{nothing_ends}
use Rattle.gql_print_laws.proofs.Standing.{Stands}

alone_rest : (text : Text) → Rest text 0 (text ++ [])
alone_rest text = record { is = sym (append-nil text); within = omega arith }

pub stands_alone : (s : Said) → Lexes s [] → Stands (text_of s) 0 s
stands_alone s x = record { behind = []; rest = alone_rest (text_of s); lexes = x }

-- what is read token by token and fits a way of the rule is a tree of the whole text
pub tree_of : (r : Rule) (k : SyntaxKind) (s : Said) (way : List Symbol) → kind_of r ≡ Some k → IsOneOf way (declared r) → FitsTo way s [] → Lexes s [] → IsTreeOf r (text_of s) (forest_at 0 s)
tree_of r k s way e one f x =
    let text = text_of s in
    let stands = alone_rest text in
    let long : 0 + length text ≡ length text = omega arith in
    let fits : Fits way (words_of s) (row_of s) [] = subst (λ ws. Fits way ws (row_of s) []) (append-nil (words_of s)) f.fits in
    record {
      tiles = subst (λ n. Tiles text 0 (leaves (forest_at 0 s)) n) long (laid text s 0 [] stands x);
      sentence = subst (λ l. Fits (One r ∷ []) (words text (leaves (forest_at 0 s))) (row.node l (shown text (forest_at 0 s)) row.nothing) []) (sym (ap kind_or e))
          (tree r k way e one
          (subst (λ ws. Fits way ws (shown text (forest_at 0 s)) []) (sym (words_are text s 0 [] stands x))
          (subst (λ y. Fits way (words_of s) y []) (sym (shown_is text s 0 [] stands x)) fits)) done);
    }

-- ---- nothing else is read

abbrev OneTree : Type 0
OneTree = (start : Rule) (text : Text) (one other : Forest) → IsTreeOf start text one → IsTreeOf start text other → bare one ≡ bare other

abbrev TreesEnd : Type 0
TreesEnd = (start : Rule) (text : Text) (one : Forest) → IsTreeOf start text one → TokensEnd one

some_same : {T : Type 0} (x y : T) → Some x ≡ Some y → x ≡ y
some_same x y h = cc

-- it is read back from the text
record IsRead {X T V : Type 0} (form : Form X T V) (file : FileId) (it : X) (text : Text) : Type 0 where
  read : T
  is : IsMeant form text file read
  same : form.says read ≡ form.told it

module _ (one_tree : OneTree) (ends : TreesEnd) {X T V : Type 0} (form : Form X T V) (p : part_of form.kind ≡ node) where
  abbrev tree_with : Forest → Plain
  tree_with children = plain_tree form.kind 0 0 children

  once : (text : Text) (file : FileId) → Blind (form.meant text file) → (one other : T) → IsMeant form text file one → IsMeant form text file other → other ≡ one
  once text file b one other h k =
      some_same other one
      (sym k.means
      ∙ node_once b form.kind p (tree_with k.children) (tree_with h.children) refl refl (ends form.rule text k.children k.tree) (ends form.rule text h.children h.tree)
      (one_tree form.rule text k.children h.children k.tree h.tree)
      ∙ h.means)

  back : (file : FileId) (it : X) → ((text : Text) → Blind (form.meant text file)) → IsRead form file it (form.written it) → IsReadBack form file it
  back file it b r = record { read = r.read; is = r.is; alone = λ other m. once (form.written it) file (b (form.written it)) r.read other r.is m; same = r.same }

  pub read_back : kind_of form.rule ≡ Some form.kind → (file : FileId) → ((text : Text) → Blind (form.meant text file)) → (it : X) → Printed form it → IsReadBack form file it
  read_back e file b it made =
      let s = made.said in
      let reads = (made.from nothing_ends).lexes in
      let m = made.means (text_of s) file 0 (stands_alone s reads) in
      let tree = tree_of form.rule form.kind s made.way e made.one made.fits reads in
      let alone : IsRead form file it (text_of s) = record { read = m.found; is = record { children = forest_at 0 s; tree = tree; means = m.is }; same = m.same } in
      back file it b (subst (λ t. IsRead form file it t) made.text alone)

pub read_definition : OneTree → TreesEnd → {X : Type 0} (written : X → Text) (told : X → Says) (file : FileId) (it : X) → PrintedDefinition (written it) (told it)
    → IsReadBack (definition_form written told) file it
read_definition one_tree ends written told file it made =
    let form = definition_form written told in
    let s = made.said in
    let reads = (made.from nothing_ends).lexes in
    let m = made.means (text_of s) file 0 (stands_alone s reads) in
    let tree = tree_of rule.Definition kind.Definition s made.way refl made.one (made.fits refl) reads in
    let alone : IsRead form file it (text_of s) = record { read = m.found; is = record { children = forest_at 0 s; tree = tree; means = m.is }; same = m.same } in
    back one_tree ends form refl file it (λ text. definition-blind text file) (subst (λ t. IsRead form file it t) made.text alone)
