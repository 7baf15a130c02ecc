-- The nodes of a document are definitions, each of which stands for one.
use Rattle.std.proofs.Common.{◌≡◌, List, [], ◌∷◌, Some, None, refl, sym, ap, ◌∙◌, subst}
use Rattle.std.specs.Prelude.{IsSome, slice_range}
use Rattle.gql_source.specs.declared.file_id.FileId.{FileId}
use Rattle.gql_grammar.specs.declared.word.Word.{Word}
use Rattle.gql_grammar.specs.declared.symbol.Symbol.{Symbol}
use Rattle.gql_grammar.specs.declared.symbol.Symbol.TheVariants.{Token, One, Optional, Repeated, Eager, Wrap, Close}
use Rattle.gql_grammar.specs.declared.rule.Rule.TheVariants as rule
use Rattle.gql_grammar.specs.declared.syntax_kind.SyntaxKind.{SyntaxKind}
use Rattle.gql_grammar.specs.declared.syntax_kind.SyntaxKind.TheVariants as kind
use Rattle.gql_grammar.specs.Rule.{kind_of}
use Rattle.gql_grammar.specs.Nodes.{AllAllowed}
use Rattle.gql_grammar.specs.Row as row
use Rattle.gql_grammar.specs.Row.{Row}
use Rattle.gql_grammar.specs.Sentence.{Fits, done, token, tree, group, skip, take, stop, again, leave, enter, IsOneOf, here, there}
use Rattle.gql_grammar.specs.Grammar.{declared}
use Rattle.gql_cst.specs.Forest.{Forest, nothing, tree_then}
use Rattle.gql_cst.specs.Leaves.{Part, word, ignored, node, part_of, leaves}
use Rattle.gql_cst.specs.Sentences.{row_then, shown}
use Rattle.gql_cst.specs.Words.{word_of}
use Rattle.gql_ast_base.specs.Parts.{Text}
use Rattle.gql_ast.specs.Documents.{definition_of}
use Rattle.gql_ast_laws.specs.Complete.{AtNode, EachNode}
use Rattle.gql_ast_laws.proofs.Blind.{tree as plain_tree}
use Rattle.gql_ast_laws.proofs.DefinitionFound.{definition-found}
use Rattle.gql_ast_laws.proofs.Shown.{AreSpelled, below-of, rest-of, node-row, rest-row}
use Rattle.gql_ast_laws.proofs.Tops.{same-kind}

-- symbols that stand for definitions alone
abbrev pub AreDefinitions : List Symbol → Type 0
AreDefinitions [] = Unit {0}
AreDefinitions (One r ∷ ss) = (r ≡ rule.Definition) × AreDefinitions ss
AreDefinitions (Repeated r ∷ ss) = (r ≡ rule.Definition) × AreDefinitions ss
AreDefinitions (Token t ∷ ss) = ⊥
AreDefinitions (Optional r ∷ ss) = ⊥
AreDefinitions (Eager r ∷ ss) = ⊥
AreDefinitions (Wrap k ∷ ss) = ⊥
AreDefinitions (Close k ∷ ss) = ⊥

-- each node at the top of a row is a definition
abbrev pub HasDefinitions : Row → Type 0
HasDefinitions row.nothing = Unit {0}
HasDefinitions (row.leaf w x) = HasDefinitions x
HasDefinitions (row.node k inner x) = (k ≡ kind.Definition) × HasDefinitions x

definitions-fit : {ss : List Symbol} {ws vs : List Word} {x : Row} → Fits ss ws x vs → AreDefinitions ss → HasDefinitions x
definitions-fit done h = tt
definitions-fit (token t w e f) h = absurd h
definitions-fit (tree r k way m o f g) h = (same-kind k kind.Definition (sym m ∙ ap kind_of h.0), definitions-fit g h.1)
definitions-fit (group r way m o f) h = absurd (let c : None ≡ Some kind.Definition = sym m ∙ ap kind_of h.0 in cc)
definitions-fit (skip r f) h = absurd h
definitions-fit (take r f) h = absurd h
definitions-fit (stop r f) h = definitions-fit f h.1
definitions-fit (again r f) h = definitions-fit f (h.0, (h.0, h.1))
definitions-fit (leave r e f) h = absurd h
definitions-fit (enter r f) h = absurd h

pub document-way : {ws vs : List Word} {x : Row} (way : List Symbol) → IsOneOf way (declared rule.Document) → Fits way ws x vs → HasDefinitions x
document-way _ here f = definitions-fit f (refl, (refl, tt))
document-way _ (there x) f = elim x [ ]

definition-kind : (part : Part) (k : SyntaxKind) (w : Word) (inner x : Row) → part ≡ node → HasDefinitions (row_then part k w inner x) → k ≡ kind.Definition
definition-kind node k w inner x p h = h.0
definition-kind word k w inner x p h = absurd (cc)
definition-kind ignored k w inner x p h = absurd (cc)

definitions-rest : (part : Part) (k : SyntaxKind) (w : Word) (inner x : Row) → HasDefinitions (row_then part k w inner x) → HasDefinitions x
definitions-rest node k w inner x h = h.1
definitions-rest word k w inner x h = h
definitions-rest ignored k w inner x h = h

module _ (text : Text) (file : FileId) where
  at-node : (part : Part) {A : Type 0} → (part ≡ node → A) → AtNode part A
  at-node node f = f refl
  at-node word f = tt
  at-node ignored f = tt

  pub each-definition : (f : Forest) → AllAllowed (shown text f) → AreSpelled text (leaves f) → HasDefinitions (shown text f) → EachNode (λ t. IsSome (definition_of text file t)) f
  each-definition nothing a h d = tt
  each-definition (tree_then k start end children rest) a h d =
      let w = word_of (slice_range text start end) in (
        at-node (part_of k) (λ p.
            let same = definition-kind (part_of k) k w (shown text children) (shown text rest) p d in
            let both = node-row text kind.Definition k (part_of k) w (shown text children) (shown text rest) p (sym same) a in
            subst (λ j. IsSome (definition_of text file (plain_tree j start end children))) (sym same)
            (definition-found text file start end children both.0 both.1 (below-of text k start end children rest h))),
        each-definition rest (rest-row text (part_of k) k w (shown text children) (shown text rest) a) (rest-of text k start end children rest h)
            (definitions-rest (part_of k) k w (shown text children) (shown text rest) d),
      )
