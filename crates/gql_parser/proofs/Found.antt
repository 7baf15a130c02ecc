-- The nodes among selections, each by the only rule of its kind, and that each stands for something.
use Rattle.std.proofs.Common.{◌≡◌, ◌<◌, Bool, true, false, List, [], ◌∷◌, length, is_some, Option, Some, None, refl, sym, ap, ◌∙◌, subst, arith}
use Rattle.gql_grammar.specs.declared.word.Word.{Word}
use Rattle.gql_grammar.specs.declared.symbol.Symbol.{Symbol}
use Rattle.gql_grammar.specs.declared.rule.Rule.{Rule}
use Rattle.gql_grammar.specs.declared.rule.Rule.TheVariants as rule
use Rattle.gql_grammar.specs.declared.syntax_kind.SyntaxKind.{SyntaxKind}
use Rattle.gql_grammar.specs.declared.syntax_kind.SyntaxKind.TheVariants as kind
use Rattle.gql_grammar.specs.Grammar.{declared}
use Rattle.gql_grammar.specs.Nodes.{IsAllowed}
use Rattle.gql_grammar.specs.Row.{Row}
use Rattle.gql_grammar.specs.Rule.{kind_of}
use Rattle.gql_grammar.specs.Sentence.{Fits, IsOneOf, here, there}
use Rattle.gql_cst.specs.Forest.{Forest, Plain, nothing, tree_then}
use Rattle.gql_cst.specs.Leaves.{node, part_of}
use Rattle.gql_ast_base.specs.Kinds.{is_kind}
use Rattle.gql_ast_base.specs.Parts.{head, gather, child}
use Rattle.gql_ast_laws.proofs.Blind.{tree as plain_tree}
use Rattle.gql_ast_laws.proofs.Inner.{both_ways, here as child_here, later as child_later}
use Rattle.gql_ast_laws.proofs.Tops.{first, HasNode, has-node, same-kind}
use Rattle.gql_ast_laws.proofs.TypeFound.{head-first, head-rest}
use Rattle.gql_ast_laws.proofs.Ways.{Made}

-- ---- the rules of selections

abbrev pub rule_for : SyntaxKind → Rule
rule_for kind.Selection = rule.Selection
rule_for kind.Field = rule.Field
rule_for kind.FragmentSpread = rule.FragmentSpread
rule_for kind.InlineFragment = rule.InlineFragment
rule_for _ = rule.Document

abbrev pub is_of_selections : SyntaxKind → Bool
is_of_selections kind.Selection = true
is_of_selections kind.Field = true
is_of_selections kind.FragmentSpread = true
is_of_selections kind.InlineFragment = true
is_of_selections _ = false

abbrev of_selections_in : Option SyntaxKind → Bool
of_selections_in None = false
of_selections_in (Some k) = is_of_selections k

ruled : (r : Rule) (k : SyntaxKind) → kind_of r ≡ Some k → is_of_selections k ≡ true → r ≡ rule_for k
ruled rule.Selection k e s = ap rule_for (same-kind _ k e)
ruled rule.Field k e s = ap rule_for (same-kind _ k e)
ruled rule.FragmentSpread k e s = ap rule_for (same-kind _ k e)
ruled rule.InlineFragment k e s = ap rule_for (same-kind _ k e)
ruled _ k e s = absurd (let c : false ≡ true = ap of_selections_in e ∙ s in cc)

pub made : (k : SyntaxKind) (inner : Row) → is_of_selections k ≡ true → IsAllowed k inner → Made (rule_for k) inner
made k inner s a =
    subst (λ r. Made r inner) (ruled a.rule k a.of_kind s) (record { way = a.way; words = a.words; behind = a.behind; one = a.one; fits = a.fits })

-- ---- the ways to select

abbrev pub is_choice : SyntaxKind → Bool
is_choice kind.Field = true
is_choice kind.FragmentSpread = true
is_choice kind.InlineFragment = true
is_choice _ = false

pub choice-node : (k : SyntaxKind) → is_choice k ≡ true → part_of k ≡ node
choice-node kind.Field h = refl
choice-node kind.FragmentSpread h = refl
choice-node kind.InlineFragment h = refl
choice-node _ h = absurd (cc)

pub record HasChoice (row : Row) : Type 0 where
  pub k : SyntaxKind
  pub choice : is_choice k ≡ true
  pub has : HasNode k row

pub selection-way : {ws vs : List Word} {row : Row} (way : List Symbol) → IsOneOf way (declared rule.Selection) → Fits way ws row vs → HasChoice row
selection-way _ here f = record { k = kind.Field; choice = refl; has = has-node rule.Field kind.Field refl f first }
selection-way _ (there here) f = record { k = kind.FragmentSpread; choice = refl; has = has-node rule.FragmentSpread kind.FragmentSpread refl f first }
selection-way _ (there (there here)) f = record { k = kind.InlineFragment; choice = refl; has = has-node rule.InlineFragment kind.InlineFragment refl f first }
selection-way _ (there (there (there x))) f = elim x [ ]

-- ---- what is made of the first tree of a kind

same_some : {A : Type 0} (x y : A) → Some x ≡ Some y → x ≡ y
same_some x y h = cc

pub first_found : {T : Type 0} (f : Plain → Option T) (k : SyntaxKind) (row : Forest) (t : Plain) → child k row ≡ Some t → is_some (f t) ≡ true
    → is_some (head (gather f row)) ≡ true
first_found f k nothing t e h = absurd (cc)
first_found f k (tree_then kind start end children rest) t e h =
    let one = plain_tree kind start end children in
    both_ways (is_kind kind k)
    (λ q.
    let same : one ≡ t = same_some one t (sym (child_here k kind start end children rest q) ∙ e) in
    head-first (f one) (gather f rest) (ap (λ x. is_some (f x)) same ∙ h))
    (λ q. head-rest (f one) (gather f rest) (first_found f k rest t (sym (child_later k kind start end children rest q) ∙ e) h))

pub some_there : {T : Type 0} (xs : List T) → is_some (head xs) ≡ true → 0 < length xs
some_there [] h = absurd (cc)
some_there (x ∷ xs) h = omega arith
