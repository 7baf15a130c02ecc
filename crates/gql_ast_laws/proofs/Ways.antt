-- The nodes of a sentence, each by the only rule of its kind.
use Rattle.std.proofs.Common.{◌≡◌, ◌≤◌, Bool, true, false, List, [], ◌∷◌, length, Option, Some, None, ap, ◌∙◌, subst}
use Rattle.gql_grammar.specs.declared.word.Word.{Word}
use Rattle.gql_grammar.specs.declared.symbol.Symbol.{Symbol}
use Rattle.gql_grammar.specs.declared.symbol.Symbol.TheVariants.{One}
use Rattle.gql_grammar.specs.declared.rule.Rule.{Rule}
use Rattle.gql_grammar.specs.declared.rule.Rule.TheVariants as rule
use Rattle.gql_grammar.specs.declared.syntax_kind.SyntaxKind.{SyntaxKind}
use Rattle.gql_grammar.specs.declared.syntax_kind.SyntaxKind.TheVariants as kind
use Rattle.gql_grammar.specs.Grammar.{declared}
use Rattle.gql_grammar.specs.Rule.{kind_of}
use Rattle.gql_grammar.specs.Nodes.{IsAllowed}
use Rattle.gql_grammar.specs.Row.{Row}
use Rattle.gql_grammar.specs.Sentence.{Fits, IsOneOf, here, there}
use Rattle.gql_ast_laws.proofs.Tops.{tops, least, IsIn, HasNode, same-kind, least-tops, has-node}

-- the rule of a kind that one rule alone makes
abbrev pub rule_for : SyntaxKind → Rule
rule_for kind.Document = rule.Document
rule_for kind.Definition = rule.Definition
rule_for kind.OperationDefinition = rule.OperationDefinition
rule_for kind.SelectionSet = rule.SelectionSet
rule_for kind.FragmentDefinition = rule.FragmentDefinition
rule_for kind.FragmentName = rule.FragmentName
rule_for kind.TypeCondition = rule.TypeCondition
rule_for kind.TypeReference = rule.TypeReference
rule_for kind.NamedType = rule.NamedType
rule_for kind.ListType = rule.ListType
rule_for kind.NonNullType = rule.NonNullType
rule_for kind.SchemaDefinition = rule.SchemaDefinition
rule_for kind.ScalarTypeDefinition = rule.ScalarTypeDefinition
rule_for kind.ObjectTypeDefinition = rule.ObjectTypeDefinition
rule_for kind.InterfaceTypeDefinition = rule.InterfaceTypeDefinition
rule_for kind.UnionTypeDefinition = rule.UnionTypeDefinition
rule_for kind.EnumTypeDefinition = rule.EnumTypeDefinition
rule_for kind.InputObjectTypeDefinition = rule.InputObjectTypeDefinition
rule_for kind.DirectiveDefinition = rule.DirectiveDefinition
rule_for kind.Extension = rule.Extension
rule_for _ = rule.Document

abbrev pub is_single : SyntaxKind → Bool
is_single kind.Document = true
is_single kind.Definition = true
is_single kind.OperationDefinition = true
is_single kind.SelectionSet = true
is_single kind.FragmentDefinition = true
is_single kind.FragmentName = true
is_single kind.TypeCondition = true
is_single kind.TypeReference = true
is_single kind.NamedType = true
is_single kind.ListType = true
is_single kind.NonNullType = true
is_single kind.SchemaDefinition = true
is_single kind.ScalarTypeDefinition = true
is_single kind.ObjectTypeDefinition = true
is_single kind.InterfaceTypeDefinition = true
is_single kind.UnionTypeDefinition = true
is_single kind.EnumTypeDefinition = true
is_single kind.InputObjectTypeDefinition = true
is_single kind.DirectiveDefinition = true
is_single kind.Extension = true
is_single _ = false

abbrev single_in : Option SyntaxKind → Bool
single_in None = false
single_in (Some k) = is_single k

ruled : (r : Rule) (k : SyntaxKind) → kind_of r ≡ Some k → is_single k ≡ true → r ≡ rule_for k
ruled rule.Document k e s = ap rule_for (same-kind _ k e)
ruled rule.Definition k e s = ap rule_for (same-kind _ k e)
ruled rule.OperationDefinition k e s = ap rule_for (same-kind _ k e)
ruled rule.SelectionSet k e s = ap rule_for (same-kind _ k e)
ruled rule.FragmentDefinition k e s = ap rule_for (same-kind _ k e)
ruled rule.FragmentName k e s = ap rule_for (same-kind _ k e)
ruled rule.TypeCondition k e s = ap rule_for (same-kind _ k e)
ruled rule.TypeReference k e s = ap rule_for (same-kind _ k e)
ruled rule.NamedType k e s = ap rule_for (same-kind _ k e)
ruled rule.ListType k e s = ap rule_for (same-kind _ k e)
ruled rule.NonNullType k e s = ap rule_for (same-kind _ k e)
ruled rule.SchemaDefinition k e s = ap rule_for (same-kind _ k e)
ruled rule.ScalarTypeDefinition k e s = ap rule_for (same-kind _ k e)
ruled rule.ObjectTypeDefinition k e s = ap rule_for (same-kind _ k e)
ruled rule.InterfaceTypeDefinition k e s = ap rule_for (same-kind _ k e)
ruled rule.UnionTypeDefinition k e s = ap rule_for (same-kind _ k e)
ruled rule.EnumTypeDefinition k e s = ap rule_for (same-kind _ k e)
ruled rule.InputObjectTypeDefinition k e s = ap rule_for (same-kind _ k e)
ruled rule.DirectiveDefinition k e s = ap rule_for (same-kind _ k e)
ruled rule.Extension k e s = ap rule_for (same-kind _ k e)
ruled _ k e s = absurd (let c : false ≡ true = ap single_in e ∙ s in cc)

-- a way to write the rule makes the row
pub record Made (r : Rule) (inner : Row) : Type 0 where
  pub way : List Symbol
  pub words : List Word
  pub behind : List Word
  pub one : IsOneOf way (declared r)
  pub fits : Fits way words inner behind

pub made : (k : SyntaxKind) (inner : Row) → is_single k ≡ true → IsAllowed k inner → Made (rule_for k) inner
made k inner s a =
    subst (λ r. Made r inner) (ruled a.rule k a.of_kind s) (record { way = a.way; words = a.words; behind = a.behind; one = a.one; fits = a.fits })

-- what each row has that the only way to write a rule makes
pub only-names : {ws vs : List Word} {inner : Row} (w way : List Symbol) → IsOneOf way (w ∷ []) → Fits way ws inner vs → least w ≤ length (tops inner)
only-names w way here f = least-tops f
only-names w way (there x) f = elim x [ ]

pub only-node : {ws vs : List Word} {inner : Row} (w way : List Symbol) (r : Rule) (k : SyntaxKind) → kind_of r ≡ Some k → IsIn (One r) w → IsOneOf way (w ∷ []) → Fits way ws inner vs → HasNode k inner
only-node w way r k e i here f = has-node r k e f i
only-node w way r k e i (there x) f = elim x [ ]
