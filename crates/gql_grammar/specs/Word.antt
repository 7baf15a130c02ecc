-- Words, and the sets of them that terminals stand for.
use Rattle.std.specs.Prelude.{ℕ, ◌+◌, ◌/◌, ◌%◌, ◌^◌, Bool, not, ◌&&◌, ◌==◌, nat_le, List, [], ◌∷◌}
use Rattle.gql_grammar.specs.declared.word.Word.{Word}
use Rattle.gql_grammar.specs.declared.word.Word.TheVariants.{Bang, Dollar, Ampersand, ParenOpen, ParenClose, Spread, Colon, Equals, At}
use Rattle.gql_grammar.specs.declared.word.Word.TheVariants.{BracketOpen, BracketClose, BraceOpen, Bar, BraceClose, IntLiteral, FloatLiteral}
use Rattle.gql_grammar.specs.declared.word.Word.TheVariants.{StringLiteral, OtherName, OperationWord, FragmentWord, OnWord, BooleanWord, NullWord}
use Rattle.gql_grammar.specs.declared.word.Word.TheVariants.{SchemaWord, ScalarWord, TypeWord, InterfaceWord, ImplementsWord, UnionWord, EnumWord}
use Rattle.gql_grammar.specs.declared.word.Word.TheVariants.{InputWord, DirectiveWord, RepeatableWord, ExtendWord, LocationWord}
use Rattle.gql_grammar.specs.declared.symbol.Terminal.{Terminal}
use Rattle.gql_grammar.specs.declared.symbol.Terminal.TheVariants.{Exactly, AnyName, NameButOn, NameButLiteral}

-- the place of a word among all of them
abbrev pub number : Word → ℕ
number Bang = 0
number Dollar = 1
number Ampersand = 2
number ParenOpen = 3
number ParenClose = 4
number Spread = 5
number Colon = 6
number Equals = 7
number At = 8
number BracketOpen = 9
number BracketClose = 10
number BraceOpen = 11
number Bar = 12
number BraceClose = 13
number IntLiteral = 14
number FloatLiteral = 15
number StringLiteral = 16
number OtherName = 17
number OperationWord = 18
number FragmentWord = 19
number OnWord = 20
number BooleanWord = 21
number NullWord = 22
number SchemaWord = 23
number ScalarWord = 24
number TypeWord = 25
number InterfaceWord = 26
number ImplementsWord = 27
number UnionWord = 28
number EnumWord = 29
number InputWord = 30
number DirectiveWord = 31
number RepeatableWord = 32
number ExtendWord = 33
number LocationWord = 34

abbrev pub is_same : Word → Word → Bool
is_same v w = number v == number w

-- names come last
abbrev pub is_name : Word → Bool
is_name w = nat_le (number OtherName) (number w)

-- the word may stand where the terminal does
abbrev pub takes : Terminal → Word → Bool
takes (Exactly v) w = is_same v w
takes AnyName w = is_name w
takes NameButOn w = is_name w && not (is_same w OnWord)
takes NameButLiteral w = is_name w && not (is_same w BooleanWord) && not (is_same w NullWord)

-- a set of words, as the sum of a power of two for each
abbrev pub set : List Word → ℕ
set [] = 0
set (w ∷ ws) = 2 ^ number w + set ws

-- the word is in the set
abbrev pub has : ℕ → Word → Bool
has s w = (s / 2 ^ number w) % 2 == 1

-- all names
abbrev pub names : ℕ
names = set (OtherName ∷ OperationWord ∷ FragmentWord ∷ OnWord ∷ BooleanWord ∷ NullWord ∷ SchemaWord ∷ ScalarWord ∷ TypeWord ∷
    InterfaceWord ∷ ImplementsWord ∷ UnionWord ∷ EnumWord ∷ InputWord ∷ DirectiveWord ∷ RepeatableWord ∷ ExtendWord ∷ LocationWord ∷ [])
