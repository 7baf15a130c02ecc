-- The words that tokens are, by their bytes.
use Rattle.std.specs.Prelude.{ℕ, Bool, ◌||◌, ◌==◌, if◌then◌else◌, List, codes}
use Rattle.std.specs.Str.{bytes_eq}
use Rattle.gql_grammar.specs.declared.word.Word.{Word}
use Rattle.gql_grammar.specs.declared.word.Word.TheVariants.{Bang, Dollar, Ampersand, ParenOpen, ParenClose, Colon, Equals, At, BracketOpen}
use Rattle.gql_grammar.specs.declared.word.Word.TheVariants.{BracketClose, BraceOpen, Bar, BraceClose, Spread, FragmentWord, OnWord, NullWord}
use Rattle.gql_grammar.specs.declared.word.Word.TheVariants.{SchemaWord, ScalarWord, TypeWord, InterfaceWord, ImplementsWord, UnionWord, EnumWord}
use Rattle.gql_grammar.specs.declared.word.Word.TheVariants.{InputWord, DirectiveWord, RepeatableWord, ExtendWord, OperationWord, BooleanWord}
use Rattle.gql_grammar.specs.declared.word.Word.TheVariants.{LocationWord, OtherName}

-- a punctuator, by its first byte
abbrev pub word_of_punctuator : ℕ → Word
word_of_punctuator b =
    if b == 33 then Bang
    else if b == 36 then Dollar
    else if b == 38 then Ampersand
    else if b == 40 then ParenOpen
    else if b == 41 then ParenClose
    else if b == 58 then Colon
    else if b == 61 then Equals
    else if b == 64 then At
    else if b == 91 then BracketOpen
    else if b == 93 then BracketClose
    else if b == 123 then BraceOpen
    else if b == 124 then Bar
    else if b == 125 then BraceClose
    else Spread

-- ExecutableDirectiveLocation
abbrev pub is_executable_location : List ℕ → Bool
is_executable_location name =
    bytes_eq name (codes "QUERY") || bytes_eq name (codes "MUTATION") || bytes_eq name (codes "SUBSCRIPTION") || bytes_eq name (codes "FIELD")
    || bytes_eq name (codes "FRAGMENT_DEFINITION") || bytes_eq name (codes "FRAGMENT_SPREAD") || bytes_eq name (codes "INLINE_FRAGMENT")
    || bytes_eq name (codes "VARIABLE_DEFINITION")

-- TypeSystemDirectiveLocation
abbrev pub is_type_system_location : List ℕ → Bool
is_type_system_location name =
    bytes_eq name (codes "SCHEMA") || bytes_eq name (codes "SCALAR") || bytes_eq name (codes "OBJECT") || bytes_eq name (codes "FIELD_DEFINITION")
    || bytes_eq name (codes "ARGUMENT_DEFINITION") || bytes_eq name (codes "INTERFACE") || bytes_eq name (codes "UNION")
    || bytes_eq name (codes "ENUM") || bytes_eq name (codes "ENUM_VALUE") || bytes_eq name (codes "INPUT_OBJECT")
    || bytes_eq name (codes "INPUT_FIELD_DEFINITION")

abbrev pub keyword : List ℕ → Word
keyword name =
    if bytes_eq name (codes "fragment") then FragmentWord
    else if bytes_eq name (codes "on") then OnWord
    else if bytes_eq name (codes "null") then NullWord
    else if bytes_eq name (codes "schema") then SchemaWord
    else if bytes_eq name (codes "scalar") then ScalarWord
    else if bytes_eq name (codes "type") then TypeWord
    else if bytes_eq name (codes "interface") then InterfaceWord
    else if bytes_eq name (codes "implements") then ImplementsWord
    else if bytes_eq name (codes "union") then UnionWord
    else if bytes_eq name (codes "enum") then EnumWord
    else if bytes_eq name (codes "input") then InputWord
    else if bytes_eq name (codes "directive") then DirectiveWord
    else if bytes_eq name (codes "repeatable") then RepeatableWord
    else if bytes_eq name (codes "extend") then ExtendWord
    else OtherName

-- a name
abbrev pub word_of_name : List ℕ → Word
word_of_name name =
    if is_executable_location name || is_type_system_location name then LocationWord
    else if bytes_eq name (codes "query") || bytes_eq name (codes "mutation") || bytes_eq name (codes "subscription") then OperationWord
    else if bytes_eq name (codes "true") || bytes_eq name (codes "false") then BooleanWord
    else keyword name
