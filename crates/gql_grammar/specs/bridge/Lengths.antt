-- The words of names by how many bytes the names have.
use Rattle.std.specs.Prelude.{ℕ, if◌then◌else◌, List, codes}
use Rattle.std.specs.Str.{bytes_eq}
use Rattle.gql_grammar.specs.declared.word.Word.{Word}
use Rattle.gql_grammar.specs.declared.word.Word.TheVariants.{FragmentWord, OnWord, NullWord, SchemaWord, ScalarWord, TypeWord, InterfaceWord}
use Rattle.gql_grammar.specs.declared.word.Word.TheVariants.{ImplementsWord, UnionWord, EnumWord, InputWord, DirectiveWord, RepeatableWord}
use Rattle.gql_grammar.specs.declared.word.Word.TheVariants.{ExtendWord, OperationWord, BooleanWord, LocationWord, OtherName}

-- a name of two bytes
abbrev pub word_of_two : List ℕ → Word
word_of_two name =
    if bytes_eq name (codes "on") then OnWord
    else OtherName

-- a name of four bytes
abbrev pub word_of_four : List ℕ → Word
word_of_four name =
    if bytes_eq name (codes "ENUM") then LocationWord
    else if bytes_eq name (codes "true") then BooleanWord
    else if bytes_eq name (codes "null") then NullWord
    else if bytes_eq name (codes "type") then TypeWord
    else if bytes_eq name (codes "enum") then EnumWord
    else OtherName

-- a name of five bytes
abbrev pub word_of_five : List ℕ → Word
word_of_five name =
    if bytes_eq name (codes "QUERY") then LocationWord
    else if bytes_eq name (codes "FIELD") then LocationWord
    else if bytes_eq name (codes "UNION") then LocationWord
    else if bytes_eq name (codes "query") then OperationWord
    else if bytes_eq name (codes "false") then BooleanWord
    else if bytes_eq name (codes "union") then UnionWord
    else if bytes_eq name (codes "input") then InputWord
    else OtherName

-- a name of six bytes
abbrev pub word_of_six : List ℕ → Word
word_of_six name =
    if bytes_eq name (codes "SCHEMA") then LocationWord
    else if bytes_eq name (codes "SCALAR") then LocationWord
    else if bytes_eq name (codes "OBJECT") then LocationWord
    else if bytes_eq name (codes "schema") then SchemaWord
    else if bytes_eq name (codes "scalar") then ScalarWord
    else if bytes_eq name (codes "extend") then ExtendWord
    else OtherName

-- a name of eight bytes
abbrev pub word_of_eight : List ℕ → Word
word_of_eight name =
    if bytes_eq name (codes "MUTATION") then LocationWord
    else if bytes_eq name (codes "mutation") then OperationWord
    else if bytes_eq name (codes "fragment") then FragmentWord
    else OtherName

-- a name of nine bytes
abbrev pub word_of_nine : List ℕ → Word
word_of_nine name =
    if bytes_eq name (codes "INTERFACE") then LocationWord
    else if bytes_eq name (codes "interface") then InterfaceWord
    else if bytes_eq name (codes "directive") then DirectiveWord
    else OtherName

-- a name of ten bytes
abbrev pub word_of_ten : List ℕ → Word
word_of_ten name =
    if bytes_eq name (codes "ENUM_VALUE") then LocationWord
    else if bytes_eq name (codes "implements") then ImplementsWord
    else if bytes_eq name (codes "repeatable") then RepeatableWord
    else OtherName

-- a name of twelve bytes or more
abbrev pub word_of_long : List ℕ → Word
word_of_long name =
    if bytes_eq name (codes "SUBSCRIPTION") then LocationWord
    else if bytes_eq name (codes "FRAGMENT_DEFINITION") then LocationWord
    else if bytes_eq name (codes "FRAGMENT_SPREAD") then LocationWord
    else if bytes_eq name (codes "INLINE_FRAGMENT") then LocationWord
    else if bytes_eq name (codes "VARIABLE_DEFINITION") then LocationWord
    else if bytes_eq name (codes "FIELD_DEFINITION") then LocationWord
    else if bytes_eq name (codes "ARGUMENT_DEFINITION") then LocationWord
    else if bytes_eq name (codes "INPUT_OBJECT") then LocationWord
    else if bytes_eq name (codes "INPUT_FIELD_DEFINITION") then LocationWord
    else if bytes_eq name (codes "subscription") then OperationWord
    else OtherName
