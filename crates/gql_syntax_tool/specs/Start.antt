-- What a text can be read as.
use Rattle.std.specs.declared.alloc.Global.{Global}
use Rattle.std.specs.Prelude.{ℕ, List, [], ◌∷◌, Option, Some, None, String, if◌then◌else◌, codes, string_bytes}
use Rattle.std.specs.Str.{bytes_eq}
use Rattle.gql_grammar.specs.declared.rule.Rule.{Rule}
use Rattle.gql_grammar.specs.declared.rule.Rule.TheVariants as rule
use Rattle.gql_syntax_tool.specs.declared.start.Start.{Start}
use Rattle.gql_syntax_tool.specs.declared.start.Start.TheVariants.{Document, SelectionSet, TypeReference}

abbrev pub start_named : List ℕ → Option Start
start_named word =
    if bytes_eq word (codes "document") then Some Document
    else if bytes_eq word (codes "selection_set") then Some SelectionSet
    else if bytes_eq word (codes "type") then Some TypeReference else None

-- what the words ask for: its name, and no other word
abbrev pub start_asked : List (String Global) → Option Start
start_asked (word ∷ []) = start_named (string_bytes word)
start_asked _ = None

-- the rule of the grammar that a whole text is read by
abbrev pub rule_of : Start → Rule
rule_of Document = rule.Document
rule_of SelectionSet = rule.FieldSet
rule_of TypeReference = rule.TypeReference
