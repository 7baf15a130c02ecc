-- The named type of a printed type (GraphQL October 2021, section 3.4.1): what is left of `[[Int!]]!` is `Int`.
use Rattle.std.specs.Prelude.{ℕ, Bool, ◌||◌, ◌==◌, List, [], ◌∷◌, ◌++◌, if◌then◌else◌, encode_utf8}
use Rattle.gql_diag_messages.specs.declared.rule.Rule.{Rule}
use Rattle.gql_diag_messages.specs.declared.rule.Rule.TheVariants.{UnsupportedValueType}
use Rattle.gql_diag_messages.specs.Filled.{name_at}

-- `[`, `]` or `!`
abbrev pub wraps : ℕ → Bool
wraps byte = (byte == 91) || (byte == 93) || (byte == 33)

abbrev pub unless_wrapping : ℕ → List ℕ
unless_wrapping byte = if wraps byte then [] else encode_utf8 byte

-- a type without the marks of lists and of non-null types; its other bytes are ASCII
abbrev pub named_type : List ℕ → List ℕ
named_type [] = []
named_type (byte ∷ rest) = unless_wrapping byte ++ named_type rest

-- the names that the words of the reference implementation tell: of a literal of a wrong kind the named type and the
-- literal, and else the names as they are
abbrev pub compat_names : Rule → List (List ℕ) → List (List ℕ)
compat_names UnsupportedValueType names = named_type (name_at names 0) ∷ name_at names 1 ∷ []
compat_names _ names = names
