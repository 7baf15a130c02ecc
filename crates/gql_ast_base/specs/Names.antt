-- Names: Name of section 2.1.9 of GraphQL October 2021.
use Rattle.std.specs.Prelude.{◌≡◌, ◌==◌, ℕ, Bool, true, false, ◌&&◌, List, [], ◌∷◌, Option, None, Result, Ok, Err}
use Rattle.std.specs.List.{list_all}
use Rattle.gql_source.specs.Span.{Span}
use Rattle.gql_cst.specs.Class.{is_name_start, is_name_continue}
use Rattle.jb_text.specs.declared.refused.Refused.{Refused}
use Rattle.jb_text.specs.declared.refused.Refused.TheVariants.{Fault, Memory}
use Rattle.gql_ast_base.specs.declared.name.NameFault.{NameFault}

-- a name as contracts see it: its text, and the place that it was read from
pub record Named : Type 0 where
  pub text : List ℕ
  pub location : Option Span

-- a letter or `_`, and then letters, digits and `_` alone
abbrev pub is_name : List ℕ → Bool
is_name [] = false
is_name (first ∷ rest) = is_name_start first && list_all is_name_continue rest

-- it begins with two underscores, as the names of introspection do: the code of `_` is 95
abbrev pub is_reserved : List ℕ → Bool
is_reserved (one ∷ two ∷ rest) = (one == 95) && (two == 95)
is_reserved _ = false

-- what making a name of a text answers: that name from no place, or that the text is none
abbrev pub IsNamed : List ℕ → Result Named (Refused NameFault) → Type 0
IsNamed text (Ok name) = (is_name text ≡ true) × (name ≡ record { text = text; location = None })
IsNamed text (Err (Fault _)) = is_name text ≡ false
IsNamed text (Err Memory) = Unit {0}
