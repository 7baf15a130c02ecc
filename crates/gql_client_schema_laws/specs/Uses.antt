-- Uses of directives as they are written where a schema is told from what introspection shows of it: sections 3.13.3 and 3.13.4 of GraphQL
-- October 2021, and section 3.10.1 of September 2025.
use Rattle.std.specs.Prelude.{◌≡◌, ℕ, Bool, true, false, List, [], ◌∷◌, map, Option, Some, None, codes}
use Rattle.gql_ast_base.specs.declared.directive.Argument.{Argument}
use Rattle.gql_ast_base.specs.declared.directive.Directive.{Directive}
use Rattle.gql_print_laws.specs.Literal.{Literal, null, string, literal_in}

-- a use without its place: the name of the directive, and each argument with its value
abbrev pub Use : Type 0
Use = List ℕ × List (List ℕ × Literal)

abbrev pub said_argument : Argument → List ℕ × Literal
said_argument argument = (argument.name.text, literal_in argument.value)

abbrev pub said_use : Directive → Use
said_use used = (used.name.text, map said_argument used.arguments)

-- these are the uses, places aside
abbrev pub AreUses : List Use → List Directive → Type 0
AreUses uses directives = map said_use directives ≡ uses

abbrev pub text_or_null : Option (List ℕ) → Literal
text_or_null None = null
text_or_null (Some text) = string text

-- `@deprecated(reason: "why")`, if it is deprecated
abbrev pub deprecation_uses : Option (Option (List ℕ)) → List Use
deprecation_uses None = []
deprecation_uses (Some reason) = (codes "deprecated", (codes "reason", text_or_null reason) ∷ []) ∷ []

-- `@specifiedBy(url: "where")`, if that is told
abbrev pub url_uses : Option (List ℕ) → List Use
url_uses None = []
url_uses (Some url) = (codes "specifiedBy", (codes "url", string url) ∷ []) ∷ []

-- `@oneOf`
abbrev pub one_of_uses : Bool → List Use
one_of_uses true = (codes "oneOf", []) ∷ []
one_of_uses false = []
