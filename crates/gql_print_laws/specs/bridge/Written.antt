-- What only private clauses and proofs cite, beside `Written`.
use Rattle.std.specs.Prelude.{◌≡◌, ◌<◌, Bool, true, false, slice_index, codes}
use Rattle.gql_lexer.specs.Class.{is_name_continue}
use Rattle.gql_grammar.specs.declared.syntax_kind.SyntaxKind.TheVariants as kind
use Rattle.gql_print_laws.specs.Literal.{Literal, null, variable, int, float, string, truth, name, list, object}
use Rattle.gql_print_laws.specs.Literal.{Literals, no_literal, literal_then, Pairs, no_pair, pair_then}
use Rattle.gql_print_laws.specs.bridge.Said.{Text, Said, over, token, space, under}
use Rattle.jb_print.specs.Quoted.{quoted}

abbrev pub truth_word : Bool → Text
truth_word true = codes "true"
truth_word false = codes "false"

abbrev mutual
  -- the inside of the node of a value
  pub content_said : Literal → Said
  content_said null = under kind.NullValue (token (codes "null") over) over
  content_said (variable t) = under kind.Variable (token (codes "$") (token t over)) over
  content_said (int t) = token t over
  content_said (float t) = token t over
  content_said (string t) = token (quoted t) over
  content_said (truth b) = under kind.BooleanValue (token (truth_word b) over) over
  content_said (name t) = under kind.EnumValue (token t over) over
  content_said (list ls) = under kind.ListValue (token (codes "[") (items_said ls)) over
  content_said (object ps) = under kind.ObjectValue (token (codes "{") (pairs_said ps)) over

  pub items_said : Literals → Said
  items_said no_literal = token (codes "]") over
  items_said (literal_then l ls) = under kind.Value (content_said l) (more_items ls)

  pub more_items : Literals → Said
  more_items no_literal = token (codes "]") over
  more_items (literal_then l ls) = space (codes ",") (space (codes " ") (under kind.Value (content_said l) (more_items ls)))

  pub pairs_said : Pairs → Said
  pairs_said no_pair = token (codes "}") over
  pairs_said (pair_then k l ps) =
      under kind.ObjectField (token k (token (codes ":") (space (codes " ") (under kind.Value (content_said l) over)))) (more_pairs ps)

  pub more_pairs : Pairs → Said
  more_pairs no_pair = token (codes "}") over
  more_pairs (pair_then k l ps) =
      space (codes ",") (space (codes " ")
      (under kind.ObjectField (token k (token (codes ":") (space (codes " ") (under kind.Value (content_said l) over)))) (more_pairs ps)))

-- what may come behind a value that is written
pub record Ends (rest : Text) : Type 0 where
  pub low : slice_index rest 0 < 128
  pub stops : is_name_continue (slice_index rest 0) ≡ false
  pub no_dot : slice_index rest 0 ≡ 0x2E → ⊥
  pub no_quote : slice_index rest 0 ≡ 0x22 → ⊥
