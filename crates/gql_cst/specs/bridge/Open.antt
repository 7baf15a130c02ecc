-- Rows of trees that are open, as an output of the parser sees them.
use Rattle.std.specs.Prelude.{ℕ, List, [], ◌∷◌, ◌++◌, Option, Some, None}
use Rattle.std.specs.declared.ops.Range.{Range}
use Rattle.gql_grammar.specs.declared.syntax_kind.SyntaxKind.{SyntaxKind}
use Rattle.gql_grammar.specs.declared.syntax_kind.SyntaxKind.TheVariants as kind
use Rattle.gql_cst.specs.declared.begun.Begun.{Begun}
use Rattle.gql_cst.specs.Forest.{Plain, nothing}
use Rattle.gql_cst.specs.bridge.Machine.{node_of}

-- A node that began, and its kind. The row of a whole text is told no kind before the text ends.
pub record Node : Type 0 where
  pub kind : Option SyntaxKind
  pub begun : Begun

-- a node that began, and the trees in it so far
pub record Open : Type 0 where
  pub node : Node
  pub trees : List Plain

-- a token has no children
abbrev pub leaf : SyntaxKind → Range ℕ → Plain
leaf kind range = record { kind = kind; start = range.start; end = range.end; children = nothing }

-- a token that the grammar does not ignore, and one that it ignores
abbrev pub token : Range ℕ → Plain
token range = leaf kind.Token range

abbrev pub ignored : Range ℕ → Plain
ignored range = leaf kind.Ignored range

-- a node begins, and nothing is in it
abbrev pub opened : SyntaxKind → ℕ → ℕ → Open
opened kind mark place = record { node = record { kind = Some kind; begun = record { mark = mark; place = place } }; trees = [] }

-- more trees come in a node
abbrev pub grown_by : List Plain → Open → Open
grown_by trees o = record { node = o.node; trees = o.trees ++ trees }

-- what is in a node becomes one node in it
abbrev pub wrapped : SyntaxKind → Open → Open
wrapped kind o = record { node = o.node; trees = node_of kind o.trees ∷ [] }

-- the nodes that began, each with its row
abbrev pub opens : List Node → List (List Plain) → List Open
opens [] rows = []
opens (node ∷ more) [] = []
opens (node ∷ more) (row ∷ rows) = record { node = node; trees = row } ∷ opens more rows

-- the row of a whole text begins at its first byte
abbrev pub whole : Node
whole = record { kind = None; begun = record { mark = 0; place = 0 } }

abbrev pub whole_text : List Plain → Open
whole_text trees = record { node = whole; trees = trees }
