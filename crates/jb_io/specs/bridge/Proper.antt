-- What only private clauses and proofs cite, beside `Proper`.
use Rattle.std.specs.Prelude.{ℕ, List, map}
use Rattle.jb_tree.specs.Tree.{Members, members_of, tree}
use Rattle.jb_tree.specs.declared.value.Value.{Value}

-- the tree of an object's pairs
abbrev pub members_tree : List (List ℕ × Value) → Members
members_tree members = members_of (map (λ member. (member.0, tree member.1)) members)
