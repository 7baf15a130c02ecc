-- What only private clauses and proofs cite, beside `Pointer`.
use Rattle.std.specs.Prelude.{ℕ, List, [], Option, Some, None, option_and_then}
use Rattle.std.specs.Prelude.{Result}
use Rattle.std.specs.Option.{option_map_or}
use Rattle.jb_tree.specs.Index.{IsPut}
use Rattle.jb_tree.specs.declared.value.Value.{Value}
use Rattle.jb_tree.specs.Pointer.{tokens_from, named, named_put}

-- the tokens of the rest of a pointer, none where it has ended
abbrev pub tokens_left : Option (List ℕ) → List (List ℕ)
tokens_left None = []
tokens_left (Some rest) = tokens_from [] rest

-- what it answers, and leaves, to put `given` where tokens lead from a part of a whole: `found` is that part, where there is one,
-- and `with_part` gives the whole with another part in its place
abbrev pub IsPutBelow : {W : Type 0} → Result Value Value → Value → List (List ℕ) → Option Value → (Value → W) → W → W → Type 0
IsPutBelow result given tokens found with_part old new =
    IsPut result given (option_and_then (named tokens) found) old (option_map_or (λ part. with_part (named_put tokens part given)) found old) new
