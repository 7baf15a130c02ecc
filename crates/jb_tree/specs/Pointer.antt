-- What a JSON Pointer names in a value (RFC 6901).
use Rattle.std.specs.Prelude.{ℕ, ◌+◌, ◌&&◌, ◌==◌, List, [], ◌∷◌, ◌++◌, Option, Some, None, option_and_then}
use Rattle.std.specs.Prelude.{if◌then◌else◌, decimal}
use Rattle.std.specs.Option.{option_map_or}
use Rattle.std.specs.Str.{bytes_eq}
use Rattle.std.specs.Map.{lookup, set_value}
use Rattle.jb_tree.specs.declared.value.Value.{Value, out-Value, Array, Object}
use Rattle.jb_tree.specs.declared.value.Value.TheOpen.{Value-F}

-- the tokens of a pointer behind its first `/`: the texts between slashes (section 3); `token` was read of the first one
unfoldable pub tokens_from : List ℕ → List ℕ → List (List ℕ)
tokens_from token [] = token ∷ []
tokens_from token (x ∷ rest) = if x == 47 then token ∷ tokens_from [] rest else tokens_from (token ++ x ∷ []) rest

-- each `~` that `digit` follows, together with it, made the one byte `meant`
unfoldable pub replaced : ℕ → ℕ → List ℕ → List ℕ
replaced digit meant [] = []
replaced digit meant (x ∷ []) = x ∷ []
replaced digit meant (x ∷ y ∷ rest) = if x == 126 && y == digit then meant ∷ replaced digit meant rest else x ∷ replaced digit meant (y ∷ rest)

-- what a token stands for: first each `~1` is made `/`, then each `~0` is made `~` (section 4)
abbrev pub decoded : List ℕ → List ℕ
decoded token = replaced 48 126 (replaced 49 47 token)

-- the item whose place, written in decimal digits, is the token; the first item has this place. So there is no `+`, no zero
-- in front but that of `0` itself, and no place past the end (section 4)
abbrev pub item_named : List ℕ → ℕ → List Value → Option Value
item_named token place [] = None
item_named token place (item ∷ items) = if bytes_eq token (decimal place) then Some item else item_named token (place + 1) items

-- what one token names at one level: an item by its place, which no escape spells, or a member by its key
abbrev pub child_at : List ℕ → Value-F Value → Option Value
child_at token (Value-F.Array items) = item_named token 0 items
child_at token (Value-F.Object members) = lookup (bytes_eq (decoded token)) members
child_at token _ = None

abbrev pub child : List ℕ → Value → Option Value
child token value = child_at token (out-Value value)

-- what tokens name, one inside the other
abbrev pub named : List (List ℕ) → Value → Option Value
named [] value = Some value
named (token ∷ tokens) value = option_and_then (named tokens) (child token value)

-- what a pointer names: the empty one the whole value, any other one begins with `/`
abbrev pub pointed : List ℕ → Value → Option Value
pointed [] value = Some value
pointed (x ∷ rest) value = if x == 47 then named (tokens_from [] rest) value else None

-- the items with w in the place of the one that the token names
abbrev pub item_named_put : List ℕ → ℕ → List Value → Value → List Value
item_named_put token place [] w = []
item_named_put token place (item ∷ items) w = if bytes_eq token (decimal place) then w ∷ items else item ∷ item_named_put token (place + 1) items w

-- one level with w in the place of what one token names
abbrev pub child_put_at : List ℕ → Value-F Value → Value → Value → Value
child_put_at token (Value-F.Array items) whole w = Array (item_named_put token 0 items w)
child_put_at token (Value-F.Object members) whole w = Object (set_value (bytes_eq (decoded token)) members w)
child_put_at token _ whole w = whole

abbrev pub child_put : List ℕ → Value → Value → Value
child_put token value w = child_put_at token (out-Value value) value w

-- the value with w in the place of what tokens name, and all else as it was
abbrev pub named_put : List (List ℕ) → Value → Value → Value
named_put [] value w = w
named_put (token ∷ tokens) value w = option_map_or (λ inner. child_put token value (named_put tokens inner w)) (child token value) value

-- the value with w in the place of what a pointer names
abbrev pub pointed_put : List ℕ → Value → Value → Value
pointed_put [] value w = w
pointed_put (x ∷ rest) value w = if x == 47 then named_put (tokens_from [] rest) value w else value
