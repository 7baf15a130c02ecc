-- Values (RFC 8259, sections 3 to 5). A bracket opens one level; depth says how many more may be opened.
use Rattle.std.specs.Prelude.{ℕ, zero, suc, ◌||◌, Bool, true, false, ◌==◌, if◌then◌else◌, List, [], ◌∷◌, ◌++◌, length, drop}
use Rattle.std.specs.Prelude.{codes, Result, Ok}
use Rattle.std.specs.Str.{bytes_eq}
use Rattle.indexmap.specs.IndexMap.{insert_entry}
use Rattle.jb_tree.specs.declared.value.Value.{Value}
use Rattle.jb_tree.specs.declared.value.Value.TheVariants as value
use Rattle.jb_read.specs.declared.fault.Broken.{Broken}
use Rattle.jb_read.specs.declared.fault.FaultKind.TheVariants.{Syntax, Depth}
use Rattle.jb_read.specs.Bytes.{is_digit, begins, skip_white}
use Rattle.jb_read.specs.Reading.{fails, ◌>>=◌, byte_at, word_at, turns}
use Rattle.jb_read.specs.Numbers.{number_at, is_minus}
use Rattle.jb_read.specs.Strings.{text_at}

abbrev pub begins_with : ℕ → List ℕ → Bool
begins_with byte at = begins (λ b. b == byte) at

-- behind an item or a member and white space: the bracket that closes, or a comma and white space before another
unfoldable pub next_at : ℕ → List ℕ → Result (Bool × List ℕ) Broken
next_at close at = if begins_with close (skip_white at) then Ok (false, drop 1 (skip_white at))
    else (byte_at 44 (skip_white at) >>= λ comma. Ok (true, skip_white comma.1))

-- an item of an array, read by inner, behind the items so far
unfoldable pub item_at : (List ℕ → Result (Value × List ℕ) Broken) → List Value → List ℕ → Result ((Bool × List Value) × List ℕ) Broken
item_at inner items at = do
  item ← inner at
  next ← next_at 93 item.1
  Ok ((next.0, items ++ item.0 ∷ []), next.1)

-- a key, its colon and the white space around that
unfoldable pub key_at : List ℕ → Result (List ℕ × List ℕ) Broken
key_at at = do
  quote ← byte_at 34 at
  key ← text_at quote.1
  colon ← byte_at 58 (skip_white key.1)
  Ok (key.0, skip_white colon.1)

-- a member of an object; a key that stands there already keeps its place and takes the new value
unfoldable pub member_at : (List ℕ → Result (Value × List ℕ) Broken) → List (List ℕ × Value) → List ℕ
    → Result ((Bool × List (List ℕ × Value)) × List ℕ) Broken
member_at inner members at = do
  key ← key_at at
  member ← inner key.1
  next ← next_at 125 member.1
  Ok ((next.0, insert_entry bytes_eq members key.0 member.0), next.1)

-- what turns read between brackets, from behind white space: nothing, or one turn after another
abbrev pub within_brackets : {A : Type 0} → ℕ → A → (A → List ℕ → Result ((Bool × A) × List ℕ) Broken) → List ℕ
    → Result (A × List ℕ) Broken
within_brackets close none turn at = if begins_with close at then Ok (none, drop 1 at) else turns turn (suc (length at)) none at

unfoldable pub array_at : (List ℕ → Result (Value × List ℕ) Broken) → List ℕ → Result (List Value × List ℕ) Broken
array_at inner at = within_brackets 93 [] (item_at inner) (skip_white at)

unfoldable pub object_at : (List ℕ → Result (Value × List ℕ) Broken) → List ℕ → Result (List (List ℕ × Value) × List ℕ) Broken
object_at inner at = within_brackets 125 [] (member_at inner) (skip_white at)

-- a value that is no array and no object
unfoldable pub scalar_at : List ℕ → Result (Value × List ℕ) Broken
scalar_at [] = fails Syntax []
scalar_at (b ∷ at) = if b == 34 then (text_at at >>= λ text. Ok (value.String text.0, text.1))
    else (if b == 110 then (word_at (codes "null") (b ∷ at) >>= λ word. Ok (value.Null, word.1))
    else (if b == 116 then (word_at (codes "true") (b ∷ at) >>= λ word. Ok (value.Bool true, word.1))
    else (if b == 102 then (word_at (codes "false") (b ∷ at) >>= λ word. Ok (value.Bool false, word.1))
    else (if is_minus b || is_digit b then (number_at (b ∷ at) >>= λ number. Ok (value.Number number.0, number.1))
    else fails Syntax (b ∷ at)))))

-- a value in which at most depth levels are opened
unfoldable pub value_at : ℕ → List ℕ → Result (Value × List ℕ) Broken
value_at zero [] = scalar_at []
value_at zero (b ∷ at) = if (b == 91) || (b == 123) then fails Depth (b ∷ at) else scalar_at (b ∷ at)
value_at (suc depth) [] = scalar_at []
value_at (suc depth) (b ∷ at) = if b == 91 then (array_at (value_at depth) at >>= λ array. Ok (value.Array array.0, array.1))
    else (if b == 123 then (object_at (value_at depth) at >>= λ object. Ok (value.Object object.0, object.1))
    else scalar_at (b ∷ at))

-- the value that a text begins with, behind white space
unfoldable pub first_value : ℕ → List ℕ → Result (Value × List ℕ) Broken
first_value depth text = value_at depth (skip_white text)

-- the value that was read, where nothing is left behind it
abbrev pub ended : Value → List ℕ → Result Value Broken
ended v [] = Ok v
ended v (b ∷ at) = fails Syntax (b ∷ at)

-- the one value of a text, between white space
unfoldable pub whole_value : ℕ → List ℕ → Result Value Broken
whole_value depth text = first_value depth text >>= λ read. ended read.0 (skip_white read.1)
