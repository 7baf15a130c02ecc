-- Which bytes spell which tree (RFC 8259, sections 2 to 7), by cases on the grammar and apart from any reader.
-- A relation says of a text that is left, and of what is left behind it, that what lies between is the text of a tree.
-- White space is skipped wherever it may stand, all of it, since no value, comma, colon or bracket begins with it.
use Rattle.std.specs.Prelude.{◌≡◌, ℕ, suc, ◌^◌, ◌<◌, ℤ, pos, negsuc, true, false, List, [], ◌∷◌, ◌++◌, codes, Some}
use Rattle.std.specs.Prelude.{encode_utf8, ◌*◌, ◌+◌}
use Rattle.std.specs.Char.{IsScalar}
use Rattle.std.specs.Fmt.{signed_decimal}
use Rattle.std.specs.Str.{bytes_eq, encode_utf8_all}
use Rattle.indexmap.specs.IndexMap.{insert_entry}
use Rattle.jb_tree.specs.declared.value.Value.{Value}
use Rattle.jb_tree.specs.declared.value.Value.TheVariants as value
use Rattle.jb_tree.specs.Tree.{Tree, Trees, Members, null, boolean, number, text, array, object, no_trees, tree_then, no_members, member_then}
use Rattle.jb_read.specs.Bytes.{is_digit, begins, skip_white}
use Rattle.jb_read.specs.Numbers.{is_mark}
use Rattle.jb_read.specs.Strings.{is_special, hex_value, is_high, is_low, pair_char, short_escape}

-- the whole numbers that are read
abbrev pub IsWhole : ℤ → Type 0
IsWhole (pos n) = n < 2 ^ 64
IsWhole (negsuc n) = n < 2 ^ 63

-- A number is its decimal text, a minus before it below zero, where neither a further digit nor a mark of a fraction
-- or an exponent follows.
pub record SpellsNumber (z : ℤ) (at rest : List ℕ) : Type 0 where
  pub spelled : at ≡ signed_decimal z ++ rest
  pub whole : IsWhole z
  pub no_digit : begins is_digit rest ≡ false
  pub no_mark : begins is_mark rest ≡ false

-- a UTF-16 unit by a backslash, the letter u and four hexadecimal digits
pub record SpellsUnit (unit : ℕ) (at rest : List ℕ) : Type 0 where
  pub first : ℕ
  pub second : ℕ
  pub third : ℕ
  pub fourth : ℕ
  pub spelled : at ≡ 92 ∷ 117 ∷ first ∷ second ∷ third ∷ fourth ∷ rest
  pub a : ℕ
  pub b : ℕ
  pub c : ℕ
  pub d : ℕ
  pub first_is : hex_value first ≡ Some a
  pub second_is : hex_value second ≡ Some b
  pub third_is : hex_value third ≡ Some c
  pub fourth_is : hex_value fourth ≡ Some d
  pub unit_is : unit ≡ ((a * 16 + b) * 16 + c) * 16 + d

-- a character of a string: as itself where it is no quote, no backslash and no control, by a short escape, by its unit,
-- or by the units of two surrogates
pub data SpellsCharacter (c : ℕ) (at rest : List ℕ) : Type 0 where
  plain : IsScalar c → is_special c ≡ false → at ≡ encode_utf8 c ++ rest → SpellsCharacter c at rest
  short : (letter : ℕ) → short_escape letter ≡ Some c → at ≡ 92 ∷ letter ∷ rest → SpellsCharacter c at rest
  unit : SpellsUnit c at rest → is_high c ≡ false → is_low c ≡ false → SpellsCharacter c at rest
  pair : (high low : ℕ) (between : List ℕ) → SpellsUnit high at between → is_high high ≡ true → SpellsUnit low between rest
      → is_low low ≡ true → c ≡ pair_char high low → SpellsCharacter c at rest

-- the characters of a string and the quote that ends it
abbrev pub SpellsCharacters : List ℕ → List ℕ → List ℕ → Type 0
SpellsCharacters [] at rest = at ≡ 34 ∷ rest
SpellsCharacters (c ∷ cs) at rest = (behind : List ℕ) × SpellsCharacter c at behind × SpellsCharacters cs behind rest

-- a string with its quotes, and the bytes of its characters
pub record SpellsString (bytes at rest : List ℕ) : Type 0 where
  pub inside : List ℕ
  pub characters : List ℕ
  pub opened : at ≡ 34 ∷ inside
  pub spelled : SpellsCharacters characters inside rest
  pub bytes_are : encode_utf8_all characters ≡ bytes

-- a key and its colon
pub record SpellsKey (key at rest : List ℕ) : Type 0 where
  pub behind : List ℕ
  pub inside : List ℕ
  pub string : SpellsString key at behind
  pub colon : skip_white behind ≡ 58 ∷ inside
  pub then : rest ≡ skip_white inside

abbrev mutual
  -- a tree in whose text at most depth levels are opened
  pub Spells : Tree → ℕ → List ℕ → List ℕ → Type 0
  Spells null depth at rest = at ≡ codes "null" ++ rest
  Spells (boolean true) depth at rest = at ≡ codes "true" ++ rest
  Spells (boolean false) depth at rest = at ≡ codes "false" ++ rest
  Spells (number z) depth at rest = SpellsNumber z at rest
  Spells (text bytes) depth at rest = SpellsString bytes at rest
  Spells (array items) depth at rest = (inner : ℕ) × (inside : List ℕ) × (depth ≡ suc inner) × (at ≡ 91 ∷ inside)
      × SpellsItems items inner (skip_white inside) rest
  Spells (object members) depth at rest = (inner : ℕ) × (inside : List ℕ) × (depth ≡ suc inner) × (at ≡ 123 ∷ inside)
      × SpellsMembers members inner (skip_white inside) rest

  -- the items of an array and its closing bracket
  pub SpellsItems : Trees → ℕ → List ℕ → List ℕ → Type 0
  SpellsItems no_trees depth at rest = at ≡ 93 ∷ rest
  SpellsItems (tree_then item items) depth at rest = (behind : List ℕ) × Spells item depth at behind × MoreItems items depth (skip_white behind) rest

  -- the same behind an item, a comma before each
  pub MoreItems : Trees → ℕ → List ℕ → List ℕ → Type 0
  MoreItems no_trees depth at rest = at ≡ 93 ∷ rest
  MoreItems (tree_then item items) depth at rest = (next : List ℕ) × (behind : List ℕ) × (at ≡ 44 ∷ next)
      × Spells item depth (skip_white next) behind × MoreItems items depth (skip_white behind) rest

  -- the members of an object and its closing bracket
  pub SpellsMembers : Members → ℕ → List ℕ → List ℕ → Type 0
  SpellsMembers no_members depth at rest = at ≡ 125 ∷ rest
  SpellsMembers (member_then key item members) depth at rest = (start : List ℕ) × (behind : List ℕ) × SpellsKey key at start
      × Spells item depth start behind × MoreMembers members depth (skip_white behind) rest

  pub MoreMembers : Members → ℕ → List ℕ → List ℕ → Type 0
  MoreMembers no_members depth at rest = at ≡ 125 ∷ rest
  MoreMembers (member_then key item members) depth at rest = (next : List ℕ) × (start : List ℕ) × (behind : List ℕ) × (at ≡ 44 ∷ next)
      × SpellsKey key (skip_white next) start × Spells item depth start behind × MoreMembers members depth (skip_white behind) rest

abbrev mutual
  -- the value of a tree: a key that comes again keeps its first place and takes its last value
  pub settled : Tree → Value
  settled null = value.Null
  settled (boolean truth) = value.Bool truth
  settled (number z) = value.Number z
  settled (text bytes) = value.String bytes
  settled (array items) = value.Array (settled_items items)
  settled (object members) = value.Object (settled_members [] members)

  pub settled_items : Trees → List Value
  settled_items no_trees = []
  settled_items (tree_then item items) = settled item ∷ settled_items items

  pub settled_members : List (List ℕ × Value) → Members → List (List ℕ × Value)
  settled_members done no_members = done
  settled_members done (member_then key item members) = settled_members (insert_entry bytes_eq done key (settled item)) members

-- The bytes are one text of the value, between white space, in which at most 127 levels are opened.
pub record JsonText (bytes : List ℕ) (v : Value) : Type 0 where
  pub tree : Tree
  pub behind : List ℕ
  pub spelled : Spells tree 127 (skip_white bytes) behind
  pub nothing_more : skip_white behind ≡ []
  pub is_value : settled tree ≡ v

-- The bytes begin with white space and a text of the value.
pub record JsonFront (bytes : List ℕ) (v : Value) : Type 0 where
  pub tree : Tree
  pub behind : List ℕ
  pub spelled : Spells tree 127 (skip_white bytes) behind
  pub is_value : settled tree ≡ v
