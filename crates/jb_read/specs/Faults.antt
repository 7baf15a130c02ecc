-- Where a text breaks first, by cases on the grammar: what stands before the fault is spelled, and the fault stands in
-- the next part. A fault is known by its kind and by how many bytes are left where it stands.
use Rattle.std.specs.Prelude.{◌≡◌, ◌≢◌, ◌⊎◌, ℕ, suc, Bool, true, false, ◌==◌, ◌||◌, List, [], ◌∷◌, length}
use Rattle.jb_text.specs.declared.refused.Refused.{Refused}
use Rattle.jb_text.specs.declared.refused.Refused.TheVariants as refused
use Rattle.jb_tree.specs.Tree.{Tree, Trees, Members, no_trees, tree_then, no_members, member_then}
use Rattle.jb_read.specs.declared.fault.Broken.{Broken}
use Rattle.jb_read.specs.declared.fault.FaultKind.TheVariants.{Syntax, Depth}
use Rattle.jb_read.specs.declared.fault.ReadFault.{ReadFault}
use Rattle.jb_read.specs.Bytes.{begins, skip_white}
use Rattle.jb_read.specs.Reading.{broken}
use Rattle.jb_read.specs.Values.{begins_with}
use Rattle.jb_read.specs.ScalarFaults.{ScalarBreaks, KeyBreaks}
use Rattle.jb_read.specs.Spelling.{Spells, SpellsKey}
use Rattle.jb_read.specs.Texts.{place_of}

-- a bracket that opens an array or an object
abbrev pub opens : List ℕ → Bool
opens at = begins (λ b. (b == 91) || (b == 123)) at

-- items, each with the comma behind it, up to where another has to start
abbrev pub ItemsBefore : Trees → ℕ → List ℕ → List ℕ → Type 0
ItemsBefore no_trees depth at start = at ≡ start
ItemsBefore (tree_then item items) depth at start = (behind : List ℕ) × (next : List ℕ) × Spells item depth at behind
    × (skip_white behind ≡ 44 ∷ next) × ItemsBefore items depth (skip_white next) start

-- the same of members
abbrev pub MembersBefore : Members → ℕ → List ℕ → List ℕ → Type 0
MembersBefore no_members depth at start = at ≡ start
MembersBefore (member_then key item members) depth at start = (value : List ℕ) × (behind : List ℕ) × (next : List ℕ) × SpellsKey key at value
    × Spells item depth value behind × (skip_white behind ≡ 44 ∷ next) × MembersBefore members depth (skip_white next) start

-- Behind an item or a member stands neither a comma nor the bracket that closes: Syntax there.
pub record Unended (e : Broken) (close : ℕ) (behind : List ℕ) : Type 0 where
  pub no_close : begins_with close (skip_white behind) ≡ false
  pub no_comma : begins_with 44 (skip_white behind) ≡ false
  pub fault_is : e ≡ broken Syntax (skip_white behind)

-- where a value breaks in which at most depth levels may be opened
pub data Breaks (e : Broken) : ℕ → List ℕ → Type 0 where
  -- a text, a number or a word that breaks, or a byte that begins no value
  scalar : (depth : ℕ) (at : List ℕ) → opens at ≡ false → ScalarBreaks e at → Breaks e depth at
  -- one level too many
  deep : (at : List ℕ) → opens at ≡ true → e ≡ broken Depth at → Breaks e 0 at
  in_item : (depth : ℕ) (inside : List ℕ) → begins_with 93 (skip_white inside) ≡ false → (before : Trees) (start : List ℕ)
      → ItemsBefore before depth (skip_white inside) start → Breaks e depth start → Breaks e (suc depth) (91 ∷ inside)
  behind_item : (depth : ℕ) (inside : List ℕ) → begins_with 93 (skip_white inside) ≡ false → (before : Trees) (start : List ℕ)
      → ItemsBefore before depth (skip_white inside) start
      → (item : Tree) (behind : List ℕ) → Spells item depth start behind → Unended e 93 behind → Breaks e (suc depth) (91 ∷ inside)
  in_key : (depth : ℕ) (inside : List ℕ) → begins_with 125 (skip_white inside) ≡ false → (before : Members) (start : List ℕ)
      → MembersBefore before depth (skip_white inside) start → KeyBreaks e start → Breaks e (suc depth) (123 ∷ inside)
  in_member : (depth : ℕ) (inside : List ℕ) → begins_with 125 (skip_white inside) ≡ false → (before : Members) (start : List ℕ)
      → MembersBefore before depth (skip_white inside) start
      → (key : List ℕ) (value : List ℕ) → SpellsKey key start value → Breaks e depth value → Breaks e (suc depth) (123 ∷ inside)
  behind_member : (depth : ℕ) (inside : List ℕ) → begins_with 125 (skip_white inside) ≡ false → (before : Members) (start : List ℕ)
      → MembersBefore before depth (skip_white inside) start
      → (key : List ℕ) (value : List ℕ) → SpellsKey key start value → (item : Tree) (behind : List ℕ) → Spells item depth value behind
      → Unended e 125 behind → Breaks e (suc depth) (123 ∷ inside)

-- something stands behind the value of a text
pub record Trails (e : Broken) (bytes : List ℕ) : Type 0 where
  pub tree : Tree
  pub behind : List ℕ
  pub spelled : Spells tree 127 (skip_white bytes) behind
  pub something : skip_white behind ≢ []
  pub fault_is : e ≡ broken Syntax (skip_white behind)

-- The first fault of the bytes as one text.
pub record JsonFault (bytes : List ℕ) (fault : ReadFault) : Type 0 where
  pub stop : Broken
  pub breaks : Breaks stop 127 (skip_white bytes) ⊎ Trails stop bytes
  pub placed : place_of (length bytes) stop ≡ fault

-- The first fault of the value that the bytes begin with, behind white space.
pub record FrontFault (bytes : List ℕ) (fault : ReadFault) : Type 0 where
  pub stop : Broken
  pub breaks : Breaks stop 127 (skip_white bytes)
  pub placed : place_of (length bytes) stop ≡ fault

-- a refusal that is not out of memory is that fault
abbrev pub IsFrontFaultOf : List ℕ → Refused ReadFault → Type 0
IsFrontFaultOf bytes (refused.Fault fault) = FrontFault bytes fault
IsFrontFaultOf bytes refused.Memory = Unit {0}

-- a refusal that is not out of memory is the first fault of the bytes
abbrev pub IsFaultOf : List ℕ → Refused ReadFault → Type 0
IsFaultOf bytes (refused.Fault fault) = JsonFault bytes fault
IsFaultOf bytes refused.Memory = Unit {0}
