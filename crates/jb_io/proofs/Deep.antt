-- What is printed of a value that is too deep.
use Rattle.std.proofs.Common.{◌≡◌, ℕ, ◌-◌, ◌<◌, inl, inr, [], length, Result, Ok, Err, ap, ◌∙◌, arith}
use Rattle.jb_tree.specs.declared.value.Value.{Value}
use Rattle.jb_tree.specs.Tree.{tree}
use Rattle.jb_print.specs.Compact.{compact}
use Rattle.jb_read.specs.declared.fault.Broken.{Broken}
use Rattle.jb_read.specs.declared.fault.FaultKind.{FaultKind}
use Rattle.jb_read.specs.Bytes.{skip_white}
use Rattle.jb_read.specs.Reading.{◌>>=◌}
use Rattle.jb_read.specs.Texts.{placed, text_value}
use Rattle.jb_read.specs.Values.{first_value, ended, whole_value}
use Rattle.jb_read.proofs.Complete.{spells_complete}
use Rattle.jb_io.specs.Proper.{IsProper, depth}
use Rattle.jb_io.proofs.Printed.{text_spelled}
use Rattle.jb_io.proofs.Settled.{settles}
use Rattle.jb_io.specs.Levels.{IsDeep, IsAlikeOrDeep, is_deep_at}
use Rattle.jb_io.proofs.Alike.{whole_alike}
use Rattle.jb_io.proofs.Nested.{whole_nested}

-- with as many levels as the value has it is read
reads_itself : (v : Value) → IsProper (tree v) → whole_value (depth (tree v)) (compact v) ≡ Ok v
unfolding whole_value first_value
reads_itself v proper =
    let read = spells_complete (tree v) (depth (tree v)) (skip_white (compact v)) [] (text_spelled (tree v) (depth (tree v)) proper (omega arith)) in
    ap (λ r. r >>= λ read. ended read.0 (skip_white read.1)) read ∙ ap (λ w. Ok w) (settles v proper)

placed_deep : (len : ℕ) (r : Result Value Broken) → IsDeep r → (place : ℕ) × (placed len r ≡ Err (is_deep_at place))
placed_deep len (Ok x) deep = absurd deep
placed_deep len (Err stop) deep = (len - stop.left, ap (λ (kind : FaultKind). Err (record { kind = kind; place = len - stop.left })) deep)

pub deep_refused : (v : Value) → IsProper (tree v) → 127 < depth (tree v) → (place : ℕ) × (text_value (compact v) ≡ Err (is_deep_at place))
deep_refused v proper deep = by_levels (whole_alike 127 (depth (tree v)) (compact v) (omega (arith, deep)))
  where
    by_levels : IsAlikeOrDeep (whole_value 127 (compact v)) (whole_value (depth (tree v)) (compact v)) → (place : ℕ) × (text_value (compact v) ≡ Err (is_deep_at place))
    by_levels (inl same) = absurd (omega (arith, deep, whole_nested 127 (compact v) v (same ∙ reads_itself v proper)))
    by_levels (inr is) = placed_deep (length (compact v)) (whole_value 127 (compact v)) is
