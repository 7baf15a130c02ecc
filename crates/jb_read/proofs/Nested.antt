-- Values by their first byte, and what stands between brackets.
use Rattle.std.proofs.Common.{◌≡◌, ℕ, zero, suc, Bool, true, false, List, [], ◌∷◌, drop, Some, Result, Ok, Err, refl, sym, ap, ◌∙◌}
use Rattle.std.proofs.lemmas.Bool.{ne_eqb}
use Rattle.std.specs.Prelude.{if◌then◌else◌}
use Rattle.jb_text.specs.declared.refused.Refused.{Refused}
use Rattle.jb_text.specs.declared.refused.Refused.TheVariants as refused
use Rattle.jb_tree.specs.declared.value.Value.{Value}
use Rattle.jb_tree.specs.declared.value.Value.TheVariants as value
use Rattle.jb_read.specs.declared.fault.Broken.{Broken}
use Rattle.jb_read.specs.declared.fault.FaultKind.TheVariants.{Depth}
use Rattle.jb_read.specs.Bytes.{skip_white}
use Rattle.jb_read.specs.bridge.Bytes.{first}
use Rattle.jb_read.specs.Reading.{◌>>=◌, broken}
use Rattle.jb_read.specs.bridge.Reading.{Fails}
use Rattle.jb_read.specs.Values.{begins_with, item_at, member_at, array_at, object_at, scalar_at, value_at}
use Rattle.jb_read.proofs.Turns.{Goes, Goes-start}

pub array_at_empty : (inner : List ℕ → Result (Value × List ℕ) Broken) (at : List ℕ) → begins_with 93 (skip_white at) ≡ true → array_at inner at ≡ Ok ([], drop 1 (skip_white at))
unfolding array_at
array_at_empty inner at closed = rw closed refl

pub Goes-array : (inner : List ℕ → Result (Value × List ℕ) Broken) (at : List ℕ) → begins_with 93 (skip_white at) ≡ false → Goes (item_at inner) [] (skip_white at) (array_at inner at)
unfolding array_at
Goes-array inner at closed = rw closed (Goes-start (item_at inner) [] (skip_white at))

pub object_at_empty : (inner : List ℕ → Result (Value × List ℕ) Broken) (at : List ℕ) → begins_with 125 (skip_white at) ≡ true → object_at inner at ≡ Ok ([], drop 1 (skip_white at))
unfolding object_at
object_at_empty inner at closed = rw closed refl

pub Goes-object : (inner : List ℕ → Result (Value × List ℕ) Broken) (at : List ℕ) → begins_with 125 (skip_white at) ≡ false → Goes (member_at inner) [] (skip_white at) (object_at inner at)
unfolding object_at
Goes-object inner at closed = rw closed (Goes-start (member_at inner) [] (skip_white at))

pub value_at_array : (depth inner : ℕ) (at : List ℕ) → depth ≡ suc inner → first at ≡ Some 91 → value_at depth at ≡ (array_at (value_at inner) (drop 1 at) >>= λ array. Ok (value.Array array.0, array.1))
unfolding value_at
value_at_array depth inner [] d e = absurd cc
value_at_array depth inner (b ∷ at) d e = let same : b ≡ 91 = cc in rw (d, same) refl

pub value_at_object : (depth inner : ℕ) (at : List ℕ) → depth ≡ suc inner → first at ≡ Some 123 → value_at depth at ≡ (object_at (value_at inner) (drop 1 at) >>= λ object. Ok (value.Object object.0, object.1))
unfolding value_at
value_at_object depth inner [] d e = absurd cc
value_at_object depth inner (b ∷ at) d e = let same : b ≡ 123 = cc in rw (d, same) refl

pub value_at_deep_array : (depth : ℕ) (at : List ℕ) → depth ≡ 0 → first at ≡ Some 91 → value_at depth at ≡ Err (broken Depth at)
unfolding value_at
value_at_deep_array depth [] d e = absurd cc
value_at_deep_array depth (b ∷ at) d e = let same : b ≡ 91 = cc in rw (d, same) refl

pub value_at_deep_object : (depth : ℕ) (at : List ℕ) → depth ≡ 0 → first at ≡ Some 123 → value_at depth at ≡ Err (broken Depth at)
unfolding value_at
value_at_deep_object depth [] d e = absurd cc
value_at_deep_object depth (b ∷ at) d e = let same : b ≡ 123 = cc in rw (d, same) refl

pub value_at_scalar : (depth : ℕ) (at : List ℕ) → (first at ≡ Some 91 → ⊥) → (first at ≡ Some 123 → ⊥) → value_at depth at ≡ scalar_at at
unfolding value_at
value_at_scalar zero [] a o = refl
value_at_scalar (suc depth) [] a o = refl
value_at_scalar zero (b ∷ at) a o =
    let not_array = ne_eqb b 91 (λ e. a (ap (λ (x : ℕ). Some x) e)) in
    let not_object = ne_eqb b 123 (λ e. o (ap (λ (x : ℕ). Some x) e)) in
    rw (not_array, not_object) refl
value_at_scalar (suc depth) (b ∷ at) a o =
    let not_array = ne_eqb b 91 (λ e. a (ap (λ (x : ℕ). Some x) e)) in
    let not_object = ne_eqb b 123 (λ e. o (ap (λ (x : ℕ). Some x) e)) in
    rw (not_array, not_object) refl

-- what the code knows behind white space, where the closing bracket stands and where it doesn't
pub array_closed : (inner : List ℕ → Result (Value × List ℕ) Broken) (at inside rest : List ℕ) (items : List Value) (taken : Bool) → items ≡ [] → inside ≡ skip_white at → taken ≡ begins_with 93 inside
    → rest ≡ (if begins_with 93 inside then drop 1 inside else inside) → taken ≡ true → array_at inner at ≡ Ok (items, rest)
array_closed inner at inside rest items taken items-is inside-is taken-is rest-is stands =
    let here : begins_with 93 inside ≡ true = sym taken-is ∙ stands in
    let closed : begins_with 93 (skip_white at) ≡ true = rw inside-is at here in
    let rest' : rest ≡ drop 1 (skip_white at) = rest-is ∙ rw (here, inside-is) refl in
    array_at_empty inner at closed ∙ rw (items-is, rest') refl

pub array_open : (inner : List ℕ → Result (Value × List ℕ) Broken) (at inside rest : List ℕ) (items : List Value) (taken : Bool) → items ≡ [] → inside ≡ skip_white at → taken ≡ begins_with 93 inside
    → rest ≡ (if begins_with 93 inside then drop 1 inside else inside) → taken ≡ false → Goes (item_at inner) items rest (array_at inner at)
array_open inner at inside rest items taken items-is inside-is taken-is rest-is absent =
    let here : begins_with 93 inside ≡ false = sym taken-is ∙ absent in
    let open_yet : begins_with 93 (skip_white at) ≡ false = rw inside-is at here in
    let rest' : rest ≡ skip_white at = rest-is ∙ rw (here, inside-is) refl in
    rw (items-is, rest') (Goes-array inner at open_yet)

pub object_closed : (inner : List ℕ → Result (Value × List ℕ) Broken) (at inside rest : List ℕ) (members : List (List ℕ × Value)) (taken : Bool) → members ≡ [] → inside ≡ skip_white at → taken ≡ begins_with 125 inside
    → rest ≡ (if begins_with 125 inside then drop 1 inside else inside) → taken ≡ true → object_at inner at ≡ Ok (members, rest)
object_closed inner at inside rest members taken members-is inside-is taken-is rest-is stands =
    let here : begins_with 125 inside ≡ true = sym taken-is ∙ stands in
    let closed : begins_with 125 (skip_white at) ≡ true = rw inside-is at here in
    let rest' : rest ≡ drop 1 (skip_white at) = rest-is ∙ rw (here, inside-is) refl in
    object_at_empty inner at closed ∙ rw (members-is, rest') refl

pub object_open : (inner : List ℕ → Result (Value × List ℕ) Broken) (at inside rest : List ℕ) (members : List (List ℕ × Value)) (taken : Bool) → members ≡ [] → inside ≡ skip_white at → taken ≡ begins_with 125 inside
    → rest ≡ (if begins_with 125 inside then drop 1 inside else inside) → taken ≡ false → Goes (member_at inner) members rest (object_at inner at)
object_open inner at inside rest members taken members-is inside-is taken-is rest-is absent =
    let here : begins_with 125 inside ≡ false = sym taken-is ∙ absent in
    let open_yet : begins_with 125 (skip_white at) ≡ false = rw inside-is at here in
    let rest' : rest ≡ skip_white at = rest-is ∙ rw (here, inside-is) refl in
    rw (members-is, rest') (Goes-object inner at open_yet)

-- a value that is an array or an object, read or broken as that is
pub value_reads_array : (depth inner : ℕ) (at inside rest : List ℕ) (items : List Value) → depth ≡ suc inner → first at ≡ Some 91 → inside ≡ drop 1 at
    → array_at (value_at inner) inside ≡ Ok (items, rest) → value_at depth at ≡ Ok (value.Array items, rest)
value_reads_array depth inner at inside rest items d e inside-is read =
    let read' : array_at (value_at inner) (drop 1 at) ≡ Ok (items, rest) = rw inside-is at read in
    value_at_array depth inner at d e ∙ rw read' refl

pub value_breaks_array : (depth inner : ℕ) (at inside : List ℕ) (e : Refused Broken) → depth ≡ suc inner → first at ≡ Some 91 → inside ≡ drop 1 at
    → Fails e (array_at (value_at inner) inside) → Fails e (value_at depth at)
value_breaks_array depth inner at inside (refused.Fault broken) d e inside-is read =
    let read' : array_at (value_at inner) (drop 1 at) ≡ Err broken = rw inside-is at read in
    value_at_array depth inner at d e ∙ rw read' refl
value_breaks_array depth inner at inside refused.Memory d e inside-is read = tt

pub value_reads_object : (depth inner : ℕ) (at inside rest : List ℕ) (members : List (List ℕ × Value)) → depth ≡ suc inner → first at ≡ Some 123 → inside ≡ drop 1 at
    → object_at (value_at inner) inside ≡ Ok (members, rest) → value_at depth at ≡ Ok (value.Object members, rest)
value_reads_object depth inner at inside rest members d e inside-is read =
    let read' : object_at (value_at inner) (drop 1 at) ≡ Ok (members, rest) = rw inside-is at read in
    value_at_object depth inner at d e ∙ rw read' refl

pub value_breaks_object : (depth inner : ℕ) (at inside : List ℕ) (e : Refused Broken) → depth ≡ suc inner → first at ≡ Some 123 → inside ≡ drop 1 at
    → Fails e (object_at (value_at inner) inside) → Fails e (value_at depth at)
value_breaks_object depth inner at inside (refused.Fault broken) d e inside-is read =
    let read' : object_at (value_at inner) (drop 1 at) ≡ Err broken = rw inside-is at read in
    value_at_object depth inner at d e ∙ rw read' refl
value_breaks_object depth inner at inside refused.Memory d e inside-is read = tt
