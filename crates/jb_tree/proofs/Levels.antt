-- What the outermost level of a value is, variant by variant.
use Rattle.std.proofs.Common.{◌≡◌, ℕ, List, rules}
use Rattle.std.specs.Str.{bytes_eq}
use Rattle.std.specs.Map.{lookup}
use Rattle.jb_tree.specs.Pointer.{item_named, child, decoded}
use Rattle.jb_tree.specs.declared.value.Value.{Value, Array, Object, the_lemmas}

pub child_array : (token : List ℕ) (items : List Value) → child token (Array items) ≡ item_named token 0 items
child_array token items = search (rules, the_lemmas)

pub child_object : (token : List ℕ) (members : List (List ℕ × Value)) → child token (Object members) ≡ lookup (bytes_eq (decoded token)) members
child_object token members = search (rules, the_lemmas)
