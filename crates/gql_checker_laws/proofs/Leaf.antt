-- A leaf that is the very value.
use Rattle.std.proofs.Common.{◌≡◌, Bool, true, false, refl, sym}
use Rattle.std.specs.Prelude.{◌↔◌, IsTrue}
use Rattle.jb_tree.specs.declared.value.Value.{Value}
use Rattle.gql_checker_laws.proofs.Identical.{identical_decides}
use Rattle.gql_checker_laws.specs.Identical.{is_identical}

pub leaf-is : (b : Bool) (leaf v : Value) → (IsTrue b ↔ (leaf ≡ v)) → b ≡ is_identical leaf v
leaf-is true leaf v h = sym ((identical_decides leaf v).1 (h.0 refl))
leaf-is false leaf v h = by (is_identical leaf v) refl
  where
    by : (t : Bool) → is_identical leaf v ≡ t → false ≡ t
    by false is = refl
    by true is = h.1 ((identical_decides leaf v).0 is)
