-- Texts piece by piece.
use Rattle.std.proofs.Common.{◌≡◌, ◌==◌, ◌++◌, ℕ, List, [], ◌∷◌, length, map, codes, Result, Ok, Err, Bool, true, false, ap, ◌∙◌, append_assoc}
use Rattle.std.specs.Prelude.{OnOk, is_ok, if◌then◌else◌}
use Rattle.gql_ast.specs.TypeText.{type_text}
use Rattle.gql_ast_base.specs.declared.type_ref.TypeRef.{TypeRef}
use Rattle.gql_sdl.specs.Forms.{implements_text}
use Rattle.gql_sdl.specs.Pieces.{joined}

behind : {T E : Type 0} (r : Result T E) (new mid out one other : List ℕ) → mid ≡ out ++ one → OnOk r (new ≡ mid ++ other) → OnOk r (new ≡ out ++ (one ++ other))
behind (Ok x) new mid out one other e h = h ∙ ap (λ (t : List ℕ). t ++ other) e ∙ append_assoc out one other
behind (Err x) new mid out one other e h = tt

-- three pieces, the last of them written or not
pub pushed : {T E : Type 0} (r : Result T E) (new later mid out one two three : List ℕ) → mid ≡ out ++ one → later ≡ mid ++ two
    → new ≡ (if is_ok r then later ++ three else later) → OnOk r (new ≡ out ++ (one ++ (two ++ three)))
pushed (Ok x) new later mid out one two three e f h =
    h ∙ ap (λ (t : List ℕ). t ++ three) (f ∙ ap (λ (t : List ℕ). t ++ two) e)
    ∙ append_assoc (out ++ one) two three ∙ append_assoc out one (two ++ three)
pushed (Err x) new later mid out one two three e f h = tt

pub implements_behind : {T E : Type 0} (r : Result T E) (new mid out : List ℕ) (types : List TypeRef) → (length types == 0) ≡ false
    → mid ≡ out ++ codes " implements " → OnOk r (new ≡ mid ++ joined (codes " & ") (map type_text types)) → OnOk r (new ≡ out ++ implements_text types)
implements_behind r new mid out [] some e h = absurd (cc)
implements_behind r new mid out (ty ∷ types) some e h =
    behind r new mid out (codes " implements ") (joined (codes " & ") (map type_text (ty ∷ types))) e h
