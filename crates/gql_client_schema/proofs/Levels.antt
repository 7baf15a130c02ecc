-- The levels of a reference to a type.
use Rattle.std.proofs.Common.{◌≡◌, ◌<◌, ◌-◌, ℕ, zero, suc, Result, Option, codes, subst, arith}
use Rattle.std.specs.Map.{lookup}
use Rattle.std.specs.Str.{bytes_eq}
use Rattle.jb_text.specs.declared.refused.Refused.{Refused}
use Rattle.gql_ast_base.specs.declared.type_ref.TypeRef.{TypeRef}
use Rattle.gql_client_schema.specs.Members.{Members}
use Rattle.gql_client_schema.specs.Reading.{Answers, Steps, member, under}
use Rattle.gql_client_schema.specs.References.{inner}
use Rattle.gql_client_schema.specs.bridge.References.{inside}

-- where levels are left, `ofType` is what is inside it
pub inner_more : (left : ℕ) (members : Members) (r : Result (Option TypeRef) (Refused Steps)) → 0 < left
    → Answers (under (member (codes "ofType")) (inside (left - 1) (lookup (bytes_eq (codes "ofType")) members))) r → Answers (inner left members) r
unfolding inner
inner_more zero members r some h = absurd (omega (arith, some))
inner_more (suc left) members r some h =
    let e : suc left - 1 ≡ left = omega arith in
    subst (λ (n : ℕ). Answers (under (member (codes "ofType")) (inside n (lookup (bytes_eq (codes "ofType")) members))) r) e h
