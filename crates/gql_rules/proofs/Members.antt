-- The members of object literals, of which the last may be the one of a literal at a one-of input object.
use Rattle.std.proofs.Common.{◌≡◌, ℕ, ◌+◌, ◌-◌, ◌<◌, Bool, List, [], ◌∷◌, ◌++◌, length, drop, get_or, map, Option, if◌then◌else◌, refl, sym, ap, ◌∙◌, append_assoc, arith, suc, drop-cons, length-drop}
use Rattle.std.proofs.lemmas.List.{length-map}
use Rattle.std.proofs.lemmas.List.Folds.{list_all-map}
use Rattle.std.specs.Str.{bytes_eq}
use Rattle.gql_ast_base.specs.Names.{Named}
use Rattle.gql_ast_base.specs.declared.value.Value.{Value}
use Rattle.gql_source.specs.Span.{Span}
use Rattle.gql_rules.specs.Uses.{Place, Use, ValueUses, each_uses, member_place, of_last, value_uses}
use Rattle.gql_rules_values.specs.OneOfValue.{has_one_key}
use Rattle.gql_schema_types.specs.declared.types.ExtendedType.{ExtendedType}

-- ---- the keys, whatever stands beside them
module _ {X Y : Type 0} (f : X → Y) where
  abbrev pub beside : Named × X → Named × Y
  beside member = (member.0, f member.1)

  pub same_keys : (members : List (Named × X)) → has_one_key (map beside members) ≡ has_one_key members
  same_keys [] = refl
  same_keys (first ∷ others) = list_all-map (λ (other : Named × Y). bytes_eq first.0.text other.0.text) beside others

  pub chosen : {O : Type 0} (members : List (Named × X)) (found none : O) (one b : Bool) → one ≡ has_one_key members → one ≡ b
      → (if b then found else none) ≡ (if has_one_key (map beside members) then found else none)
  chosen members found none one b is test = ap (λ k. if k then found else none) (sym test ∙ is ∙ sym (same_keys members))

-- ---- one member more
module _ (types : List ExtendedType) (literal : Option Span) (place : Place) (one_of : Option Named) where
  abbrev pub with_uses : Named × Value → Named × ValueUses
  with_uses member = (member.0, value_uses types member.1)

  abbrev pub uses_from : List (Named × Value) → List Use
  uses_from members = each_uses types literal place one_of (map with_uses members)

  pub each_step : (members : List (Named × Value)) (i left : ℕ) (member : Named × Value) (before new all : List Use)
      → i < length members → member ≡ get_or members i member → left + (i + 1) ≡ length members
      → new ≡ before ++ value_uses types member.1 (member_place types place member.0 (of_last left one_of) literal)
      → before ++ uses_from (drop i members) ≡ all → new ++ uses_from (drop (i + 1) members) ≡ all
  each_step members i left member before new all within is count added so_far =
      let next : suc i ≡ i + 1 = omega arith in
      let rest = drop (i + 1) members in
      let first : drop i members ≡ member ∷ rest =
      drop-cons members i member within ∙ ap (λ m. m ∷ drop (suc i) members) (sym is) ∙ ap (λ n. member ∷ drop n members) next in
      let behind : length members - (i + 1) ≡ left = omega (arith, count) in
      let here : ℕ → List Use = λ n. value_uses types member.1 (member_place types place member.0 (of_last n one_of) literal) in
      let last : left ≡ length (map with_uses rest) = sym (length-map rest with_uses ∙ length-drop (i + 1) members ∙ behind) in
      ap (λ l. l ++ uses_from rest) (added ∙ ap (λ n. before ++ here n) last)
      ∙ append_assoc before (here (length (map with_uses rest))) (uses_from rest)
      ∙ ap (λ l. before ++ uses_from l) (sym first)
      ∙ so_far
