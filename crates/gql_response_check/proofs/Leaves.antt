-- Parts of a response, as the code looks at them.
use Rattle.std.proofs.Common.{rules, arith, ◌≡◌, ℕ, zero, suc, Bool, true, false, nat_eq, List, [], ◌∷◌, length, Option, Some, refl, sym, ap, ◌∙◌}
use Rattle.std.specs.Prelude.{◌&&◌, if◌then◌else◌, option_to_list}
use Rattle.gql_checker_laws.specs.Reported.{items_of}
use Rattle.gql_checker_laws.specs.Shares.{same_number}
use Rattle.gql_checker_laws.proofs.Sharing.{same-is}
use Rattle.gql_response.specs.declared.path.ResponseDataPathSegment.TheVariants.{ListIndex}
use Rattle.gql_resolvers.specs.Trail.{Segment}
use Rattle.gql_source.specs.declared.line_column.LineColumn.{LineColumn}
use Rattle.gql_checker_laws.specs.Claims.{Claim, share_one}
use Rattle.gql_checker_laws.specs.Shows.{same_place, same_places}
use Rattle.gql_checker_laws.specs.Walk.{kept_if, of_length, same_length}
use Rattle.jb_tree.specs.Value.{array_items}
use Rattle.jb_tree.specs.declared.value.Value.{Value}

none-left : (rest : List LineColumn) → nat_eq (length rest) 0 ≡ same_places rest []
none-left [] = refl
none-left (place ∷ places) = search rules

-- where the first of the locations is the place, they are it alone where no other is left
pub alone : (locations rest : List LineColumn) (given : Option LineColumn) (first place : LineColumn) (empty : Bool) → locations ≡ first ∷ rest
    → given ≡ Some place → same_place first place ≡ true → empty ≡ nat_eq (length rest) 0 → empty ≡ same_places locations (option_to_list given)
alone locations rest given first place empty is some same left =
    left ∙ none-left rest ∙ sym (ap (λ b. b && same_places rest []) same) ∙ sym (ap (λ l. same_places l (place ∷ [])) is)
    ∙ sym (ap (λ (o : Option LineColumn). same_places locations (option_to_list o)) some)

-- a value that is an array of this length, or of another one
pub items-kept : (n : ℕ) (v : Option Value) (u : Value) (items : List Value) (b : Bool) → v ≡ Some u → array_items u ≡ Some items → same_length n items ≡ b
    → kept_if b items ≡ items_of n v
items-kept n v u items b is array sized =
    sym (ap (λ t. kept_if t items) sized) ∙ sym (ap (of_length n) array) ∙ sym (ap (λ (o : Option Value). items_of n o) is)

pub length-same : (n : ℕ) (vs : List Value) → length vs ≡ n → same_length n vs ≡ true
length-same zero [] is = refl
length-same zero (v ∷ vs) is = absurd (omega (arith, is))
length-same (suc n) [] is = absurd (omega (arith, is))
length-same (suc n) (v ∷ vs) is = length-same n vs (omega (arith, is))

pub length-other : (n : ℕ) (vs : List Value) → (length vs ≡ n → ⊥) → same_length n vs ≡ false
length-other zero [] not = absurd (not refl)
length-other zero (v ∷ vs) not = refl
length-other (suc n) [] not = refl
length-other (suc n) (v ∷ vs) not = length-other n vs (λ is. not (ap suc is))

-- a claim that goes on by an index is shared by it
pub by-index : (at index : ℕ) (c : Claim) (rest whole : List Segment) → whole ≡ ListIndex at ∷ rest
    → (if same_number index at then record c { rest = rest } ∷ [] else []) ≡ share_one (ListIndex index) c whole
by-index at index c rest whole is =
    ap (λ b. if b then record c { rest = rest } ∷ [] else []) (same-is index at) ∙ sym (ap (share_one (ListIndex index) c) is)
