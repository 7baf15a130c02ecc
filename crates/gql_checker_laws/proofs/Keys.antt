-- Keys of members, beside those of parts; marks; and numbers of errors.
use Rattle.std.proofs.Common.{arith, ◌≡◌, ℕ, zero, suc, ◌+◌, ◌<◌, ◌≤◌, Bool, true, false, List, [], ◌∷◌, length, drop, get_or, set, Option, Some, None, slice_get, refl, sym, ap, ◌∙◌, subst}
use Rattle.std.specs.Prelude.{◌&&◌}
use Rattle.std.specs.Map.{keys_of}
use Rattle.std.specs.Option.{option_map_or}
use Rattle.std.specs.Str.{bytes_eq}
use Rattle.std.proofs.Math.ListN.{drop_of_length-le}
use Rattle.gql_collect.specs.Plan.{group_in, groups_in}
use Rattle.gql_collect.specs.declared.plan.Part.{Part}
use Rattle.gql_resolvers.specs.Execute.{Member}
use Rattle.gql_exec.proofs.Measures.{drop-item}
use Rattle.gql_checker_laws.specs.Claims.{first_missing, one_later}
use Rattle.gql_checker_laws.specs.Findings.{further, with_told}
use Rattle.gql_checker_laws.specs.Reported.{have_keys, key_in}
use Rattle.gql_checker_laws.specs.Findings.{Findings}

-- as many members as parts, or other keys
pub keys-sized : (parts : List Part) (ms : List Member) → (length ms ≡ length parts → ⊥) → false ≡ have_keys (groups_in parts) ms
keys-sized [] [] apart = absurd (apart refl)
keys-sized [] (m ∷ ms) apart = refl
keys-sized (p ∷ ps) [] apart = refl
keys-sized (p ∷ ps) (m ∷ ms) apart =
    by (bytes_eq (key_in (group_in p)) m.0) (have_keys (groups_in ps) ms) (keys-sized ps ms (λ same. apart (omega (arith, same))))
  where
    by : (b rest : Bool) → false ≡ rest → false ≡ (b && rest)
    by false rest is = refl
    by true rest is = is

keys-next : (parts : List Part) (ms : List Member) (i : ℕ) (key : List ℕ) (b : Bool) → length ms ≡ length parts → i < length parts → slice_get (keys_of ms) i ≡ Some key
    → b ≡ option_map_or (λ part. bytes_eq (key_in (group_in part)) key) (slice_get parts i) false
    → have_keys (drop i (groups_in parts)) (drop i ms) ≡ (b && have_keys (drop (suc i) (groups_in parts)) (drop (suc i) ms))
keys-next [] ms i key b sized within is test = absurd (omega (arith, within))
keys-next (p ∷ ps) [] i key b sized within is test = absurd (omega (arith, sized))
keys-next (p ∷ ps) (m ∷ ms) zero key b sized within is test =
    let same : m.0 ≡ key = (let e : Some m.0 ≡ Some key = is in cc) in
    ap (λ k. bytes_eq (key_in (group_in p)) k && have_keys (groups_in ps) ms) same ∙ ap (λ t. t && have_keys (groups_in ps) ms) (sym test)
keys-next (p ∷ ps) (m ∷ ms) (suc i) key b sized within is test = keys-next ps ms i key b (omega (arith, sized)) (omega (arith, within)) is test

pub keys-more : (parts : List Part) (ms : List Member) (i : ℕ) (key : List ℕ) (b : Bool) → length ms ≡ length parts → i < length parts → slice_get (keys_of ms) i ≡ Some key
    → b ≡ option_map_or (λ part. bytes_eq (key_in (group_in part)) key) (slice_get parts i) false
    → have_keys (drop i (groups_in parts)) (drop i ms) ≡ (b && have_keys (drop (i + 1) (groups_in parts)) (drop (i + 1) ms))
keys-more parts ms i key b sized within is test =
    subst (λ j. have_keys (drop i (groups_in parts)) (drop i ms) ≡ (b && have_keys (drop j (groups_in parts)) (drop j ms)))
    (let e : suc i ≡ i + 1 = omega arith in e) (keys-next parts ms i key b sized within is test)

-- a mark past the end is none
pub set-past : (marks : List Bool) (n : ℕ) (b : Bool) → slice_get marks n ≡ None → set marks n b ≡ marks
set-past [] n b is = refl
set-past (m ∷ ms) zero b is = absurd (let e : Some m ≡ None = is in cc)
set-past (m ∷ ms) (suc n) b is = ap (λ l. m ∷ l) (set-past ms n b is)

pub further-none : (o : Option ℕ) → further 0 o ≡ o
further-none None = refl
further-none (Some k) = ap Some (let e : 0 + k ≡ k = omega arith in e)

further-later : (n : ℕ) (o : Option ℕ) → further n (one_later o) ≡ further (n + 1) o
further-later n None = refl
further-later n (Some k) = ap Some (let e : n + suc k ≡ n + 1 + k = omega arith in e)

pub missing-more : (marks : List Bool) (i : ℕ) → i < length marks → true ≡ get_or marks i true → further i (first_missing (drop i marks)) ≡ further (i + 1) (first_missing (drop (i + 1) marks))
missing-more marks i within is = ap (λ l. further i (first_missing l)) (drop-item marks i true within is) ∙ further-later i (first_missing (drop (i + 1) marks))

pub missing-here : (marks : List Bool) (i : ℕ) → i < length marks → false ≡ get_or marks i false → Some i ≡ further i (first_missing (drop i marks))
missing-here marks i within is =
    ap Some (let e : i ≡ i + 0 = omega arith in e) ∙ sym (ap (λ l. further i (first_missing l)) (drop-item marks i false within is))

pub missing-end : (marks : List Bool) (i : ℕ) → length marks ≤ i → None ≡ further i (first_missing (drop i marks))
missing-end marks i past = sym (ap (λ l. further i (first_missing l)) (drop_of_length-le marks past))

pub told-past : (it : Findings) (n : ℕ) → slice_get it.told n ≡ None → it ≡ with_told n it
told-past it n none = ap (λ (marks : List Bool). record it { told = marks }) (sym (set-past it.told n true none))
