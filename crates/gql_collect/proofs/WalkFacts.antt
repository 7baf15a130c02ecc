-- A walk that enters each fragment once finds what flat selections have, repeats aside.
use Rattle.std.proofs.Common.{arith, ◌≡◌, ℕ, zero, suc, ◌<◌, ◌≤◌, Bool, true, false, cond, not, ◌&&◌, List, [], ◌∷◌, ◌++◌, length, set, replicate, ◌⊎◌, inl, inr, Option, Some, None, slice_get, refl, sym, ap, ◌∙◌, subst, append_assoc, lt_irrefl}
use Rattle.std.specs.List.{find}
use Rattle.std.specs.Option.{unwrap_or}
use Rattle.std.specs.Prelude.{option_to_list}
use Rattle.std.proofs.lemmas.Bool.{cases_lt}
use Rattle.std.proofs.lemmas.List.{append-nil, length-set}
use Rattle.gql_schema_types.specs.Entries.{is_called}
use Rattle.gql_schema_types.proofs.Lookups.{place_within}
use Rattle.gql_document_types.specs.RootFields.{fragment_name}
use Rattle.gql_document_types.specs.Spreads.{spread_numbers}
use Rattle.gql_document_types.specs.declared.selection.Field.{Field}
use Rattle.gql_document_types.specs.declared.selection.FragmentSpread.{FragmentSpread}
use Rattle.gql_document_types.specs.declared.selection.Selection.{Selection, out-Selection}
use Rattle.gql_document_types.specs.declared.selection.Selection.TheOpen.{Selection-F}
use Rattle.gql_collect.specs.Applies.{applies_if}
use Rattle.gql_collect.specs.Flat.{Shape, when, contents, body, field_of, opened}
use Rattle.gql_collect.specs.Kept.{is_kept}
use Rattle.gql_document_types.specs.Ranks.{AreRanked}
use Rattle.gql_collect.specs.Same.{SameFirst}
use Rattle.gql_collect.specs.Setting.{Setting}
use Rattle.gql_collect.specs.bridge.Walk.{number_of, is_new, mark, marked, gone_into, Walks, walked_all, walked_on, WalksAll, no_more, list_first}
use Rattle.gql_collect.proofs.Numbers.{AreBelow, shape_numbers, first-below, rest-below, when-below, below-all, contents-below, body-is, body-none}
use Rattle.gql_collect.proofs.SameFacts.{same-append, same-known, same-twice}
use Rattle.gql_collect.proofs.Unentered.{new-mark}

-- Flat selections as a relation.
pub data IsFlat (s : Setting) : List Selection → List Field → Type 0 where
  flat_none : IsFlat s [] []
  flat_on : {x : Selection} {rest : List Selection} {inner others : List Field} → IsFlat s (opened s (out-Selection x)) inner → IsFlat s rest others
      → IsFlat s (x ∷ rest) (field_of s (out-Selection x) ++ (inner ++ others))

flat-nothing : {s : Setting} {xs : List Selection} {fields : List Field} → xs ≡ [] → IsFlat s xs fields → fields ≡ []
flat-nothing e flat_none = refl
flat-nothing e (flat_on v w) = absurd cc

-- Marks.

marked-set : (m : List Bool) (f g : ℕ) → slice_get (set m f true) g ≡ Some true → (g ≡ f) ⊎ (slice_get m g ≡ Some true)
marked-set [] f g e = inr e
marked-set (b ∷ m) zero zero e = inl refl
marked-set (b ∷ m) zero (suc g) e = inr e
marked-set (b ∷ m) (suc f) zero e = inr e
marked-set (b ∷ m) (suc f) (suc g) e = elim (marked-set m f g e) [ inl same ↦ inl (ap suc same) | inr there ↦ inr there ]

set-other : (m : List Bool) (f g : ℕ) (v : Bool) → (g ≡ f → ⊥) → slice_get (set m f v) g ≡ slice_get m g
set-other [] f g v ne = refl
set-other (b ∷ m) zero zero v ne = absurd (ne refl)
set-other (b ∷ m) zero (suc g) v ne = refl
set-other (b ∷ m) (suc f) zero v ne = refl
set-other (b ∷ m) (suc f) (suc g) v ne = set-other m f g v (λ same. ne (ap suc same))

not-past : (m : List Bool) (f : ℕ) → f < length m → slice_get m f ≡ None → ⊥
not-past [] f h e = omega arith
not-past (b ∷ m) zero h e = cc
not-past (b ∷ m) (suc f) h e = not-past m f (omega arith) e

module _ (s : Setting) (rank : ℕ → ℕ) (ranked : AreRanked s.fragments rank) where
  -- the contents of an entered fragment of small rank add nothing to what was found
  abbrev pub Known : List Bool → ℕ → List Field → Type 0
  Known m r seen = (f : ℕ) → slice_get m f ≡ Some true → rank f < r
      → (flat : List Field) × IsFlat s (contents s (slice_get s.fragments f)) flat × SameFirst (seen ++ flat) seen

  pub record Collected (m : List Bool) (r : ℕ) (seen : List Field) (xs : List Selection) (fields : List Field) (n : List Bool) : Type 0 where
    pub flat : List Field
    pub is_flat : IsFlat s xs flat
    pub same : SameFirst (seen ++ fields) (seen ++ flat)
    pub known : Known n r (seen ++ fields)
    pub untouched : (f : ℕ) → r ≤ rank f → slice_get n f ≡ slice_get m f
    pub sized : length n ≡ length m

  known-more : (m : List Bool) (r : ℕ) (seen more : List Field) → Known m r seen → Known m r (seen ++ more)
  known-more m r seen more known f entered less =
      let at = known f entered less in
      (at.0, at.1, same-known seen more at.0 at.2)

  known-inside : (m : List Bool) (r : ℕ) (seen : List Field) (f : ℕ) → rank f < r → Known m r seen → Known (set m f true) (rank f) seen
  known-inside m r seen f below known g entered less = by (marked-set m f g entered)
    where
      by : ((g ≡ f) ⊎ (slice_get m g ≡ Some true)) → (flat : List Field) × IsFlat s (contents s (slice_get s.fragments g)) flat × SameFirst (seen ++ flat) seen
      by (inl same) = absurd (lt_irrefl (rank f) (subst (λ h. rank h < rank f) same less))
      by (inr there) = known g there (omega arith)

  known-outside : (m between : List Bool) (r : ℕ) (seen inner : List Field) (f : ℕ) → rank f < r → Known m r seen
      → Collected (set m f true) (rank f) seen (contents s (slice_get s.fragments f)) inner between → Known between r (seen ++ inner)
  known-outside m between r seen inner f below known inside g entered less = by_rank (cases_lt (rank g) (rank f))
    where
      Goal : ℕ → Type 0
      Goal h = (flat : List Field) × IsFlat s (contents s (slice_get s.fragments h)) flat × SameFirst ((seen ++ inner) ++ flat) (seen ++ inner)

      by_mark : ((g ≡ f) ⊎ (slice_get m g ≡ Some true)) → Goal g
      by_mark (inl is) = subst Goal (sym is) (inside.flat, inside.is_flat, same-twice seen inner inside.flat inside.same)
      by_mark (inr there) = let at = known g there less in (at.0, at.1, same-known seen inner at.0 at.2)

      by_rank : ((rank g < rank f) ⊎ (rank f ≤ rank g)) → Goal g
      by_rank (inl small) = inside.known g entered small
      by_rank (inr large) = by_mark (marked-set m f g (sym (inside.untouched g large) ∙ entered))

  -- what a walk finds in the place of one selection
  record Inside (k : Shape) (m : List Bool) (r : ℕ) (seen inner : List Field) (between : List Bool) : Type 0 where
    pub flat : List Field
    pub is_flat : IsFlat s (opened s k) flat
    pub same : SameFirst (seen ++ inner) (seen ++ flat)
    pub known : Known between r (seen ++ inner)
    pub untouched : (f : ℕ) → r ≤ rank f → slice_get between f ≡ slice_get m f
    pub sized : length between ≡ length m

  -- how a walk through a list goes from any rank and any fields
  abbrev Goes : List Bool → List Selection → List Field → List Bool → Type 0
  Goes m xs fields n = (r : ℕ) (seen : List Field) → AreBelow rank r (spread_numbers s.fragments xs) → Known m r seen → length m ≡ length s.fragments → Collected m r seen xs fields n

  plain : (k : Shape) (m : List Bool) (r : ℕ) (seen inner : List Field) (between : List Bool) (xs : List Selection) → xs ≡ opened s k → Collected m r seen xs inner between → Inside k m r seen inner between
  plain k m r seen inner between xs is found = record {
    flat = found.flat;
    is_flat = subst (λ l. IsFlat s l found.flat) is found.is_flat;
    same = found.same;
    known = found.known;
    untouched = found.untouched;
    sized = found.sized;
  }

  module _ (it : FragmentSpread) (m : List Bool) (r : ℕ) (seen inner : List Field) (between : List Bool) where
    abbrev spread : Shape
    spread = Selection-F.FragmentSpread it

    followed : (f : ℕ) → number_of s it ≡ Some f → slice_get m f ≡ Some false → is_kept s.variables it.directives ≡ true → rank f < r → Known m r seen → length m ≡ length s.fragments
        → Goes (set m f true) (body s it.fragment_name.text) inner between → Inside spread m r seen inner between
    followed f at new kept less known sized goes =
        let is : body s it.fragment_name.text ≡ contents s (slice_get s.fragments f) = body-is s it.fragment_name.text f at in
        let found : Collected (set m f true) (rank f) seen (body s it.fragment_name.text) inner between =
        goes (rank f) seen (subst (λ l. AreBelow rank (rank f) (spread_numbers s.fragments l)) (sym is) (contents-below s rank ranked f))
        (known-inside m r seen f less known) (length-set m f true ∙ sized) in
        record {
          flat = found.flat;
          is_flat = subst (λ b. IsFlat s (when b (body s it.fragment_name.text)) found.flat) (sym kept) found.is_flat;
          same = found.same;
          known = known-outside m between r seen inner f less known (subst (λ l. Collected (set m f true) (rank f) seen l inner between) is found);
          untouched = λ g large. found.untouched g (omega (arith, large, less)) ∙ set-other m f g true (λ same. lt_irrefl (rank f) (omega (arith, ap rank same, large, less)));
          sized = found.sized ∙ length-set m f true;
        }

    -- one that is entered already
    again : (f : ℕ) → number_of s it ≡ Some f → slice_get m f ≡ Some true → is_kept s.variables it.directives ≡ true → rank f < r → Known m r seen
        → Collected m r seen [] inner between → Inside spread m r seen inner between
    again f at old kept less known found =
        let is : body s it.fragment_name.text ≡ contents s (slice_get s.fragments f) = body-is s it.fragment_name.text f at in
        let entered = known f old less in
        let nothing : found.flat ≡ [] = flat-nothing refl found.is_flat in
        record {
          flat = entered.0;
          is_flat = subst (λ b. IsFlat s (when b (body s it.fragment_name.text)) entered.0) (sym kept) (subst (λ l. IsFlat s l entered.0) (sym is) entered.1);
          same = λ p. found.same p ∙ ap (λ l. find p (seen ++ l)) nothing ∙ ap (find p) (append-nil seen) ∙ sym (entered.2 p);
          known = found.known;
          untouched = found.untouched;
          sized = found.sized;
        }

    unfollowed : (o : Option Bool) (f : ℕ) → slice_get m f ≡ o → number_of s it ≡ Some f → not (unwrap_or o true) ≡ false → is_kept s.variables it.directives ≡ true → rank f < r → Known m r seen → length m ≡ length s.fragments
        → Collected m r seen [] inner between → Inside spread m r seen inner between
    unfollowed None f is at stays kept less known sized found = absurd (not-past m f (omega (arith, sized, place_within (is_called fragment_name it.fragment_name.text) s.fragments f at)) is)
    unfollowed (Some true) f is at stays kept less known sized found = again f at is kept less known found
    unfollowed (Some false) f is at stays kept less known sized found = absurd cc

    numbers-at : (f : ℕ) → number_of s it ≡ Some f → AreBelow rank r (shape_numbers s.fragments spread) → rank f < r
    numbers-at f at below = (subst (λ o. AreBelow rank r (option_to_list o)) at below).0

    by_number : (n : Option ℕ) → number_of s it ≡ n → is_kept s.variables it.directives ≡ true → AreBelow rank r (shape_numbers s.fragments spread) → Known m r seen → length m ≡ length s.fragments
        → Goes (cond (is_new s m n) (mark s m n) m) (when (is_new s m n) (body s it.fragment_name.text)) inner between → Inside spread m r seen inner between
    by_number None at kept below known sized goes =
        plain spread m r seen inner between [] (sym (ap (λ b. when b (body s it.fragment_name.text)) kept ∙ body-none s it.fragment_name.text at)) (goes r seen tt known sized)
    by_number (Some f) at kept below known sized goes = by_test (is_new s m (Some f)) refl goes
      where
        by_test : (b : Bool) → is_new s m (Some f) ≡ b → Goes (cond b (set m f true) m) (when b (body s it.fragment_name.text)) inner between → Inside spread m r seen inner between
        by_test true new goes = followed f at (new-mark s m f new) kept (numbers-at f at below) known sized goes
        by_test false old goes = unfollowed (slice_get m f) f refl at old kept (numbers-at f at below) known sized (goes r seen tt known sized)

    by_kept : (b : Bool) → is_kept s.variables it.directives ≡ b → AreBelow rank r (shape_numbers s.fragments spread) → Known m r seen → length m ≡ length s.fragments
        → Goes (cond (b && is_new s m (number_of s it)) (mark s m (number_of s it)) m) (when (b && is_new s m (number_of s it)) (body s it.fragment_name.text)) inner between
        → Inside spread m r seen inner between
    by_kept true kept below known sized goes = by_number (number_of s it) refl kept below known sized goes
    by_kept false dropped below known sized goes =
        plain spread m r seen inner between [] (sym (ap (λ b. when b (body s it.fragment_name.text)) dropped)) (goes r seen tt known sized)

  inside : (k : Shape) (m : List Bool) (r : ℕ) (seen inner : List Field) (between : List Bool) → AreBelow rank r (shape_numbers s.fragments k) → Known m r seen → length m ≡ length s.fragments
      → Goes (marked s k m) (gone_into s k m) inner between → Inside k m r seen inner between
  inside (Selection-F.Field it) m r seen inner between below known sized goes = plain (Selection-F.Field it) m r seen inner between [] refl (goes r seen tt known sized)
  inside (Selection-F.InlineFragment it) m r seen inner between below known sized goes =
      plain (Selection-F.InlineFragment it) m r seen inner between (opened s (Selection-F.InlineFragment it)) refl
      (goes r seen (when-below s.fragments rank r (is_kept s.variables it.directives && applies_if s.schema.types s.object it.type_condition) it.selection_set.selections below) known sized)
  inside (Selection-F.FragmentSpread it) m r seen inner between below known sized goes =
      by_kept it m r seen inner between (is_kept s.variables it.directives) refl below known sized goes

  three : (a b c d : List Field) → a ++ (b ++ (c ++ d)) ≡ ((a ++ b) ++ c) ++ d
  three a b c d = sym (append_assoc (a ++ b) c d ∙ append_assoc a b (c ++ d))

  collected_on : {m between n : List Bool} {x : Selection} {rest : List Selection} {inner others : List Field} (r : ℕ) (seen : List Field)
      → AreBelow rank r (spread_numbers s.fragments (x ∷ rest)) → Known m r seen → length m ≡ length s.fragments
      → Goes (marked s (out-Selection x) m) (gone_into s (out-Selection x) m) inner between → Goes between rest others n
      → Collected m r seen (x ∷ rest) (field_of s (out-Selection x) ++ (inner ++ others)) n
  collected_on {m} {between} {n} {x} {rest} {inner} {others} r seen below known sized first second =
      let here : List Field = field_of s (out-Selection x) in
      let one : Inside (out-Selection x) m r (seen ++ here) inner between =
      inside (out-Selection x) m r (seen ++ here) inner between (first-below s.fragments rank r x rest below) (known-more m r seen here known) sized first in
      let two : Collected between r ((seen ++ here) ++ inner) rest others n =
      second r ((seen ++ here) ++ inner) (rest-below s.fragments rank r x rest below) one.known (one.sized ∙ sized) in
      record {
        flat = here ++ (one.flat ++ two.flat);
        is_flat = flat_on one.is_flat two.is_flat;
        same = λ p. ap (find p) (three seen here inner others) ∙ two.same p
            ∙ same-append ((seen ++ here) ++ inner) ((seen ++ here) ++ one.flat) two.flat two.flat one.same (λ q. refl) p
            ∙ ap (find p) (sym (three seen here one.flat two.flat));
        known = subst (Known n r) (sym (three seen here inner others)) two.known;
        untouched = λ f large. two.untouched f large ∙ one.untouched f large;
        sized = two.sized ∙ one.sized;
      }

  pub collected : {m n : List Bool} {xs : List Selection} {fields : List Field} → Walks s m xs fields n → Goes m xs fields n
  collected {m} walked_all r seen below known sized = record {
    flat = [];
    is_flat = flat_none;
    same = λ p. refl;
    known = subst (Known m r) (sym (append-nil seen)) known;
    untouched = λ f large. refl;
    sized = refl;
  }
  collected (walked_on v w) r seen below known sized = collected_on r seen below known sized (collected v) (collected w)

  pub data AreFlat : List (List Selection) → List Field → Type 0 where
    none_flat : AreFlat [] []
    one_flat : {xs : List Selection} {lists : List (List Selection)} {inner others : List Field} → IsFlat s xs inner → AreFlat lists others → AreFlat (xs ∷ lists) (inner ++ others)

  pub record CollectedAll (seen : List Field) (lists : List (List Selection)) (fields : List Field) : Type 0 where
    pub flat : List Field
    pub are_flat : AreFlat lists flat
    pub same : SameFirst (seen ++ fields) (seen ++ flat)

  pub collected_all : {m : List Bool} {lists : List (List Selection)} {fields : List Field} → WalksAll s m lists fields → (r : ℕ) (seen : List Field) → ((f : ℕ) → rank f < r)
      → Known m r seen → length m ≡ length s.fragments → CollectedAll seen lists fields
  collected_all no_more r seen all known sized = record { flat = []; are_flat = none_flat; same = λ p. refl }
  collected_all {m} (list_first {between = between} {selections = xs} {lists = lists} {inner = inner} {others = others} v w) r seen all known sized =
      let one : Collected m r seen xs inner between = collected v r seen (below-all rank r all (spread_numbers s.fragments xs)) known sized in
      let two : CollectedAll (seen ++ inner) lists others = collected_all w r (seen ++ inner) all one.known (one.sized ∙ sized) in
      record {
        flat = one.flat ++ two.flat;
        are_flat = one_flat one.is_flat two.are_flat;
        same = λ p. ap (find p) (sym (append_assoc seen inner others)) ∙ two.same p
            ∙ same-append (seen ++ inner) (seen ++ one.flat) two.flat two.flat one.same (λ q. refl) p
            ∙ ap (find p) (append_assoc seen one.flat two.flat);
      }

pub none-marked : (n f : ℕ) → slice_get (replicate n false) f ≡ Some true → ⊥
none-marked zero f e = cc
none-marked (suc n) zero e = cc
none-marked (suc n) (suc f) e = none-marked n f e
