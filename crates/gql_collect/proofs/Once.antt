-- No field is found more often than it stands in the sets and the fragments.
use Rattle.std.proofs.Common.{arith, ◌≡◌, ℕ, ◌+◌, ◌≤◌, Bool, true, false, cond, ◌&&◌, List, [], ◌∷◌, ◌++◌, refl, sym, ap, ◌∙◌, subst, append_assoc}
use Rattle.std.specs.List.{filter}
use Rattle.std.proofs.lemmas.List.{append-nil}
use Rattle.std.specs.Str.{bytes_eq}
use Rattle.gql_document_types.specs.declared.fragment.Fragment.{Fragment}
use Rattle.gql_document_types.specs.declared.selection.Field.{Field}
use Rattle.gql_document_types.specs.declared.selection.Selection.{Selection, out-Selection}
use Rattle.gql_document_types.specs.declared.selection.Selection.TheOpen.{Selection-F}
use Rattle.gql_collect.specs.Applies.{applies_if}
use Rattle.gql_collect.specs.Flat.{Shape, when, body, field_of}
use Rattle.gql_collect.specs.Grouping.{fields_in_groups}
use Rattle.gql_collect.specs.bridge.Grouping.{added}
use Rattle.gql_collect.specs.Groups.{FieldGroup, groups_of, response_key}
use Rattle.gql_collect.specs.Kept.{is_kept}
use Rattle.gql_collect.specs.Setting.{Setting}
use Rattle.gql_collect.specs.Standing.{fields_in, fields_in_all, fields_in_fragments, weighed, NoneMoreOften}
use Rattle.gql_collect.specs.bridge.Walk.{number_of, is_followed, mark, marked, gone_into, Walks, walked_all, walked_on, WalksAll, no_more, list_first}
use Rattle.gql_collect.proofs.GroupFacts.{groups-more}
use Rattle.gql_collect.proofs.Standings.{weighed-append, inner, shape_inner, inner-none, inner-cons}
use Rattle.gql_collect.proofs.Unentered.{unentered, when-count, follow_less}

-- ---- a walk

module _ (w : Field → ℕ) (s : Setting) where
  abbrev waiting : List Bool → ℕ
  waiting marks = unentered (inner w) s.fragments marks

  when-weighed : (b : Bool) (f : Field) → weighed w (when b (f ∷ [])) ≤ w f
  when-weighed true f = omega arith
  when-weighed false f = omega arith

  shape_within : (k : Shape) (m : List Bool) → weighed w (field_of s k) + (inner w (gone_into s k m) + waiting (marked s k m)) ≤ shape_inner w k + waiting m
  shape_within (Selection-F.Field it) m = omega (arith, when-weighed (is_kept s.variables it.directives) it, inner-none w)
  shape_within (Selection-F.InlineFragment it) m =
      omega (arith, when-count (inner w) (inner-none w) (is_kept s.variables it.directives && applies_if s.schema.types s.object it.type_condition) it.selection_set.selections)
  shape_within (Selection-F.FragmentSpread it) m = by (is_followed s it m) refl
    where
      by : (b : Bool) → is_followed s it m ≡ b
          → 0 + (inner w (when b (body s it.fragment_name.text)) + unentered (inner w) s.fragments (cond b (mark s m (number_of s it)) m)) ≤ 0 + waiting m
      by true is = omega (arith, follow_less (inner w) (inner-none w) s it m is)
      by false is = omega (arith, inner-none w)

  walk_within : {m n : List Bool} {xs : List Selection} {fields : List Field} → Walks s m xs fields n → weighed w fields + waiting n ≤ inner w xs + waiting m
  walk_within {m = m} walked_all = omega (arith, inner-none w)
  walk_within {m = m} {n = n} (walked_on {between = between} {x = x} {rest = rest} {inner = found} {others = others} v u) =
      let k : Shape = out-Selection x in
      omega (
        arith,
        weighed-append w (field_of s k) (found ++ others),
        weighed-append w found others,
        shape_within k m,
        walk_within v,
        walk_within u,
        inner-cons w x rest,
      )

  walks_within : {m : List Bool} {lists : List (List Selection)} {fields : List Field} → WalksAll s m lists fields → weighed w fields ≤ weighed w (fields_in_all lists) + waiting m
  walks_within no_more = omega arith
  walks_within {m = m} (list_first {between = between} {selections = xs} {lists = lists} {inner = found} {others = others} v u) =
      omega (
        arith,
        weighed-append w found others,
        weighed-append w (fields_in xs) (fields_in_all lists),
        walk_within v,
        walks_within u,
      )

waiting-within : (w : Field → ℕ) (fragments : List Fragment) (m : List Bool) → unentered (inner w) fragments m ≤ weighed w (fields_in_fragments fragments)
waiting-within w [] m = omega arith
waiting-within w (fragment ∷ fragments) [] = omega arith
waiting-within w (fragment ∷ fragments) (b ∷ m) =
    omega (
      arith,
      off b (inner w fragment.selection_set.selections),
      weighed-append w (fields_in fragment.selection_set.selections) (fields_in_fragments fragments),
      waiting-within w fragments m,
    )
  where
    off : (c : Bool) (n : ℕ) → cond c 0 n ≤ n
    off true n = omega arith
    off false n = omega arith

pub walk-once : (s : Setting) (m : List Bool) (lists : List (List Selection)) (fields : List Field) → WalksAll s m lists fields
    → NoneMoreOften fields (fields_in_all lists ++ fields_in_fragments s.fragments)
walk-once s m lists fields walk w =
    omega (arith, walks_within w s walk, waiting-within w s.fragments m, weighed-append w (fields_in_all lists) (fields_in_fragments s.fragments))

-- ---- groups

module _ (w : Field → ℕ) where
  abbrev grouped : List FieldGroup → ℕ
  grouped groups = weighed w (fields_in_groups groups)

  added_within : (groups : List FieldGroup) (f : Field) → grouped (added groups f) ≡ grouped groups + w f
  added_within [] f = omega arith
  added_within (g ∷ gs) f = by (bytes_eq (response_key f) g.key) (added_within gs f)
    where
      by : (b : Bool) → grouped (added gs f) ≡ grouped gs + w f → grouped (cond b (record g { fields = g.fields ++ f ∷ [] } ∷ gs) (g ∷ added gs f)) ≡ grouped (g ∷ gs) + w f
      by true rest =
          omega (
            arith,
            weighed-append w (g.fields ++ f ∷ []) (fields_in_groups gs),
            weighed-append w g.fields (f ∷ []),
            weighed-append w g.fields (fields_in_groups gs),
          )
      by false rest =
          omega (
            arith,
            weighed-append w g.fields (fields_in_groups (added gs f)),
            weighed-append w g.fields (fields_in_groups gs),
            rest,
          )

  from_on : (done rest : List Field) → grouped (groups_of done) ≡ weighed w done → grouped (groups_of (done ++ rest)) ≡ weighed w (done ++ rest)
  from_on done [] so_far = subst (λ l. grouped (groups_of l) ≡ weighed w l) (sym (append-nil done)) so_far
  from_on done (f ∷ rest) so_far =
      subst (λ l. grouped (groups_of l) ≡ weighed w l) (append_assoc done (f ∷ []) rest)
      (from_on (done ++ f ∷ []) rest
      (ap grouped (sym (groups-more done f)) ∙ added_within (groups_of done) f ∙ ap (λ n. n + w f) so_far ∙ sym (one_more done f)))
    where
      one_more : (fs : List Field) (g : Field) → weighed w (fs ++ g ∷ []) ≡ weighed w fs + w g
      one_more fs g = omega (arith, weighed-append w fs (g ∷ []))

  filter_within : (p : FieldGroup → Bool) (groups : List FieldGroup) → grouped (filter p groups) ≤ grouped groups
  filter_within p [] = omega arith
  filter_within p (g ∷ gs) = by (p g) (filter_within p gs)
    where
      by : (b : Bool) → grouped (filter p gs) ≤ grouped gs → grouped (cond b (g ∷ filter p gs) (filter p gs)) ≤ grouped (g ∷ gs)
      by true rest = omega (arith, weighed-append w g.fields (fields_in_groups (filter p gs)), weighed-append w g.fields (fields_in_groups gs), rest)
      by false rest = omega (arith, weighed-append w g.fields (fields_in_groups gs), rest)

-- the groups that are kept have no field more often than there are fields
pub groups-once : (p : FieldGroup → Bool) (fields others : List Field) (groups kept : List FieldGroup) → NoneMoreOften fields others
    → groups ≡ groups_of fields → kept ≡ filter p groups → NoneMoreOften (fields_in_groups kept) others
groups-once p fields others groups kept once grouped_so kept_so w =
    omega (
      arith,
      ap (λ l. weighed w (fields_in_groups l)) (kept_so ∙ ap (filter p) grouped_so),
      filter_within w p (groups_of fields),
      from_on w [] fields refl,
      once w,
    )
