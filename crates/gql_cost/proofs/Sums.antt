-- The fields that are collected from selections weigh no more than these.
use Rattle.std.proofs.Common.{rules, arith, ◌≡◌, ℕ, zero, suc, ◌+◌, ◌≤◌, ◌&&◌, Bool, true, false, List, [], ◌∷◌, ◌++◌, Option, Some, None, sym, ap, ◌∙◌}
use Rattle.std.specs.Option.{option_map_or}
use Rattle.gql_document_types.proofs.Variants.{out-field, out-spread, out-inline, each}
use Rattle.gql_document_types.specs.RootFields.{fragment_name, body as body_of}
use Rattle.gql_document_types.specs.declared.fragment.Fragment.{Fragment}
use Rattle.gql_document_types.specs.declared.selection.Field.{Field}
use Rattle.gql_document_types.specs.declared.selection.FragmentSpread.{FragmentSpread}
use Rattle.gql_document_types.specs.declared.selection.InlineFragment.{InlineFragment}
use Rattle.gql_document_types.specs.declared.selection.Selection.{Selection, the_lemmas, out-Selection}
use Rattle.gql_document_types.specs.declared.selection.Selection.TheOpen.{Selection-F}
use Rattle.gql_document_types.specs.declared.selection.Selection.TheVariants as selection
use Rattle.gql_collect.proofs.Standings.{weighed-append}
use Rattle.gql_collect.specs.Applies.{applies, applies_if}
use Rattle.gql_collect.specs.Flat.{Shape, when, contents, body, field_of, opened, flat_within, flat, flat_sets, enough}
use Rattle.gql_collect.specs.Kept.{is_kept}
use Rattle.gql_collect.specs.Setting.{Setting}
use Rattle.gql_collect.specs.Standing.{weighed}
use Rattle.gql_schema_types.specs.Entries.{entry}
use Rattle.gql_cost.specs.Sum.{sum_one, sum_with}
use Rattle.gql_cost.specs.bridge.Sum.{field_sum, sets_sum}

module _ (items : ℕ) (of : List ℕ → ℕ) where
  pub sum-field : (f : Field) → sum_one items of (selection.Field f) ≡ field_sum items of f
  sum-field f = search (rules, the_lemmas)

  pub sum-spread : (s : FragmentSpread) → sum_one items of (selection.FragmentSpread s) ≡ of s.fragment_name.text
  sum-spread s = search (rules, the_lemmas)

  pub sum-inline : (i : InlineFragment) → sum_one items of (selection.InlineFragment i) ≡ sum_with items of i.selection_set.selections
  sum-inline i = search (rules, the_lemmas)

  abbrev pub shape_sum : Shape → ℕ
  shape_sum (Selection-F.Field it) = field_sum items of it
  shape_sum (Selection-F.FragmentSpread it) = of it.fragment_name.text
  shape_sum (Selection-F.InlineFragment it) = sum_with items of it.selection_set.selections

  pub sum-shape : (x : Selection) → sum_one items of x ≡ shape_sum (out-Selection x)
  sum-shape =
      each (λ x. sum_one items of x ≡ shape_sum (out-Selection x))
      (λ f. sum-field f ∙ sym (ap shape_sum (out-field f)))
      (λ s. sum-spread s ∙ sym (ap shape_sum (out-spread s)))
      (λ i. sum-inline i ∙ sym (ap shape_sum (out-inline i)))

  abbrev pub field_weight : Field → ℕ
  field_weight = field_sum items of

  when-sum : (b : Bool) (xs : List Selection) → sum_with items of (when b xs) ≤ sum_with items of xs
  when-sum true xs = omega arith
  when-sum false xs = omega arith

  when-field : (b : Bool) (f : Field) → weighed field_weight (when b (f ∷ [])) ≤ field_weight f
  when-field true f = omega arith
  when-field false f = omega arith

  module _ (s : Setting) (fixed : (name : List ℕ) → sum_with items of (body_of s.fragments name) ≤ of name) where
    contents-sum : (o : Option Fragment) → sum_with items of (contents s o) ≤ sum_with items of (option_map_or (λ (fragment : Fragment). fragment.selection_set.selections) o [])
    contents-sum None = omega arith
    contents-sum (Some fragment) = when-sum (applies s.schema.types s.object fragment.selection_set.ty.text) fragment.selection_set.selections

    body-sum : (name : List ℕ) → sum_with items of (body s name) ≤ of name
    body-sum name = omega (arith, contents-sum (entry fragment_name name s.fragments), fixed name)

    flat-sum : (n : ℕ) (xs : List Selection) → weighed field_weight (flat_within s n xs) ≤ sum_with items of xs
    flat-sum zero xs = omega arith
    flat-sum (suc n) [] = omega arith
    flat-sum (suc n) (x ∷ xs) =
        let k = out-Selection x in
        omega (
          arith,
          weighed-append field_weight (field_of s k ++ flat_within s n (opened s k)) (flat_within s (suc n) xs),
          weighed-append field_weight (field_of s k) (flat_within s n (opened s k)),
          at (flat-sum n) k,
          sum-shape x,
          flat-sum (suc n) xs,
        )
      where
        at : ((ys : List Selection) → weighed field_weight (flat_within s n ys) ≤ sum_with items of ys) → (k : Shape)
            → weighed field_weight (field_of s k) + weighed field_weight (flat_within s n (opened s k)) ≤ shape_sum k
        at inside (Selection-F.Field it) = omega (arith, when-field (is_kept s.variables it.directives) it, inside [])
        at inside (Selection-F.FragmentSpread it) =
            omega (
              arith,
              inside (when (is_kept s.variables it.directives) (body s it.fragment_name.text)),
              when-sum (is_kept s.variables it.directives) (body s it.fragment_name.text),
              body-sum it.fragment_name.text,
            )
        at inside (Selection-F.InlineFragment it) =
            let b = is_kept s.variables it.directives && applies_if s.schema.types s.object it.type_condition in
            omega (arith, inside (when b it.selection_set.selections), when-sum b it.selection_set.selections)

    flat-whole : (xs : List Selection) → weighed field_weight (flat s xs) ≤ sum_with items of xs
    unfolding flat
    flat-whole xs = flat-sum (enough s xs) xs

    pub sets-whole : (sets : List (List Selection)) → weighed field_weight (flat_sets s sets) ≤ sets_sum items of sets
    sets-whole [] = omega arith
    sets-whole (xs ∷ sets) = omega (arith, weighed-append field_weight (flat s xs) (flat_sets s sets), flat-whole xs, sets-whole sets)
