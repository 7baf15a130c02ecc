-- What each function of the walk owes, over plain values.
use Rattle.std.proofs.Common.{arith, ◌≡◌, ℕ, suc, ◌+◌, ◌<◌, List, [], ◌∷◌, length, Option, Some, None, position, refl, sym, ap, ◌∙◌, subst, inl}
use Rattle.std.specs.Option.{option_map_or}
use Rattle.gql_document_types.proofs.Counts.{count-defined, entry-there, one-field}
use Rattle.gql_document_types.proofs.Views.{count-field}
use Rattle.gql_document_types.specs.Count.{count, count_one}
use Rattle.gql_document_types.specs.bridge.Counted.{one_count, field_count}
use Rattle.gql_document_types.specs.bridge.Expanded.{expanded_field}
use Rattle.gql_document_types.specs.RootFields.{fragment_name}
use Rattle.gql_document_types.specs.declared.fragment.Fragment.{Fragment}
use Rattle.gql_document_types.specs.declared.selection.Field.{Field}
use Rattle.gql_document_types.specs.declared.selection.FragmentSpread.{FragmentSpread}
use Rattle.gql_document_types.specs.declared.selection.Selection.TheVariants as selection
use Rattle.gql_schema_types.proofs.Lookups.{found, missing}
use Rattle.gql_schema_types.specs.Entries.{is_called}
use Rattle.gql_cost.proofs.Sums.{sum-field}
use Rattle.gql_cost.specs.Sum.{sum, sum_one, fragment_most}
use Rattle.gql_cost.specs.bridge.Sum.{field_sum}
use Rattle.gql_cost.specs.bridge.Walked.{IsCapped, HaveSums, AreRight, Walked, sum_at, WalkedOne, WalkedField, WalkedFragment, WalkedSpread}

-- one field counts itself and what is inside it
count-single : (field : Field) → count (selection.Field field ∷ []) ≡ 1 + count field.selection_set.selections
count-single field = omega (arith, count-field field)

pub some-is : {A : Type 0} (x y : A) → Some x ≡ Some y → x ≡ y
some-is x y is = cc

module _ (items most : ℕ) (all : List Fragment) where
  -- the same in other numbers
  pub walked-as : (bound own total bound' own' total' : ℕ) (memo : List (Option ℕ)) (steps n : ℕ) (memo' : List (Option ℕ)) (steps' : ℕ)
      → bound ≡ bound' → own ≡ own' → total ≡ total'
      → Walked items most all bound own total memo steps n memo' steps' → Walked items most all bound' own' total' memo steps n memo' steps'
  walked-as bound own total bound' own' total' memo steps n memo' steps' b o t walked = record {
    right = walked.right;
    kept = λ f far. walked.kept f (omega (arith, far, b));
    is = subst (λ k. IsCapped most k n) t walked.is;
    looks = omega (arith, walked.looks, o);
    rises = walked.rises;
  }

  -- a look at a selection, and then what is inside it
  pub looked : (bound own total : ℕ) (memo : List (Option ℕ)) (steps start n m : ℕ) (memo' : List (Option ℕ)) (steps' : ℕ) (total' : ℕ) → start ≡ steps + 1
      → IsCapped most total' m
      → Walked items most all bound own total memo start n memo' steps' → Walked items most all (1 + bound) (suc own) total' memo steps m memo' steps'
  looked bound own total memo steps start n m memo' steps' total' tick is walked = record {
    right = walked.right;
    kept = λ f far. walked.kept f (omega (arith, far));
    is = is;
    looks = omega (arith, walked.looks, tick);
    rises = omega (arith, walked.rises, tick);
  }

  -- a field is a selection
  pub field-one : (field : Field) (memo : List (Option ℕ)) (steps n : ℕ) (memo' : List (Option ℕ)) (steps' : ℕ)
      → WalkedField items most all field memo steps n memo' steps' → WalkedOne items most all (selection.Field field) memo steps n memo' steps'
  field-one field memo steps n memo' steps' walked =
      let counted : one_count all (selection.Field field) ≡ field_count all field = ap count (one-field all field) ∙ count-single (expanded_field all field) in
      walked-as (field_count all field) (suc (count field.selection_set.selections)) (field_sum items (fragment_most items all) field)
      (one_count all (selection.Field field)) (count_one (selection.Field field)) (sum_one items (fragment_most items all) (selection.Field field))
      memo steps n memo' steps' (sym counted) (omega (arith, count-field field)) (sym (sum-field items (fragment_most items all) field)) walked

  -- ---- spreads

  sum-none : HaveSums items all → (spread : FragmentSpread) → position (is_called fragment_name spread.fragment_name.text) all ≡ None
      → fragment_most items all spread.fragment_name.text ≡ 0
  sum-none sums spread is =
      sums spread.fragment_name.text
      ∙ ap (λ (o : Option Fragment). sum items all (option_map_or (λ fragment. fragment.selection_set.selections) o []))
      (missing (is_called fragment_name spread.fragment_name.text) all is)

  sum-some : HaveSums items all → (spread : FragmentSpread) (f : ℕ) → position (is_called fragment_name spread.fragment_name.text) all ≡ Some f → f < length all
      → sum_at items most all f ≡ fragment_most items all spread.fragment_name.text
  sum-some sums spread f is within =
      let it = entry-there all f within in
      ap (λ o. option_map_or (λ (x : Fragment). sum items all x.selection_set.selections) o 0) it.1
      ∙ sym (sums spread.fragment_name.text
      ∙ ap (λ (o : Option Fragment). sum items all (option_map_or (λ fragment. fragment.selection_set.selections) o []))
      (found (is_called fragment_name spread.fragment_name.text) all f is ∙ it.1))

  pub spread-undefined : HaveSums items all → (spread : FragmentSpread) → position (is_called fragment_name spread.fragment_name.text) all ≡ None
      → (memo : List (Option ℕ)) (steps start : ℕ) → AreRight items most all memo → start ≡ steps + 1 → WalkedSpread items most all spread memo steps 0 memo start
  spread-undefined sums spread is memo steps start right tick = record {
    right = right;
    kept = λ f far. refl;
    is =
        let none : 0 ≡ fragment_most items all spread.fragment_name.text = sym (sum-none sums spread is) in
        record { low = omega arith; under = omega arith; is = inl none };
    looks = omega (arith, tick);
    rises = omega (arith, tick);
  }

  pub spread-defined : HaveSums items all → (spread : FragmentSpread) (f : ℕ) → position (is_called fragment_name spread.fragment_name.text) all ≡ Some f → f < length all
      → (memo : List (Option ℕ)) (steps start n : ℕ) (memo' : List (Option ℕ)) (steps' : ℕ) → start ≡ steps + 1
      → WalkedFragment items most all f memo start n memo' steps' → WalkedSpread items most all spread memo steps n memo' steps'
  spread-defined sums spread f is within memo steps start n memo' steps' tick walked = record {
    right = walked.right;
    kept = λ g far. walked.kept g (omega (arith, far, count-defined all spread f is within));
    is = subst (λ k. IsCapped most k n) (sum-some sums spread f is within) walked.is;
    looks = omega (arith, walked.looks, tick);
    rises = omega (arith, walked.rises, tick);
  }
