-- Stands that are the same once repeated sets are left out bring the same, and ask for the same.
use Rattle.std.proofs.Common.{◌≡◌, List, [], ◌∷◌, ◌++◌, Option, Some, None, refl, ap, ◌∙◌, subst}
use Rattle.gql_ast_base.specs.declared.type_ref.TypeRef.{TypeRef}
use Rattle.gql_collect.specs.Same.{SameFirst}
use Rattle.gql_document_types.specs.declared.selection.Field.{Field}
use Rattle.gql_document_types.specs.declared.selection.Selection.{Selection}
use Rattle.gql_exec.proofs.Alike.{AreAlike, IsAlike, sets-alike}
use Rattle.gql_exec.specs.Asks.{asks, definition_on}
use Rattle.gql_exec.specs.Group.{Group}
use Rattle.gql_exec.specs.Request.{Request}
use Rattle.gql_exec.specs.RequestWorld.{plain_world}
use Rattle.gql_resolvers.specs.Resolved.{Meaning, Meanings, gives_leaf, gives_object, gives_list, gives_skip, fails_with, no_answer, answer_then}
use Rattle.gql_resolvers.specs.Resolved.{Misfit, Outcome, answered, refused}
use Rattle.gql_resolvers.specs.Types.{item_type}
use Rattle.gql_schema_types.specs.declared.types.ObjectType.{ObjectType}
use Rattle.gql_rounds.specs.Known.{Known}
use Rattle.gql_rounds.specs.Levels.{if_fits, typed, given, all_given, brought, below_group, below_groups, below_stand, below_stands}
use Rattle.gql_rounds.specs.bridge.Walked.{SameStand, SameStands}
use Rattle.gql_rounds.specs.Wanted.{KnownStand, wanted, wanted_at, wanted_by_group, wanted_by_groups}
use Rattle.gql_rounds.specs.bridge.Wanted.{KnownWorld}

abbrev Sets : Type 0
Sets = List (List Selection)

pub same-refl : (xs : List KnownStand) → SameStands xs xs
same-refl [] = tt
same-refl (x ∷ xs) = ((refl, refl, λ p. refl), same-refl xs)

pub same-append : (xs ys more others : List KnownStand) → SameStands xs ys → SameStands more others → SameStands (xs ++ more) (ys ++ others)
same-append [] [] more others same rest = rest
same-append [] (y ∷ ys) more others same rest = absurd same
same-append (x ∷ xs) [] more others same rest = absurd same
same-append (x ∷ xs) (y ∷ ys) more others same rest = (same.0, same-append xs ys more others same.1 rest)

pub same-trans : (xs ys zs : List KnownStand) → SameStands xs ys → SameStands ys zs → SameStands xs zs
same-trans [] [] zs one other = other
same-trans [] (y ∷ ys) zs one other = absurd one
same-trans (x ∷ xs) [] zs one other = absurd one
same-trans (x ∷ xs) (y ∷ ys) [] one other = absurd other
same-trans (x ∷ xs) (y ∷ ys) (z ∷ zs) one other =
    ((one.0.0 ∙ other.0.0, one.0.1 ∙ other.0.1, λ p. one.0.2 p ∙ other.0.2 p), same-trans xs ys zs one.1 other.1)

module _ (r : Request Known) where
  abbrev w : KnownWorld
  w = plain_world r

  module _ (ps qs : Sets) (same : SameFirst ps qs) where
    fits-same : (o : Option Misfit) (xs ys : List KnownStand) → SameStands xs ys → SameStands (if_fits o xs) (if_fits o ys)
    fits-same None xs ys they = they
    fits-same (Some misfit) xs ys they = tt

    typed-same : (x : Known) (o : Option ObjectType) → SameStands (typed ps x o) (typed qs x o)
    typed-same x None = tt
    typed-same x (Some U) = ((refl, refl, same), tt)

    mutual
      given-same : (ty : TypeRef) (m : Meaning Known) → SameStands (given w ps ty m) (given w qs ty m)
      given-same ty (gives_object x) = fits-same (w.misfit ty (gives_object x)) (typed ps x (w.type_of x)) (typed qs x (w.type_of x)) (typed-same x (w.type_of x))
      given-same ty (gives_list ms) = fits-same (w.misfit ty (gives_list ms)) (all_given w ps (item_type ty) ms) (all_given w qs (item_type ty) ms) (all-same (item_type ty) ms)
      given-same ty (gives_leaf v) = tt
      given-same ty gives_skip = tt
      given-same ty (fails_with text) = tt

      all-same : (ty : TypeRef) (ms : Meanings Known) → SameStands (all_given w ps ty ms) (all_given w qs ty ms)
      all-same ty no_answer = tt
      all-same ty (answer_then m ms) = same-append (given w ps ty m) (given w qs ty m) (all_given w ps ty ms) (all_given w qs ty ms) (given-same ty m) (all-same ty ms)

    brought-same : (ty : TypeRef) (outcome : Outcome Known) → SameStands (brought w ps ty outcome) (brought w qs ty outcome)
    brought-same ty (answered m) = given-same ty m
    brought-same ty (refused fault) = tt

  group-same : (U : ObjectType) (x : Known) (g h : Group) → IsAlike g h → SameStands (below_group w U x g) (below_group w U x h)
  group-same U x g h alike =
      subst (λ (f : Field). SameStands (below_group w U x g) (brought w h.pieces (definition_on r.schema U f).ty (asks r U x f))) alike.0
      (brought-same g.pieces h.pieces alike.1 (definition_on r.schema U g.first).ty (asks r U x g.first))

  pub groups-same : (U : ObjectType) (x : Known) (gs hs : List Group) → AreAlike gs hs → SameStands (below_groups w U x gs) (below_groups w U x hs)
  groups-same U x [] [] alike = tt
  groups-same U x [] (h ∷ hs) alike = absurd alike
  groups-same U x (g ∷ gs) [] alike = absurd alike
  groups-same U x (g ∷ gs) (h ∷ hs) alike =
      same-append (below_group w U x g) (below_group w U x h) (below_groups w U x gs) (below_groups w U x hs) (group-same U x g h alike.0) (groups-same U x gs hs alike.1)

  pub wanted-same : (U : ObjectType) (x : Known) (gs hs : List Group) → AreAlike gs hs → wanted_by_groups r U x gs ≡ wanted_by_groups r U x hs
  wanted-same U x [] [] alike = refl
  wanted-same U x [] (h ∷ hs) alike = absurd alike
  wanted-same U x (g ∷ gs) [] alike = absurd alike
  wanted-same U x (g ∷ gs) (h ∷ hs) alike =
      ap (λ (f : Field). wanted_by_group r U x (record { first = f; pieces = g.pieces }) ++ wanted_by_groups r U x gs) alike.0.0
      ∙ ap (λ more. wanted_by_group r U x h ++ more) (wanted-same U x gs hs alike.1)

  stand-same : (s t : KnownStand) → SameStand s t → SameStands (below_stand w s) (below_stand w t)
  stand-same s t same =
      let here = groups-same s.type s.object (w.groups s.type s.selection) (w.groups s.type t.selection) (sets-alike r s.type s.selection t.selection same.2) in
      subst (λ (x : Known). SameStands (below_stand w s) (below_groups w t.type x (w.groups t.type t.selection))) same.1
      (subst (λ (U : ObjectType). SameStands (below_stand w s) (below_groups w U s.object (w.groups U t.selection))) same.0 here)

  wanted-stand : (s t : KnownStand) → SameStand s t → wanted_at r s ≡ wanted_at r t
  wanted-stand s t same =
      wanted-same s.type s.object (w.groups s.type s.selection) (w.groups s.type t.selection) (sets-alike r s.type s.selection t.selection same.2)
      ∙ ap (λ (U : ObjectType). wanted_by_groups r U s.object (w.groups U t.selection)) same.0
      ∙ ap (λ (x : Known). wanted_by_groups r t.type x (w.groups t.type t.selection)) same.1

  pub stands-same : (ss ts : List KnownStand) → SameStands ss ts → SameStands (below_stands w ss) (below_stands w ts)
  stands-same [] [] same = tt
  stands-same [] (t ∷ ts) same = absurd same
  stands-same (s ∷ ss) [] same = absurd same
  stands-same (s ∷ ss) (t ∷ ts) same =
      same-append (below_stand w s) (below_stand w t) (below_stands w ss) (below_stands w ts) (stand-same s t same.0) (stands-same ss ts same.1)

  pub wanted-stands : (ss ts : List KnownStand) → SameStands ss ts → wanted r ss ≡ wanted r ts
  wanted-stands [] [] same = refl
  wanted-stands [] (t ∷ ts) same = absurd same
  wanted-stands (s ∷ ss) [] same = absurd same
  wanted-stands (s ∷ ss) (t ∷ ts) same = ap (λ l. l ++ wanted r ss) (wanted-stand s t same.0) ∙ ap (λ l. wanted_at r t ++ l) (wanted-stands ss ts same.1)
