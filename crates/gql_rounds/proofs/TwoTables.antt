-- What objects bring and ask for by a table, and by one that tells more.
use Rattle.std.proofs.Common.{arith, ◌≡◌, ◌⊎◌, ℕ, zero, suc, ◌<◌, Bool, true, false, if◌then◌else◌, List, [], ◌∷◌, ◌++◌, Option, Some, None, is_some, refl, sym, ap, ◌∙◌, subst, inl, inr}
use Rattle.std.specs.List.{AllByRecursion, flat_map}
use Rattle.jb_tree.specs.declared.value.Value.{Value}
use Rattle.gql_ast_base.specs.declared.type_ref.TypeRef.{TypeRef}
use Rattle.gql_document_types.specs.declared.document.ExecutableDocument.{ExecutableDocument}
use Rattle.gql_document_types.specs.declared.selection.Selection.{Selection}
use Rattle.gql_exec.specs.Asks.{asks}
use Rattle.gql_exec.specs.Group.{Group}
use Rattle.gql_exec.specs.Request.{Members, Request}
use Rattle.gql_exec.specs.RequestWorld.{plain_world}
use Rattle.gql_resolvers.specs.Resolved.{Meaning, Meanings, gives_leaf, gives_object, gives_list, gives_skip, fails_with, no_answer, answer_then}
use Rattle.gql_resolvers.specs.Resolved.{Outcome, answered, refused}
use Rattle.gql_resolvers.specs.Types.{item_type}
use Rattle.gql_schema_types.specs.declared.schema.Schema.{Schema}
use Rattle.gql_schema_types.specs.declared.types.ObjectType.{ObjectType}
use Rattle.gql_rounds.specs.Asked.{IsOneOf}
use Rattle.gql_rounds.specs.Key.{key}
use Rattle.gql_rounds.specs.Known.{Known}
use Rattle.gql_rounds.specs.Levels.{if_fits, given, all_given, brought, below_group, below_groups, below_stand, below_stands, level}
use Rattle.gql_rounds.specs.Table.{Table, has_key}
use Rattle.gql_rounds.specs.Telling.{TellsMore}
use Rattle.gql_rounds.specs.Wanted.{KnownStand, ask_for, is_left_out, key_of, wanted, wanted_at, wanted_by_group}
use Rattle.gql_rounds.specs.bridge.Wanted.{KnownWorld}
use Rattle.gql_rounds.specs.declared.ask.Ask.{Ask}
use Rattle.gql_rounds.proofs.LeftOut.{IsFixed, IsTheirs, by, found, left-out, theirs-asked, theirs-told, told_of, which}
use Rattle.gql_rounds.proofs.Noted.{all-append, all-back, all-front, all-own, all-weaker}

-- ---- lists

abbrev pub AreOf : {A : Type 0} → List A → List A → Type 0
AreOf xs ys = AllByRecursion (λ x. IsOneOf x ys) xs

one-front : {A : Type 0} (x : A) (xs ys : List A) → IsOneOf x xs → IsOneOf x (xs ++ ys)
one-front x [] ys one = absurd one
one-front x (y ∷ xs) ys (inl same) = inl same
one-front x (y ∷ xs) ys (inr later) = inr (one-front x xs ys later)

one-back : {A : Type 0} (x : A) (xs ys : List A) → IsOneOf x ys → IsOneOf x (xs ++ ys)
one-back x [] ys one = one
one-back x (y ∷ xs) ys one = inr (one-back x xs ys one)

append-none : {B : Type 0} (xs ys : List B) → xs ++ ys ≡ [] → (xs ≡ []) × (ys ≡ [])
append-none [] ys none = (refl, none)
append-none (x ∷ xs) ys none = absurd (let e : x ∷ (xs ++ ys) ≡ [] = none in cc)

module _ {A B : Type 0} where
  -- what an item leads to is of what all lead to
  pub one-flat : (g : A → List B) (x : A) (ys : List A) (b : B) → IsOneOf x ys → IsOneOf b (g x) → IsOneOf b (flat_map g ys)
  one-flat g x [] b one led = absurd one
  one-flat g x (y ∷ ys) b (inl same) led = one-front b (g y) (flat_map g ys) (subst (λ z. IsOneOf b (g z)) same led)
  one-flat g x (y ∷ ys) b (inr later) led = one-back b (g y) (flat_map g ys) (one-flat g x ys b later led)

  pub flat-of : (f g : A → List B) → ((x : A) → AreOf (f x) (g x)) → (xs ys : List A) → AreOf xs ys → AreOf (flat_map f xs) (flat_map g ys)
  flat-of f g each [] ys are = tt
  flat-of f g each (x ∷ xs) ys are =
      all-append (λ b. IsOneOf b (flat_map g ys)) (f x) (flat_map f xs)
      (all-weaker (λ b. IsOneOf b (g x)) (λ b. IsOneOf b (flat_map g ys)) (λ b led. one-flat g x ys b are.0 led) (f x) (each x))
      (flat-of f g each xs ys are.1)

  pub all-flat : (P : B → Type 0) (f : A → List B) (xs : List A) → AllByRecursion (λ x. AllByRecursion P (f x)) xs → AllByRecursion P (flat_map f xs)
  all-flat P f [] all = tt
  all-flat P f (x ∷ xs) all = all-append P (f x) (flat_map f xs) all.0 (all-flat P f xs all.1)

  pub flat-all : (P : B → Type 0) (f : A → List B) (xs : List A) → AllByRecursion P (flat_map f xs) → AllByRecursion (λ x. AllByRecursion P (f x)) xs
  flat-all P f [] all = tt
  flat-all P f (x ∷ xs) all = (all-front P (f x) (flat_map f xs) all, flat-all P f xs (all-back P (f x) (flat_map f xs) all))

  pub flat-none : (f : A → List B) (xs : List A) → flat_map f xs ≡ [] → AllByRecursion (λ x. f x ≡ []) xs
  flat-none f [] none = tt
  flat-none f (x ∷ xs) none = let both = append-none (f x) (flat_map f xs) none in (both.0, flat-none f xs both.1)

  pub none-flat : (f : A → List B) (xs : List A) → AllByRecursion (λ x. f x ≡ []) xs → flat_map f xs ≡ []
  none-flat f [] all = refl
  none-flat f (x ∷ xs) all = ap (λ l. l ++ flat_map f xs) all.0 ∙ none-flat f xs all.1

  pub flat-same : (f g : A → List B) (xs : List A) → AllByRecursion (λ x. f x ≡ g x) xs → flat_map f xs ≡ flat_map g xs
  flat-same f g [] all = refl
  flat-same f g (x ∷ xs) all = ap (λ l. l ++ flat_map f xs) all.0 ∙ ap (λ l. g x ++ l) (flat-same f g xs all.1)

-- ---- two tables, of which one tells more

module _ (schema : Schema) (document : ExecutableDocument) (variables : Members) (old new : Table) (more : TellsMore old new) where
  abbrev u : KnownWorld
  u = plain_world (by schema document variables old)

  abbrev v : KnownWorld
  v = plain_world (by schema document variables new)

  mutual
    given-same : (s : List (List Selection)) (ty : TypeRef) (m : Meaning Known) → given u s ty m ≡ given v s ty m
    given-same s ty (gives_object x) = refl
    given-same s ty (gives_list ms) = ap (if_fits (u.misfit ty (gives_list ms))) (all-same s (item_type ty) ms)
    given-same s ty (gives_leaf value) = refl
    given-same s ty gives_skip = refl
    given-same s ty (fails_with text) = refl

    all-same : (s : List (List Selection)) (ty : TypeRef) (ms : Meanings Known) → all_given u s ty ms ≡ all_given v s ty ms
    all-same s ty no_answer = refl
    all-same s ty (answer_then m ms) = ap (λ l. l ++ all_given u s ty ms) (given-same s ty m) ∙ ap (λ l. given v s ty m ++ l) (all-same s ty ms)

  brought-same : (s : List (List Selection)) (ty : TypeRef) (outcome : Outcome Known) → brought u s ty outcome ≡ brought v s ty outcome
  brought-same s ty (answered m) = given-same s ty m
  brought-same s ty (refused fault) = refl

  -- where the same comes of a group
  group-same : (U : ObjectType) (x : Known) (g : Group) → u.asks U x g ≡ v.asks U x g → below_group u U x g ≡ below_group v U x g
  group-same U x g same = brought-same g.pieces (u.type_at U g) (u.asks U x g) ∙ ap (brought v g.pieces (u.type_at U g)) same

  same-of : {A : Type 0} (xs ys : List A) → xs ≡ ys → AreOf xs ys
  same-of xs ys same = subst (λ l. AreOf xs l) same (all-own xs)

  -- what the new table tells of a field that the old one tells of is the same
  told-same : (x : Known) (g : Group) (arguments : Members) (value : Value) → found schema document variables old x g.first arguments ≡ Some value
      → found schema document variables new x g.first arguments ≡ Some value
  told-same x g arguments value is =
      more (key x.number g.first.name.text arguments) (ap is_some is) ∙ is

  module _ (U : ObjectType) (x : Known) (g : Group) where
    abbrev r : Table → Request Known
    r table = by schema document variables table

    module _ (fixed : IsFixed schema document variables U x g.first) where
      fixed-same : u.asks U x g ≡ v.asks U x g
      fixed-same = fixed.is old ∙ sym (fixed.is new)

      fixed-quiet : (table : Table) → wanted_by_group (r table) U x g ≡ []
      fixed-quiet table = ap (λ (b : Bool). if b then ask_for (r table) U x g.first else []) (ap is_left_out (fixed.is table) ∙ fixed.stays)

    module _ (arguments : Members) (theirs : IsTheirs schema document variables U g.first arguments) where
      abbrev the_ask : Ask
      the_ask = record { object = x.number; type_name = U.name.text; field = g.first.name.text; arguments = arguments }

      -- told by a table, and not
      theirs-quiet : (table : Table) (value : Value) → found schema document variables table x g.first arguments ≡ Some value → wanted_by_group (r table) U x g ≡ []
      theirs-quiet table value is = by_left (is_left_out (asks (r table) U x g.first)) refl
        where
          by_left : (b : Bool) → is_left_out (asks (r table) U x g.first) ≡ b → (if b then ask_for (r table) U x g.first else []) ≡ []
          by_left true left =
              let none = left-out schema document variables U g.first (found schema document variables table x g.first arguments)
              (ap is_left_out (sym (theirs-told schema document variables U x g.first arguments theirs table)) ∙ left) in
              absurd (let e : Some value ≡ None = sym is ∙ none in cc)
          by_left false left = refl

      theirs-wanted : (table : Table) → found schema document variables table x g.first arguments ≡ None → wanted_by_group (r table) U x g ≡ the_ask ∷ []
      theirs-wanted table none =
          ap (λ (b : Bool). if b then ask_for (r table) U x g.first else [])
          (ap is_left_out (theirs-told schema document variables U x g.first arguments theirs table ∙ ap (told_of schema document variables U g.first) none))
          ∙ theirs-asked schema document variables U x g.first arguments theirs table

      theirs-same : (value : Value) → found schema document variables old x g.first arguments ≡ Some value → u.asks U x g ≡ v.asks U x g
      theirs-same value is =
          theirs-told schema document variables U x g.first arguments theirs old
          ∙ ap (told_of schema document variables U g.first) (is ∙ sym (told-same x g arguments value is))
          ∙ sym (theirs-told schema document variables U x g.first arguments theirs new)

      -- left out, a field brings nothing
      theirs-none : found schema document variables old x g.first arguments ≡ None → below_group u U x g ≡ []
      theirs-none none =
          ap (brought u g.pieces (u.type_at U g))
          (theirs-told schema document variables U x g.first arguments theirs old ∙ ap (told_of schema document variables U g.first) none)

    -- the new table brings all that the old one brings
    group-of : AreOf (below_group u U x g) (below_group v U x g)
    group-of = by_which (which schema document variables U x g.first)
      where
        by_found : (arguments : Members) → IsTheirs schema document variables U g.first arguments → (o : Option Value)
            → found schema document variables old x g.first arguments ≡ o → AreOf (below_group u U x g) (below_group v U x g)
        by_found arguments theirs None is = subst (λ l. AreOf l (below_group v U x g)) (sym (theirs-none arguments theirs is)) tt
        by_found arguments theirs (Some value) is =
            same-of (below_group u U x g) (below_group v U x g) (group-same U x g (theirs-same arguments theirs value is))

        by_which : IsFixed schema document variables U x g.first ⊎ ((arguments : Members) × IsTheirs schema document variables U g.first arguments)
            → AreOf (below_group u U x g) (below_group v U x g)
        by_which (inl fixed) = same-of (below_group u U x g) (below_group v U x g) (group-same U x g (fixed-same fixed))
        by_which (inr theirs) = by_found theirs.0 theirs.1 (found schema document variables old x g.first theirs.0) refl

    -- what the old table asks is told by the new one, or asked
    abbrev Stays : Ask → Type 0
    Stays ask = (has_key (key_of ask) new ≡ true) ⊎ IsOneOf ask (wanted_by_group (r new) U x g)

    group-stays : AllByRecursion Stays (wanted_by_group (r old) U x g)
    group-stays = by_which (which schema document variables U x g.first)
      where
        by_new : (arguments : Members) → IsTheirs schema document variables U g.first arguments → (o : Option Value)
            → found schema document variables new x g.first arguments ≡ o → Stays (record { object = x.number; type_name = U.name.text; field = g.first.name.text; arguments = arguments })
        by_new arguments theirs None is = inr (subst (IsOneOf (the_ask arguments theirs)) (sym (theirs-wanted arguments theirs new is)) (inl refl))
        by_new arguments theirs (Some value) is = inl (ap is_some is)

        by_found : (arguments : Members) → IsTheirs schema document variables U g.first arguments → (o : Option Value)
            → found schema document variables old x g.first arguments ≡ o → AllByRecursion Stays (wanted_by_group (r old) U x g)
        by_found arguments theirs None is =
            subst (AllByRecursion Stays) (sym (theirs-wanted arguments theirs old is))
            (by_new arguments theirs (found schema document variables new x g.first arguments) refl, tt)
        by_found arguments theirs (Some value) is = subst (AllByRecursion Stays) (sym (theirs-quiet arguments theirs old value is)) tt

        by_which : IsFixed schema document variables U x g.first ⊎ ((arguments : Members) × IsTheirs schema document variables U g.first arguments)
            → AllByRecursion Stays (wanted_by_group (r old) U x g)
        by_which (inl fixed) = subst (AllByRecursion Stays) (sym (fixed-quiet fixed old)) tt
        by_which (inr theirs) = by_found theirs.0 theirs.1 (found schema document variables old x g.first theirs.0) refl

    -- a group that asks for nothing brings the same by both
    group-whole : wanted_by_group (r old) U x g ≡ [] → below_group u U x g ≡ below_group v U x g
    group-whole none = by_which (which schema document variables U x g.first)
      where
        by_found : (arguments : Members) → IsTheirs schema document variables U g.first arguments → (o : Option Value)
            → found schema document variables old x g.first arguments ≡ o → below_group u U x g ≡ below_group v U x g
        by_found arguments theirs None is =
            absurd (let e : the_ask arguments theirs ∷ [] ≡ [] = sym (theirs-wanted arguments theirs old is) ∙ none in cc)
        by_found arguments theirs (Some value) is = group-same U x g (theirs-same arguments theirs value is)

        by_which : IsFixed schema document variables U x g.first ⊎ ((arguments : Members) × IsTheirs schema document variables U g.first arguments)
            → below_group u U x g ≡ below_group v U x g
        by_which (inl fixed) = group-same U x g (fixed-same fixed)
        by_which (inr theirs) = by_found theirs.0 theirs.1 (found schema document variables old x g.first theirs.0) refl

    -- and one whose asks the new table tells asks for nothing by it
    group-told : AllByRecursion (λ (ask : Ask). has_key (key_of ask) new ≡ true) (wanted_by_group (r old) U x g) → wanted_by_group (r new) U x g ≡ []
    group-told told = by_which (which schema document variables U x g.first)
      where
        by_new : (arguments : Members) → IsTheirs schema document variables U g.first arguments → (o : Option Value)
            → found schema document variables new x g.first arguments ≡ o → is_some o ≡ true → wanted_by_group (r new) U x g ≡ []
        by_new arguments theirs None is has = absurd (let e : false ≡ true = has in cc)
        by_new arguments theirs (Some value) is has = theirs-quiet arguments theirs new value is

        by_found : (arguments : Members) → IsTheirs schema document variables U g.first arguments → (o : Option Value)
            → found schema document variables old x g.first arguments ≡ o → wanted_by_group (r new) U x g ≡ []
        by_found arguments theirs None is =
            let has = (subst (AllByRecursion (λ (ask : Ask). has_key (key_of ask) new ≡ true)) (theirs-wanted arguments theirs old is) told).0 in
            by_new arguments theirs (found schema document variables new x g.first arguments) refl has
        by_found arguments theirs (Some value) is = theirs-quiet arguments theirs new value (told-same x g arguments value is)

        by_which : IsFixed schema document variables U x g.first ⊎ ((arguments : Members) × IsTheirs schema document variables U g.first arguments)
            → wanted_by_group (r new) U x g ≡ []
        by_which (inl fixed) = fixed-quiet fixed new
        by_which (inr theirs) = by_found theirs.0 theirs.1 (found schema document variables old x g.first theirs.0) refl

  abbrev here : Table → Request Known
  here table = by schema document variables table

  abbrev groups_at : KnownStand → List Group
  groups_at s = u.groups s.type s.selection

  groups-of : (U : ObjectType) (x : Known) (gs : List Group) → AreOf (below_groups u U x gs) (below_groups v U x gs)
  groups-of U x gs = flat-of (below_group u U x) (below_group v U x) (group-of U x) gs gs (all-own gs)

  level-of : (root : KnownStand) (n : ℕ) → AreOf (level u root n) (level v root n)
  level-of root zero = (inl refl, tt)
  level-of root (suc n) =
      flat-of (below_stand u) (below_stand v) (λ s. groups-of s.type s.object (groups_at s)) (level u root n) (level v root n) (level-of root n)

  abbrev IsThere : Ask → Type 0
  IsThere ask = has_key (key_of ask) new ≡ true

  abbrev Still : KnownStand → ℕ → Ask → Type 0
  Still root n ask = (has_key (key_of ask) new ≡ true) ⊎ IsOneOf ask (wanted (here new) (level v root n))

  -- each ask of the old table is told by the new one or asked by it, at the same level
  pub stays : (root : KnownStand) (n : ℕ)
      → AllByRecursion (λ (ask : Ask). (has_key (key_of ask) new ≡ true) ⊎ IsOneOf ask (wanted (here new) (level v root n))) (wanted (here old) (level u root n))
  stays root n =
      all-flat (Still root n) (wanted_at (here old)) (level u root n)
      (all-weaker (λ s. IsOneOf s (level v root n)) (λ s. AllByRecursion (Still root n) (wanted_at (here old) s)) (λ s one.
      all-flat (Still root n) (wanted_by_group (here old) s.type s.object) (groups_at s)
      (all-weaker (λ g. IsOneOf g (groups_at s)) (λ g. AllByRecursion (Still root n) (wanted_by_group (here old) s.type s.object g)) (λ g there.
      all-weaker (Stays s.type s.object g) (Still root n) (λ ask stays. still s g ask one there stays) (wanted_by_group (here old) s.type s.object g) (group-stays s.type s.object g))
      (groups_at s) (all-own (groups_at s))))
      (level u root n) (level-of root n))
    where
      still : (s : KnownStand) (g : Group) (ask : Ask) → IsOneOf s (level v root n) → IsOneOf g (groups_at s) → Stays s.type s.object g ask
          → Still root n ask
      still s g ask one there (inl told) = inl told
      still s g ask one there (inr asked) =
          inr (one-flat (wanted_at (here new)) s (level v root n) ask one
          (one-flat (wanted_by_group (here new) s.type s.object) g (groups_at s) ask there asked))

  -- stands that ask for nothing bring the same
  stands-whole : (ss : List KnownStand) → wanted (here old) ss ≡ [] → below_stands u ss ≡ below_stands v ss
  stands-whole ss none =
      flat-same (below_stand u) (below_stand v) ss
      (all-weaker (λ s. wanted_at (here old) s ≡ []) (λ s. below_stand u s ≡ below_stand v s) (λ s quiet.
      flat-same (below_group u s.type s.object) (below_group v s.type s.object) (groups_at s)
      (all-weaker (λ g. wanted_by_group (here old) s.type s.object g ≡ []) (λ g. below_group u s.type s.object g ≡ below_group v s.type s.object g)
      (λ g silent. group-whole s.type s.object g silent) (groups_at s) (flat-none (wanted_by_group (here old) s.type s.object) (groups_at s) quiet)))
      ss (flat-none (wanted_at (here old)) ss none))

  pub levels-same : (root : KnownStand) (n : ℕ) → ((k : ℕ) → k < n → wanted (here old) (level u root k) ≡ []) → level u root n ≡ level v root n
  levels-same root zero whole = refl
  levels-same root (suc n) whole =
      stands-whole (level u root n) (whole n (omega arith)) ∙ ap (below_stands v) (levels-same root n (λ k less. whole k (omega (arith, less))))

  -- stands whose asks are told ask for nothing
  stands-told : (ss : List KnownStand) → AllByRecursion (λ (ask : Ask). has_key (key_of ask) new ≡ true) (wanted (here old) ss) → wanted (here new) ss ≡ []
  stands-told ss told =
      none-flat (wanted_at (here new)) ss
      (all-weaker (λ s. AllByRecursion IsThere (wanted_at (here old) s)) (λ s. wanted_at (here new) s ≡ []) (λ s all.
      none-flat (wanted_by_group (here new) s.type s.object) (groups_at s)
      (all-weaker (λ g. AllByRecursion IsThere (wanted_by_group (here old) s.type s.object g)) (λ g. wanted_by_group (here new) s.type s.object g ≡ [])
      (λ g there. group-told s.type s.object g there) (groups_at s) (flat-all IsThere (wanted_by_group (here old) s.type s.object) (groups_at s) all)))
      ss (flat-all IsThere (wanted_at (here old)) ss told))

  pub deeper : (root : KnownStand) (depth : ℕ) → ((k : ℕ) → k < depth → wanted (here old) (level u root k) ≡ [])
      → ((k : ℕ) → AllByRecursion (λ (ask : Ask). has_key (key_of ask) new ≡ true) (wanted (here old) (level u root k)))
      → (k : ℕ) → k < suc depth → wanted (here new) (level v root k) ≡ []
  deeper root depth whole told k less =
      ap (wanted (here new)) (sym (levels-same root k (λ j lower. whole j (omega (arith, less, lower))))) ∙ stands-told (level u root k) (told k)
