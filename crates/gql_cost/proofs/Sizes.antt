-- Sizes of types, level by level.
use Rattle.std.proofs.Common.{arith, ◌≡◌, ℕ, zero, suc, ◌+◌, ◌*◌, ◌≤◌, Bool, true, false, is_some, refl, ap, ◌∙◌, mul-add, mul-le-mul_left}
use Rattle.gql_ast_base.specs.TypeParts.{item_level}
use Rattle.gql_ast_base.specs.declared.type_ref.TypeRef.{TypeRef, fold-TypeRef, out-TypeRef, fold_out-TypeRef}
use Rattle.gql_ast_base.specs.declared.type_ref.TypeRef as ref
use Rattle.gql_ast_base.specs.declared.type_ref.TypeRef.TheOpen.{TypeRef-F}
use Rattle.gql_resolvers.specs.Lists.{is_list}
use Rattle.gql_resolvers.specs.Types as places
use Rattle.gql_valid_laws.specs.Covariant.{list_level, lists_in}
use Rattle.gql_cost.specs.Size.{size_level, size}

module _ (items : ℕ) (c : ℕ) where
  size-out : (ty : TypeRef) → size items ty c ≡ size_level items c (ref.map-TypeRef TypeRef ℕ (λ t. size items t c) (out-TypeRef ty))
  size-out ty = fold_out-TypeRef ℕ (size_level items c) ty

  -- at the type of a list
  pub size-list : (ty : TypeRef) → is_list ty ≡ true → size items ty c ≡ 1 + items * size items (places.item_type ty) c
  size-list ty list = size-out ty ∙ by (out-TypeRef ty) list
    where
      by : (k : TypeRef-F TypeRef) → is_some (item_level k) ≡ true
          → size_level items c (ref.map-TypeRef TypeRef ℕ (λ t. size items t c) k) ≡ 1 + items * size items (places.item_level ty k) c
      by (TypeRef-F.Named name) e = absurd (let f : false ≡ true = e in cc)
      by (TypeRef-F.NonNullNamed name) e = absurd (let f : false ≡ true = e in cc)
      by (TypeRef-F.List item) e = refl
      by (TypeRef-F.NonNullList item) e = refl

  -- and at any other
  pub size-name : (ty : TypeRef) → is_list ty ≡ false → size items ty c ≡ 1 + c
  size-name ty none = size-out ty ∙ by (out-TypeRef ty) none
    where
      by : (k : TypeRef-F TypeRef) → is_some (item_level k) ≡ false → size_level items c (ref.map-TypeRef TypeRef ℕ (λ t. size items t c) k) ≡ 1 + c
      by (TypeRef-F.Named name) e = refl
      by (TypeRef-F.NonNullNamed name) e = refl
      by (TypeRef-F.List item) e = absurd (let f : true ≡ false = e in cc)
      by (TypeRef-F.NonNullList item) e = absurd (let f : true ≡ false = e in cc)

  -- a node at the least
  pub size-one : (ty : TypeRef) → 1 ≤ size items ty c
  size-one ty = by (is_list ty) refl
    where
      by : (b : Bool) → is_list ty ≡ b → 1 ≤ size items ty c
      by true is = omega (arith, size-list ty is)
      by false is = omega (arith, size-name ty is)

-- ---- by the number of lists inside one another

abbrev pub tower : ℕ → ℕ → ℕ → ℕ
tower items zero c = 1 + c
tower items (suc h) c = 1 + items * tower items h c

module _ (items : ℕ) where
  lists-out : (ty : TypeRef) → lists_in ty ≡ list_level (ref.map-TypeRef TypeRef ℕ lists_in (out-TypeRef ty))
  lists-out ty = fold_out-TypeRef ℕ list_level ty

  lists-list : (ty : TypeRef) → is_list ty ≡ true → lists_in ty ≡ suc (lists_in (places.item_type ty))
  lists-list ty list = lists-out ty ∙ by (out-TypeRef ty) list
    where
      by : (k : TypeRef-F TypeRef) → is_some (item_level k) ≡ true → list_level (ref.map-TypeRef TypeRef ℕ lists_in k) ≡ suc (lists_in (places.item_level ty k))
      by (TypeRef-F.Named name) e = absurd (let f : false ≡ true = e in cc)
      by (TypeRef-F.NonNullNamed name) e = absurd (let f : false ≡ true = e in cc)
      by (TypeRef-F.List item) e = refl
      by (TypeRef-F.NonNullList item) e = refl

  lists-name : (ty : TypeRef) → is_list ty ≡ false → lists_in ty ≡ 0
  lists-name ty none = lists-out ty ∙ by (out-TypeRef ty) none
    where
      by : (k : TypeRef-F TypeRef) → is_some (item_level k) ≡ false → list_level (ref.map-TypeRef TypeRef ℕ lists_in k) ≡ 0
      by (TypeRef-F.Named name) e = refl
      by (TypeRef-F.NonNullNamed name) e = refl
      by (TypeRef-F.List item) e = absurd (let f : true ≡ false = e in cc)
      by (TypeRef-F.NonNullList item) e = absurd (let f : true ≡ false = e in cc)

  -- so many levels down
  size-to : (n : ℕ) (ty : TypeRef) (c : ℕ) → lists_in ty ≡ n → size items ty c ≡ tower items n c
  size-to zero ty c is = by (is_list ty) refl
    where
      by : (b : Bool) → is_list ty ≡ b → size items ty c ≡ tower items zero c
      by true list = absurd (omega (arith, lists-list ty list, is))
      by false list = size-name items c ty list
  size-to (suc n) ty c is = by (is_list ty) refl (size-to n (places.item_type ty) c)
    where
      by : (b : Bool) → is_list ty ≡ b → (lists_in (places.item_type ty) ≡ n → size items (places.item_type ty) c ≡ tower items n c)
          → size items ty c ≡ tower items (suc n) c
      by true list rest = size-list items c ty list ∙ ap (λ k. 1 + items * k) (rest (omega (arith, lists-list ty list, is)))
      by false list rest = absurd (omega (arith, lists-name ty list, is))

  pub size-tower : (ty : TypeRef) (c : ℕ) → size items ty c ≡ tower items (lists_in ty) c
  size-tower ty c = size-to (lists_in ty) ty c refl

  -- what is below is in one place at most as much as in two
  pub tower-add : (h a b : ℕ) → tower items h (a + b) ≤ tower items h a + tower items h b
  tower-add zero a b = omega arith
  tower-add (suc h) a b =
      omega (arith, mul-le-mul_left items (tower-add h a b), mul-add items (tower items h a) (tower items h b))
