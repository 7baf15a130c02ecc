-- Runs that cut nothing off give the same, however deep they are.
use Rattle.std.proofs.Common.{arith, ◌≡◌, ℕ, zero, suc, ◌+◌, List, [], ◌∷◌, refl, sym, ap, ◌∙◌, subst}
use Rattle.gql_resolvers.specs.Depth.{AllGroups, Suffices}
use Rattle.gql_resolvers.specs.Execute.{execute}
use Rattle.gql_resolvers.specs.Trail.{Trail}
use Rattle.gql_resolvers.specs.World.{World}
use Rattle.gql_resolvers.proofs.Deeper.{deeper}

-- a depth with so many steps more
abbrev raised : ℕ → ℕ → ℕ
raised zero d = d
raised (suc n) d = suc (raised n d)

raised-sum : (n d : ℕ) → raised n d ≡ n + d
raised-sum zero d = omega arith
raised-sum (suc n) d = omega (arith, raised-sum n d)

module _ {X T G S : Type 0} (w : World X T G S) where
  pub all_groups : (P Q : G → Type 0) (gs : List G) → ((g : G) → P g → Q g) → AllGroups w P gs → AllGroups w Q gs
  all_groups P Q [] f p = tt
  all_groups P Q (g ∷ gs) f p = (f g p.0, all_groups P Q gs f p.1)

  pub one_more : (d : ℕ) (U : T) (s : S) → Suffices w d U s → Suffices w (suc d) U s
  one_more zero U s enough = subst (λ gs. AllGroups w (λ g. (W : T) → Suffices w zero W (w.below g)) gs) (sym enough) tt
  one_more (suc d) U s enough =
      all_groups (λ g. (W : T) → Suffices w d W (w.below g)) (λ g. (W : T) → Suffices w (suc d) W (w.below g)) (w.groups U s) (λ g h W. one_more d W (w.below g) (h W)) enough

  more : (n d : ℕ) (U : T) (s : S) → Suffices w d U s → Suffices w (raised n d) U s
  more zero d U s enough = enough
  more (suc n) d U s enough = one_more (raised n d) U s (more n d U s enough)

  up : (n d : ℕ) (U : T) (s : S) → Suffices w d U s → (x : X) (outer : Trail) → execute w (raised n d) U x outer s ≡ execute w d U x outer s
  up zero d U s enough x outer = refl
  up (suc n) d U s enough x outer = deeper w (raised n d) U s (more n d U s enough) x outer ∙ up n d U s enough x outer

  pub any-depth : (d e : ℕ) (U : T) (s : S) → Suffices w d U s → Suffices w e U s → (x : X) (outer : Trail) → execute w d U x outer s ≡ execute w e U x outer s
  any-depth d e U s enough other x outer =
      let same : raised e d ≡ raised d e = omega (arith, raised-sum e d, raised-sum d e) in
      sym (up e d U s enough x outer) ∙ ap (λ n. execute w n U x outer s) same ∙ up d e U s other x outer
