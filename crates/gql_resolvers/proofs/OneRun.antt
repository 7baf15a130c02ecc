-- Two runs that cut nothing off give the same.
use Rattle.std.proofs.Common.{◌≡◌, ℕ, zero, suc, ◌+◌, List, [], ◌∷◌, refl, sym, ap, ◌∙◌, subst, arith}
use Rattle.gql_resolvers.specs.World.{World}
use Rattle.gql_resolvers.specs.Trail.{Trail}
use Rattle.gql_resolvers.specs.Execute.{execute}
use Rattle.gql_resolvers.specs.Depth.{AllGroups, Suffices}
use Rattle.gql_resolvers.proofs.Deeper.{deeper}

abbrev raised : ℕ → ℕ → ℕ
raised d zero = d
raised d (suc k) = suc (raised d k)

raised_by : (d k : ℕ) → raised d k ≡ d + k
raised_by d zero = omega arith
raised_by d (suc k) = let h = raised_by d k in omega (arith, h)

either_way : (d k : ℕ) → raised d k ≡ raised k d
either_way d k = let h = raised_by d k in let i = raised_by k d in omega (arith, h, i)

module _ {X T G S : Type 0} (w : World X T G S) where
  each_group : (P Q : G → Type 0) (gs : List G) → ((g : G) → P g → Q g) → AllGroups w P gs → AllGroups w Q gs
  each_group P Q [] f p = tt
  each_group P Q (g ∷ gs) f p = (f g p.0, each_group P Q gs f p.1)

  still_enough : (d : ℕ) (U : T) (s : S) → Suffices w d U s → Suffices w (suc d) U s
  still_enough zero U s none = subst (AllGroups w (λ g. (W : T) → Suffices w zero W (w.below g))) (sym none) tt
  still_enough (suc d) U s enough =
      each_group (λ g. (W : T) → Suffices w d W (w.below g)) (λ g. (W : T) → Suffices w (suc d) W (w.below g)) (w.groups U s)
      (λ g h W. still_enough d W (w.below g) (h W)) enough

  enough_at : (d k : ℕ) (U : T) (s : S) → Suffices w d U s → Suffices w (raised d k) U s
  enough_at d zero U s enough = enough
  enough_at d (suc k) U s enough = still_enough (raised d k) U s (enough_at d k U s enough)

  same_at : (d k : ℕ) (U : T) (s : S) → Suffices w d U s → (x : X) (outer : Trail) → execute w (raised d k) U x outer s ≡ execute w d U x outer s
  same_at d zero U s enough x outer = refl
  same_at d (suc k) U s enough x outer = deeper w (raised d k) U s (enough_at d k U s enough) x outer ∙ same_at d k U s enough x outer

  pub one_run : (d k : ℕ) (U : T) (s : S) → Suffices w d U s → Suffices w k U s → (x : X) (outer : Trail) → execute w d U x outer s ≡ execute w k U x outer s
  one_run d k U s enough also x outer =
      sym (same_at d k U s enough x outer) ∙ ap (λ n. execute w n U x outer s) (either_way d k) ∙ same_at k d U s also x outer
