-- Where there are no data, none are bad.
use Rattle.std.proofs.Common.{◌≡◌, ℕ, zero, suc, ◌+◌, List, [], ◌∷◌, None, refl, ap, ◌∙◌}
use Rattle.gql_resolvers.specs.Resolved.{Meanings, no_answer, answer_then, answered}
use Rattle.gql_resolvers.specs.Spot.{Spot, item_spot, field_spot}
use Rattle.gql_resolvers.specs.Trail.{Trail}
use Rattle.gql_resolvers.specs.World.{World}
use Rattle.gql_response.specs.declared.path.ResponseDataPathSegment.TheVariants.{Field, ListIndex}
use Rattle.gql_checker_laws.specs.Claims.{Claim, Found, first_of, share}
use Rattle.gql_checker_laws.specs.Walk.{Below, fitting, groups_found, inner_found, items_found, set_found, settled, unless_idle, value_found}

idle-quiet : (cs : List Claim) (f : Found) → f.bad ≡ None → (unless_idle None cs f).bad ≡ None
idle-quiet [] f quiet = refl
idle-quiet (c ∷ cs) f quiet = quiet

module _ {X T G S : Type 0} (w : World X T G S) (run : Below w) where
  pub items-quiet : (list : Spot G) (i : ℕ) (ms : Meanings X) (cs : List Claim) → (items_found w run list i ms None cs).bad ≡ None
  items-quiet list i no_answer cs = refl
  items-quiet list i (answer_then m ms) cs =
      let it = item_spot list i in
      let own = share (ListIndex i) cs in
      ap (λ o. first_of o (items_found w run list (i + 1) ms None cs).bad) (idle-quiet own (settled w it (answered m) None own (fitting w (w.misfit it.type m) (value_found w run it m None own))) refl)
      ∙ items-quiet list (i + 1) ms cs

  pub groups-quiet : (U : T) (x : X) (outer : Trail) (gs : List G) (cs : List Claim) → (groups_found w run U x outer gs None cs).bad ≡ None
  groups-quiet U x outer [] cs = refl
  groups-quiet U x outer (g ∷ gs) cs =
      let spot = field_spot w U outer g in
      let own = share (Field (w.name_of g)) cs in
      ap (λ o. first_of o (groups_found w run U x outer gs None cs).bad) (idle-quiet own (settled w spot (w.asks U x g) None own (inner_found w run spot (w.asks U x g) None own)) refl)
      ∙ groups-quiet U x outer gs cs

pub set-quiet : {X T G S : Type 0} (w : World X T G S) (d : ℕ) (U : T) (x : X) (outer : Trail) (s : S) (cs : List Claim) → (set_found w d U x outer s None cs).bad ≡ None
set-quiet w zero U x outer s cs = refl
set-quiet w (suc d) U x outer s cs = groups-quiet w (set_found w d) U x outer (w.groups U s) cs
