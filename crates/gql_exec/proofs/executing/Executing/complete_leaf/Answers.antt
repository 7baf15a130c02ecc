use Rattle.std.proofs.Common.{[], ◌∷◌, Some, refl, sym, ap, ◌∙◌}
use Rattle.gql_resolvers.specs.Fit.{leaf_misfit_at}
use Rattle.gql_resolvers.specs.bridge.Seen.{seen, misfit_seen}
use Rattle.gql_resolvers.specs.Execute.{execute}
use Rattle.gql_resolvers.specs.Resolved.{gives_leaf}
use Rattle.gql_exec.specs.bridge.Executing.{world_of}
use Rattle.gql_exec.specs.bridge.Output.{IsWritten}
use Rattle.gql_exec.specs.bridge.Trails.{spot_of}
use Rattle.gql_exec.proofs.Completing.{made-as, made-value, completed-fits}
use Rattle.gql_exec.proofs.Done.{done-misfit}
use Rattle.gql_exec.proofs.executing.Executing.complete_leaf.Goals as goal

pub returns-in_ok-value-in-None : goal.returns-in_ok-value-in-None
returns-in_ok-value-in-None g c =
    let w = world_of c.args.self.now g.O.ObjectValue.type_of g.O.ObjectValue.resolves in
    let spot = spot_of c.args.place.now in
    let v = c.args.value in
    let errors = c.args.errors.now in
    let fits = ap (λ named. leaf_misfit_at named spot.type v) (sym c.requires) ∙ sym c.in_ok-leaf_misfit.ensures ∙ ap misfit_seen c.in-None.is in
    record {
      found = Some (v ∷ []);
      are = (v, c.in_ok-value-in-None.ensures, refl);
      hold = λ depth enough. made-as _ _ errors errors _ _ refl (sym (completed-fits w (execute w depth) spot (gives_leaf v) fits)) (made-value (v ∷ []) errors);
    }

pub returns-in-Some : goal.returns-in-Some
returns-in-Some g c =
    let w = world_of c.args.self.now g.O.ObjectValue.type_of g.O.ObjectValue.resolves in
    let spot = spot_of c.args.place.now in
    let v = c.args.value in
    let misfit = seen c.in-Some.misfit in
    let is = ap (λ named. leaf_misfit_at named spot.type v) (sym c.requires) ∙ sym c.in_ok-leaf_misfit.ensures ∙ ap misfit_seen c.in-Some.is in
    done-misfit w c.args.errors.now c.refuse.new.errors (λ done. IsWritten g.M.Output.is_made c.args.out.now c.refuse.new.out done) c.refuse.result spot (gives_leaf v) misfit is c.refuse.ensures
