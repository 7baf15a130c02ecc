use Rattle.std.proofs.Common.{ap, sym, ◌∙◌}
use Rattle.gql_resolvers.specs.Fit.{leaf_misfit_at}
use Rattle.gql_resolvers.specs.Resolved.{gives_leaf}
use Rattle.gql_resolvers.specs.bridge.Seen.{seen, misfit_seen}
use Rattle.gql_exec.specs.bridge.Trails.{spot_of}
use Rattle.gql_response_check.proofs.Returning.{done-leaf, done-misfit}
use Rattle.gql_response_check.proofs.walk.Checking.check_leaf.Goals as goal

pub returns-in-None : goal.returns-in-None
returns-in-None g c =
    let spot = spot_of c.args.place.now in
    let leaf = c.args.leaf.now in
    let fits = ap (λ named. leaf_misfit_at named spot.type leaf) (sym c.requires) ∙ sym c.in_ok-leaf_misfit.ensures ∙ ap misfit_seen c.in-None.is in
    done-leaf c.args.self.now.executing g.O.ObjectValue.type_of g.O.ObjectValue.resolves c.args.reported.now c.args.findings.now c.settle_place.new.findings c.settle_place.result
    spot leaf c.is_leaf.result fits c.is_leaf.ensures c.settle_place.ensures

pub returns-in-Some : goal.returns-in-Some
returns-in-Some g c =
    let spot = spot_of c.args.place.now in
    let leaf = c.args.leaf.now in
    let is = ap (λ named. leaf_misfit_at named spot.type leaf) (sym c.requires) ∙ sym c.in_ok-leaf_misfit.ensures ∙ ap misfit_seen c.in-Some.is in
    done-misfit c.args.self.now.executing g.O.ObjectValue.type_of g.O.ObjectValue.resolves c.args.reported.now c.args.findings.now c.check_misfit.new.findings c.check_misfit.result
    spot (gives_leaf leaf) (seen c.in-Some.misfit) is c.check_misfit.ensures
