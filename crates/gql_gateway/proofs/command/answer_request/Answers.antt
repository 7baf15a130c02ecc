use Rattle.std.proofs.Common.{arith, ◌≡◌, ap, true, subst, ◌∙◌}
use Rattle.std.specs.Borrow.{Bor}
use Rattle.gql_engine.specs.Request.{asked_in}
use Rattle.gql_resolvers.proofs.DataSkips.{data-whole}
use Rattle.gql_resolvers.specs.Data.{Data}
use Rattle.gql_engine.specs.Reply.{root_of}
use Rattle.gql_engine.specs.Wanted.{Members, Wanted, wanted_over}
use Rattle.jb_io.specs.Stream.{HasFailed}
use Rattle.gql_gateway.specs.bridge.Causes.{JoinsOrCause}
use Rattle.gql_gateway.specs.Command.{DataTells, wanted_here}
use Rattle.gql_gateway.proofs.Calls.{local-answered, local-refused}
use Rattle.gql_gateway.proofs.command.answer_request.Goals as goal

pub returns-clause-answered : goal.returns-clause-answered
returns-clause-answered g c =
    let request = c.args.request.now in
    let asked = asked_in request in
    let law = c.requests_want_this.ensures in
    let begins : c.new-remote.result.root.now ≡ root_of asked =
    c.new-remote.ensures ∙ (c.root-root.ensures ∙ law.root request _ c.unwrap_or-2.result c.new-no_members.ensures c.unwrap_or-2.ensures) in
    let given : Wanted =
    wanted_over request.schema.now request.query.now
    (record { operation_name = request.operation_name; variables = c.unwrap_or.result; introspection = true }) in
    let is : given ≡ wanted_here asked =
    ap (λ (values : Bor Members). wanted_over request.schema.now request.query.now
    (record { operation_name = request.operation_name; variables = values; introspection = true })) c.unwrap_or.ensures
    ∙ ap (λ (w : Wanted). record w { introspection = true }) (law.wanted request _ c.new-no_members.ensures) in
    local-answered (DataTells (root_of asked)) (HasFailed 0 0) (wanted_here asked) (λ failed. absurd (omega (arith, failed)))
    (λ key lacks. c.local_gateways_change_nothing.ensures.missing data-whole (root_of asked) (wanted_here asked) key lacks) c.respond_joined.result
    (subst (λ (w : Wanted). JoinsOrCause (DataTells (root_of asked)) (HasFailed 0 0) w c.respond_joined.result) is
    (subst (λ (x : Data). JoinsOrCause (DataTells x) (HasFailed 0 0) given c.respond_joined.result) begins c.respond_joined.ensures.responds))

pub returns-clause-refused : goal.returns-clause-refused
returns-clause-refused g c =
    let request = c.args.request.now in
    let asked = asked_in request in
    let law = c.requests_want_this.ensures in
    let begins : c.new-remote.result.root.now ≡ root_of asked =
    c.new-remote.ensures ∙ (c.root-root.ensures ∙ law.root request _ c.unwrap_or-2.result c.new-no_members.ensures c.unwrap_or-2.ensures) in
    let given : Wanted =
    wanted_over request.schema.now request.query.now
    (record { operation_name = request.operation_name; variables = c.unwrap_or.result; introspection = true }) in
    let is : given ≡ wanted_here asked =
    ap (λ (values : Bor Members). wanted_over request.schema.now request.query.now
    (record { operation_name = request.operation_name; variables = values; introspection = true })) c.unwrap_or.ensures
    ∙ ap (λ (w : Wanted). record w { introspection = true }) (law.wanted request _ c.new-no_members.ensures) in
    local-refused (DataTells (root_of asked)) (HasFailed 0 0) (wanted_here asked) (λ failed. absurd (omega (arith, failed)))
    (λ key lacks. c.local_gateways_change_nothing.ensures.missing data-whole (root_of asked) (wanted_here asked) key lacks) c.respond_joined.result
    (subst (λ (w : Wanted). JoinsOrCause (DataTells (root_of asked)) (HasFailed 0 0) w c.respond_joined.result) is
    (subst (λ (x : Data). JoinsOrCause (DataTells x) (HasFailed 0 0) given c.respond_joined.result) begins c.respond_joined.ensures.responds))
