-- What a run promises of words, by what the run of a wish, of a self-test, or of no command does.
use Rattle.std.proofs.Common.{refl, arith, map, string_bytes, subst}
use Rattle.gql_engine.specs.Program.{IsInput, MustDo, MustRefuse}
use Rattle.gql_engine.specs.Task.{Asks}
use Rattle.gql_engine.specs.declared.task.Task.TheVariants.{Request, SelfTest}
use Rattle.gql_engine.specs.declared.task.Wish.{Wish}
use Rattle.gql_engine.proofs.SelfTestRuns as Tested
use Rattle.gql_engine.proofs.Served.{breaks_off, done_input, other, refused_input, writes_answer, writes_refusal}
use Rattle.gql_engine.proofs.Words.{not_both, one_wish}
use Rattle.gql_engine.proofs.program.run.Goals as goal

pub returns-in-Some-Request-clause-misused : goal.returns-in-Some-Request-clause-misused
returns-in-Some-Request-clause-misused g c =
    λ s. let none = c.serve_requests.ensures.served.misused s in let is = none.0 in cc is

pub returns-in-Some-Request-clause-unasked : goal.returns-in-Some-Request-clause-unasked
returns-in-Some-Request-clause-unasked g c =
    let wish = c.in-Some-Request.wish in
    let asks : Asks (map string_bytes c.args.words.now) (Request wish) = rw c.in-Some-Request.field-0-is at c.in-Some-Request.ensures in
    λ none. absurd (none (Request wish) asks)

pub returns-in-Some-Request-clause-unread : goal.returns-in-Some-Request-clause-unread
returns-in-Some-Request-clause-unread g c =
    let wish = c.in-Some-Request.wish in
    let asks : Asks (map string_bytes c.args.words.now) (Request wish) = rw c.in-Some-Request.field-0-is at c.in-Some-Request.ensures in
    λ none. absurd (none (wish, asks))

pub returns-in-Some-Request-clause-answered : goal.returns-in-Some-Request-clause-answered
returns-in-Some-Request-clause-answered g c =
    let wish = c.in-Some-Request.wish in
    let asks : Asks (map string_bytes c.args.words.now) (Request wish) = rw c.in-Some-Request.field-0-is at c.in-Some-Request.ensures in
    λ s. writes_answer _ _ (map string_bytes c.args.words.now) wish asks _ _ _ _ (c.serve_requests.ensures.served.answered s)

pub returns-in-Some-Request-clause-refused : goal.returns-in-Some-Request-clause-refused
returns-in-Some-Request-clause-refused g c =
    let wish = c.in-Some-Request.wish in
    let asks : Asks (map string_bytes c.args.words.now) (Request wish) = rw c.in-Some-Request.field-0-is at c.in-Some-Request.ensures in
    λ s. writes_refusal c.args.steps.now c.args.steps.now (map string_bytes c.args.words.now) wish asks _ _ _ _ (c.serve_requests.ensures.served.refused s)

pub returns-in-Some-Request-clause-source_failed : goal.returns-in-Some-Request-clause-source_failed
returns-in-Some-Request-clause-source_failed g c =
    let wish = c.in-Some-Request.wish in
    let asks : Asks (map string_bytes c.args.words.now) (Request wish) = rw c.in-Some-Request.field-0-is at c.in-Some-Request.ensures in
    λ s. ((wish, asks), c.serve_requests.ensures.served.source_failed s)

pub returns-in-Some-Request-clause-too_long : goal.returns-in-Some-Request-clause-too_long
returns-in-Some-Request-clause-too_long g c =
    let wish = c.in-Some-Request.wish in
    let asks : Asks (map string_bytes c.args.words.now) (Request wish) = rw c.in-Some-Request.field-0-is at c.in-Some-Request.ensures in
    λ s. ((wish, asks), c.serve_requests.ensures.served.too_long s)

pub returns-in-Some-Request-clause-within : goal.returns-in-Some-Request-clause-within
returns-in-Some-Request-clause-within g c =
    λ s reads. c.serve_requests.ensures.served.within s

pub returns-in-Some-Request-clause-broken_off : goal.returns-in-Some-Request-clause-broken_off
returns-in-Some-Request-clause-broken_off g c =
    let wish = c.in-Some-Request.wish in
    let asks : Asks (map string_bytes c.args.words.now) (Request wish) = rw c.in-Some-Request.field-0-is at c.in-Some-Request.ensures in
    λ s some. breaks_off _ _ (map string_bytes c.args.words.now) wish asks _ _ _ _ (c.serve_requests.ensures.served.broken_off s)

pub returns-in-Some-Request-clause-done : goal.returns-in-Some-Request-clause-done
returns-in-Some-Request-clause-done g c =
    let wish = c.in-Some-Request.wish in
    let asks : Asks (map string_bytes c.args.words.now) (Request wish) = rw c.in-Some-Request.field-0-is at c.in-Some-Request.ensures in
    λ wished asked must. c.serve_requests.ensures.done (done_input wish _ (subst (λ (w : Wish). IsInput (MustDo w) (g.S.Source.left c.args.source.now)) (one_wish (map string_bytes c.args.words.now) wished wish asked asks) must))

pub returns-in-Some-Request-clause-caused : goal.returns-in-Some-Request-clause-caused
returns-in-Some-Request-clause-caused g c =
    let wish = c.in-Some-Request.wish in
    let asks : Asks (map string_bytes c.args.words.now) (Request wish) = rw c.in-Some-Request.field-0-is at c.in-Some-Request.ensures in
    λ wished asked must. c.serve_requests.ensures.caused (refused_input wish _ (subst (λ (w : Wish). IsInput (MustRefuse w) (g.S.Source.left c.args.source.now)) (one_wish (map string_bytes c.args.words.now) wished wish asked asks) must))

pub returns-in-Some-Request-clause-self_tested : goal.returns-in-Some-Request-clause-self_tested
returns-in-Some-Request-clause-self_tested g c =
    let wish = c.in-Some-Request.wish in
    let asks : Asks (map string_bytes c.args.words.now) (Request wish) = rw c.in-Some-Request.field-0-is at c.in-Some-Request.ensures in
    λ items asked. absurd (not_both (map string_bytes c.args.words.now) wish items asks asked)

pub returns-in-Some-SelfTest-clause-statuses : goal.returns-in-Some-SelfTest-clause-statuses
returns-in-Some-SelfTest-clause-statuses g c =
    Tested.statuses _ _ _ _ _ _ _ _ _ c.run_self_test.ensures

pub returns-in-Some-SelfTest-clause-misused : goal.returns-in-Some-SelfTest-clause-misused
returns-in-Some-SelfTest-clause-misused g c =
    λ s. absurd (Tested.other _ _ _ _ _ _ _ _ _ 2 c.run_self_test.ensures s (λ e. omega (arith, e)) (λ e. omega (arith, e)) (λ e. omega (arith, e)))

pub returns-in-Some-SelfTest-clause-unasked : goal.returns-in-Some-SelfTest-clause-unasked
returns-in-Some-SelfTest-clause-unasked g c =
    let items = c.in-Some-SelfTest.items in
    let asks : Asks (map string_bytes c.args.words.now) (SelfTest items) = rw c.in-Some-SelfTest.field-0-is at c.in-Some-SelfTest.ensures in
    λ none. absurd (none (SelfTest items) asks)

pub returns-in-Some-SelfTest-clause-answered : goal.returns-in-Some-SelfTest-clause-answered
returns-in-Some-SelfTest-clause-answered g c =
    let items = c.in-Some-SelfTest.items in
    let asks : Asks (map string_bytes c.args.words.now) (SelfTest items) = rw c.in-Some-SelfTest.field-0-is at c.in-Some-SelfTest.ensures in
    λ s. Tested.writes _ _ _ _ _ _ _ _ _ (map string_bytes c.args.words.now) asks _ _ c.run_self_test.ensures s

pub returns-in-Some-SelfTest-clause-refused : goal.returns-in-Some-SelfTest-clause-refused
returns-in-Some-SelfTest-clause-refused g c =
    λ s. absurd (Tested.other _ _ _ _ _ _ _ _ _ 1 c.run_self_test.ensures s (λ e. omega (arith, e)) (λ e. omega (arith, e)) (λ e. omega (arith, e)))

pub returns-in-Some-SelfTest-clause-nothing_written : goal.returns-in-Some-SelfTest-clause-nothing_written
returns-in-Some-SelfTest-clause-nothing_written g c =
    Tested.nothing_written _ _ _ _ _ _ _ _ _ c.run_self_test.ensures

pub returns-in-Some-SelfTest-clause-source_failed : goal.returns-in-Some-SelfTest-clause-source_failed
returns-in-Some-SelfTest-clause-source_failed g c =
    λ s. absurd (Tested.other _ _ _ _ _ _ _ _ _ 4 c.run_self_test.ensures s (λ e. omega (arith, e)) (λ e. omega (arith, e)) (λ e. omega (arith, e)))

pub returns-in-Some-SelfTest-clause-too_long : goal.returns-in-Some-SelfTest-clause-too_long
returns-in-Some-SelfTest-clause-too_long g c =
    λ s. absurd (Tested.other _ _ _ _ _ _ _ _ _ 6 c.run_self_test.ensures s (λ e. omega (arith, e)) (λ e. omega (arith, e)) (λ e. omega (arith, e)))

pub returns-in-Some-SelfTest-clause-within : goal.returns-in-Some-SelfTest-clause-within
returns-in-Some-SelfTest-clause-within g c =
    let items = c.in-Some-SelfTest.items in
    let asks : Asks (map string_bytes c.args.words.now) (SelfTest items) = rw c.in-Some-SelfTest.field-0-is at c.in-Some-SelfTest.ensures in
    λ s reads. absurd (not_both (map string_bytes c.args.words.now) reads.0 items reads.1 asks)

pub returns-in-Some-SelfTest-clause-sink_failed : goal.returns-in-Some-SelfTest-clause-sink_failed
returns-in-Some-SelfTest-clause-sink_failed g c =
    Tested.sink_failed _ _ _ _ _ _ _ _ _ c.run_self_test.ensures

pub returns-in-Some-SelfTest-clause-broken_off : goal.returns-in-Some-SelfTest-clause-broken_off
returns-in-Some-SelfTest-clause-broken_off g c =
    let items = c.in-Some-SelfTest.items in
    let asks : Asks (map string_bytes c.args.words.now) (SelfTest items) = rw c.in-Some-SelfTest.field-0-is at c.in-Some-SelfTest.ensures in
    λ s some. Tested.breaks_off _ _ _ _ _ _ _ _ _ (map string_bytes c.args.words.now) asks _ _ c.run_self_test.ensures s

pub returns-in-Some-SelfTest-clause-done : goal.returns-in-Some-SelfTest-clause-done
returns-in-Some-SelfTest-clause-done g c =
    let items = c.in-Some-SelfTest.items in
    let asks : Asks (map string_bytes c.args.words.now) (SelfTest items) = rw c.in-Some-SelfTest.field-0-is at c.in-Some-SelfTest.ensures in
    λ wish asked must. absurd (not_both (map string_bytes c.args.words.now) wish items asked asks)

pub returns-in-Some-SelfTest-clause-caused : goal.returns-in-Some-SelfTest-clause-caused
returns-in-Some-SelfTest-clause-caused g c =
    let items = c.in-Some-SelfTest.items in
    let asks : Asks (map string_bytes c.args.words.now) (SelfTest items) = rw c.in-Some-SelfTest.field-0-is at c.in-Some-SelfTest.ensures in
    λ wish asked must. absurd (not_both (map string_bytes c.args.words.now) wish items asked asks)

pub returns-in-Some-SelfTest-clause-self_tested : goal.returns-in-Some-SelfTest-clause-self_tested
returns-in-Some-SelfTest-clause-self_tested g c =
    λ count asked. Tested.self_tested _ _ _ _ _ _ _ _ _ c.run_self_test.ensures

pub returns-in-None-clause-misused : goal.returns-in-None-clause-misused
returns-in-None-clause-misused g c =
    λ s. let told = c.serve_requests-in-None.ensures.served.misused s in (c.in-None.ensures, told.1)

pub returns-in-None-clause-unasked : goal.returns-in-None-clause-unasked
returns-in-None-clause-unasked g c =
    λ none. c.serve_requests-in-None.ensures.served.unasked refl

pub returns-in-None-clause-unread : goal.returns-in-None-clause-unread
returns-in-None-clause-unread g c =
    λ none. c.serve_requests-in-None.ensures.served.unread refl

pub returns-in-None-clause-answered : goal.returns-in-None-clause-answered
returns-in-None-clause-answered g c =
    λ s. absurd (c.serve_requests-in-None.ensures.served.answered s)

pub returns-in-None-clause-refused : goal.returns-in-None-clause-refused
returns-in-None-clause-refused g c =
    λ s. absurd (c.serve_requests-in-None.ensures.served.refused s)

pub returns-in-None-clause-source_failed : goal.returns-in-None-clause-source_failed
returns-in-None-clause-source_failed g c =
    λ s. absurd (other _ 4 (c.serve_requests-in-None.ensures.served.unasked refl) s (λ e. omega (arith, e)) (λ e. omega (arith, e)))

pub returns-in-None-clause-too_long : goal.returns-in-None-clause-too_long
returns-in-None-clause-too_long g c =
    λ s. absurd (other _ 6 (c.serve_requests-in-None.ensures.served.unasked refl) s (λ e. omega (arith, e)) (λ e. omega (arith, e)))

pub returns-in-None-clause-within : goal.returns-in-None-clause-within
returns-in-None-clause-within g c =
    λ s reads. absurd (c.in-None.ensures (Request reads.0) reads.1)

pub returns-in-None-clause-broken_off : goal.returns-in-None-clause-broken_off
returns-in-None-clause-broken_off g c =
    λ s some. absurd (some c.in-None.ensures)

pub returns-in-None-clause-done : goal.returns-in-None-clause-done
returns-in-None-clause-done g c =
    λ wish asked must. absurd (c.in-None.ensures (Request wish) asked)

pub returns-in-None-clause-caused : goal.returns-in-None-clause-caused
returns-in-None-clause-caused g c =
    λ wish asked must. absurd (c.in-None.ensures (Request wish) asked)

pub returns-in-None-clause-self_tested : goal.returns-in-None-clause-self_tested
returns-in-None-clause-self_tested g c =
    λ items asked. absurd (c.in-None.ensures (SelfTest items) asked)
