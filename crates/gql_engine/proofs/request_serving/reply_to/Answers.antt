-- What the prover leaves open of `reply_to`: the request that the bytes are is the one that is replied to.
use Rattle.std.proofs.Common.{◌≡◌, Ok, Err, subst}
use Rattle.gql_engine.specs.NotAsked.{no_request, no_text}
use Rattle.gql_engine.specs.Request.{asked, asked_in}
use Rattle.gql_engine.specs.declared.request_form.RequestForm.{RequestForm}
use Rattle.gql_engine.proofs.CommandRuns.{message_replied, must_not_of, must_of, none_must, request_replied}
use Rattle.gql_engine.proofs.request_serving.reply_to.Goals as goal

pub returns-in-Err-Fault-clause-is : goal.returns-in-Err-Fault-clause-is
returns-in-Err-Fault-clause-is g c =
    message_replied g.C.RequestCommand.form_of g.C.RequestCommand.answers g.C.RequestCommand.refuses c.args.command.now c.args.bytes.now _ _ _
    (no_text c.in-Err-Fault.fault (rw c.in-Err-Fault.field-0-is at c.in-Err-Fault.ensures.broken)) c.refused_bytes.result c.refused_bytes.ensures

pub returns-in-Err-Fault-clause-done : goal.returns-in-Err-Fault-clause-done
returns-in-Err-Fault-clause-done g c = λ must.
    absurd (none_must c.bytes_ask_one_thing.ensures.request c.bytes_ask_one_thing.ensures.not_both g.C.RequestCommand.form_of g.C.RequestCommand.must_answer
    c.args.command.now c.args.bytes.now _ (no_text c.in-Err-Fault.fault (rw c.in-Err-Fault.field-0-is at c.in-Err-Fault.ensures.broken)) must)

pub returns-in-Ok-decode-clause-is : goal.returns-in-Ok-decode-clause-is
returns-in-Ok-decode-clause-is g c =
    request_replied g.C.RequestCommand.form_of g.C.RequestCommand.answers g.C.RequestCommand.refuses c.args.command.now c.args.bytes.now _ _ (asked_in c.in-Ok-decode.request)
    (record {
      value = c.in-Ok.value;
      read = c.in-Ok.ensures.spelled;
      asks = subst (λ (f : RequestForm). asked f c.in-Ok.value ≡ Ok (asked_in c.in-Ok-decode.request)) c.request_form.ensures c.in-Ok-decode.ensures.is;
    }) c.reply.result c.reply.ensures.is

pub returns-in-Ok-decode-clause-done : goal.returns-in-Ok-decode-clause-done
returns-in-Ok-decode-clause-done g c = λ must.
    c.reply.ensures.done (must_of c.bytes_ask_one_thing.ensures.request c.bytes_ask_one_thing.ensures.not_both g.C.RequestCommand.form_of g.C.RequestCommand.must_answer
    c.args.command.now c.args.bytes.now (asked_in c.in-Ok-decode.request)
    (record {
      value = c.in-Ok.value;
      read = c.in-Ok.ensures.spelled;
      asks = subst (λ (f : RequestForm). asked f c.in-Ok.value ≡ Ok (asked_in c.in-Ok-decode.request)) c.request_form.ensures c.in-Ok-decode.ensures.is;
    }) must)

pub returns-in-Ok-decode-clause-caused : goal.returns-in-Ok-decode-clause-caused
returns-in-Ok-decode-clause-caused g c = λ must.
    c.reply.ensures.caused (must_not_of c.bytes_ask_one_thing.ensures.request c.bytes_ask_one_thing.ensures.not_both g.C.RequestCommand.form_of g.C.RequestCommand.must_refuse
    c.args.command.now c.args.bytes.now (asked_in c.in-Ok-decode.request)
    (record {
      value = c.in-Ok.value;
      read = c.in-Ok.ensures.spelled;
      asks = subst (λ (f : RequestForm). asked f c.in-Ok.value ≡ Ok (asked_in c.in-Ok-decode.request)) c.request_form.ensures c.in-Ok-decode.ensures.is;
    }) must)

pub returns-clause-is : goal.returns-clause-is
returns-clause-is g c =
    message_replied g.C.RequestCommand.form_of g.C.RequestCommand.answers g.C.RequestCommand.refuses c.args.command.now c.args.bytes.now _ _ _
    (no_request c.in-Ok.value c.in-Err.fault c.in-Ok.ensures.spelled (subst (λ (f : RequestForm). asked f c.in-Ok.value ≡ Err c.in-Err.fault) c.request_form.ensures c.in-Err.ensures.is)) c.refused_value.result c.refused_value.ensures

pub returns-clause-done : goal.returns-clause-done
returns-clause-done g c = λ must.
    absurd (none_must c.bytes_ask_one_thing.ensures.request c.bytes_ask_one_thing.ensures.not_both g.C.RequestCommand.form_of g.C.RequestCommand.must_answer
    c.args.command.now c.args.bytes.now _ (no_request c.in-Ok.value c.in-Err.fault c.in-Ok.ensures.spelled (subst (λ (f : RequestForm). asked f c.in-Ok.value ≡ Err c.in-Err.fault) c.request_form.ensures c.in-Err.ensures.is)) must)
