-- What the prover leaves open of `serve_command`: what must be refused is, and what a sink took that failed.
use Rattle.std.proofs.Common.{ℕ, List, inl, subst, arith}
use Rattle.jb_io.specs.Sink.{TakesFront}
use Rattle.gql_engine.specs.Serving.{AnswersBytes, MustRefuseBytes, RefusesBytes, text_of}
use Rattle.gql_engine.proofs.CommandRuns.{no_other, output_means, read_input, refused_status}
use Rattle.gql_engine.proofs.request_serving.serve_command.Goals as goal

pub returns-in-Ok-write_all-clause-caused : goal.returns-in-Ok-write_all-clause-caused
returns-in-Ok-write_all-clause-caused g c = λ must.
    inl (refused_status c.in-Ok-reply_to.output c.status.result c.status.ensures (c.in-Ok-reply_to.ensures.caused
    (read_input (MustRefuseBytes g.C.RequestCommand.form_of g.C.RequestCommand.must_refuse c.args.command.now) _ _ c.in-Ok.bytes must c.in-Ok.ensures.whole)))

pub returns-clause-served : goal.returns-clause-served
returns-clause-served g c = λ usage. record {
  statuses = omega arith;
  misused = λ s. absurd (omega (arith, s));
  unasked = λ none. cc none;
  unread = λ none. cc none;
  answered = λ s. absurd (omega (arith, s));
  refused = λ s. absurd (omega (arith, s));
  nothing_written = λ s. no_other s;
  source_failed = λ s. absurd (omega (arith, s));
  too_long = λ s. absurd (omega (arith, s));
  within = λ s. record { bytes = c.in-Ok.bytes; gave = c.in-Ok.ensures.whole.gave; within = c.in-Ok.ensures.whole.within };
  sink_failed = λ s. c.in-Err.ensures.cause;
  broken_off = λ s. record {
    bytes = c.in-Ok.bytes;
    text = text_of c.in-Ok-reply_to.output;
    read = c.in-Ok.ensures.whole;
    means = output_means (AnswersBytes g.C.RequestCommand.form_of g.C.RequestCommand.answers c.args.steps.now c.reply_to.new.steps c.args.command.now c.in-Ok.bytes)
        (RefusesBytes g.C.RequestCommand.form_of g.C.RequestCommand.refuses c.args.command.now c.in-Ok.bytes) c.in-Ok-reply_to.output c.in-Ok-reply_to.ensures.is;
    wrote = subst (λ (text : List ℕ). TakesFront (g.K.Sink.taken c.args.sink.now) (g.K.Sink.taken c.write_all.new.sink) text) c.text.ensures c.in-Err.ensures.front;
  };
}
