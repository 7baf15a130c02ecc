use Rattle.std.proofs.Common.{ap, ◌∙◌}
use Rattle.gql_response.specs.Reading.{response_read}
use Rattle.gql_response.specs.Response.{response_value}
use Rattle.gql_response.specs.declared.fault.ResponseFault.TheVariants.{Read}
use Rattle.jb_io.specs.Levels.{is_deep_at}
use Rattle.gql_checker.proofs.Own.{deep-read, own-deep, own-explained}
use Rattle.gql_checker.proofs.laws.answers_are_explained.Goals as goal

pub returns-clause-explained : goal.returns-clause-explained
returns-clause-explained types c = λ type_of resolves root wanted bytes answered never held proper shallow.
    let it = answered.executed in
    let ready = answered.ready in
    record {
      ready = ready;
      judged = own-explained type_of resolves root ready.meant.schema ready.meant.document ready.operation ready.variables bytes (response_read bytes)
          wanted.introspection it (it.in_full never) (ap response_read it.written ∙ c.responses_read_back.ensures it.response held proper shallow);
    }

pub returns-clause-deep : goal.returns-clause-deep
returns-clause-deep types c = λ type_of resolves root wanted bytes answered proper deep.
    let it = answered.executed in
    let ready = answered.ready in
    let refused = c.deep_texts_are_refused.ensures (response_value it.response) proper deep in (
      refused.0,
      record {
        ready = ready;
        judged = own-deep type_of resolves root ready.meant.schema ready.meant.document ready.operation ready.variables bytes (response_read bytes)
            wanted.introspection it (Read (is_deep_at refused.0)) (deep-read (response_value it.response) bytes refused.0 it.written refused.1);
      },
    )
