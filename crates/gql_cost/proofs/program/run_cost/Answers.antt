use Rattle.gql_cost.proofs.program.run_cost.Goals as goal

pub returns : goal.returns
returns g c =
    let is = c.serve_requests_uncounted.ensures in
    record {
      asked = c.limit_asked.result;
      asks = c.limit_asked.ensures;
      before = is.served.0;
      after = is.served.1;
      served = is.served.2;
      done = is.done;
      caused = is.caused;
    }
