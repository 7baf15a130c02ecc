use Rattle.std.proofs.Common.{List, length, refl, false}
use Rattle.std.specs.Prelude.{Bool, replicate}
use Rattle.gql_checker_laws.specs.Claims.{marked}
use Rattle.gql_checker_laws.specs.Walk.{whole_found}
use Rattle.gql_checker_laws.proofs.Decides.{marks_are, bad_verdict, explained_verdict, verdict_explained}
use Rattle.gql_checker_laws.proofs.verdict_laws.walks_give_the_verdict.Goals as goal

pub returns : goal.returns
returns types c = record {
  explained = λ w lawful root initial all depth enough response.
      let errors = response.errors in
      let given = response.root in
      let marks : List Bool = marked (whole_found w depth root initial all given errors).told (replicate (length errors) false) in
      let are = marks_are w root initial all lawful depth enough errors given (length errors) refl in (
        λ h.
            let r = explained_verdict w root initial all lawful depth enough errors given marks are h.0 h.1 in
            record { faults = r.faults; explained = r.explained },
        λ r. verdict_explained w root initial all lawful depth enough errors given marks are (record { faults = r.faults; explained = r.explained }),
      );
  bad = λ w lawful root initial all depth enough response none path e.
      let errors = response.errors in
      let given = response.root in
      let marks : List Bool = marked (whole_found w depth root initial all given errors).told (replicate (length errors) false) in
      let are = marks_are w root initial all lawful depth enough errors given (length errors) refl in
      let r = bad_verdict w root initial all lawful depth enough errors given marks are none path e in
      record { faults = r.faults; bad = r.bad };
}
