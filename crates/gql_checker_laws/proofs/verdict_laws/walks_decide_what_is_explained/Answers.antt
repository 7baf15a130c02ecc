use Rattle.std.proofs.Common.{length, refl, false}
use Rattle.std.specs.Prelude.{replicate}
use Rattle.gql_checker_laws.specs.Claims.{marked}
use Rattle.gql_checker_laws.specs.Walk.{whole_found}
use Rattle.gql_checker_laws.proofs.Decides.{marks_are, first_unmarked, explained, is_explained, first_bad_is}
use Rattle.gql_checker_laws.proofs.verdict_laws.walks_decide_what_is_explained.Goals as goal

pub returns : goal.returns
returns types c = record {
  errors = λ w lawful root initial all depth enough errors given. marks_are w root initial all lawful depth enough errors given (length errors) refl;
  first = λ w lawful root initial all depth enough errors given index e.
      first_unmarked w root initial all errors (marked (whole_found w depth root initial all given errors).told (replicate (length errors) false)) index
      (marks_are w root initial all lawful depth enough errors given (length errors) refl) e;
  good = λ w lawful root initial all depth enough errors given.
      (λ e. explained w root initial all lawful depth enough errors given e, λ h. is_explained w root initial all lawful depth enough errors given h);
  bad = λ w lawful root initial all depth enough errors given path e. first_bad_is w root initial all lawful depth enough errors given path e;
}
