use Rattle.std.proofs.Common.{◌≡◌, ◌+◌, ◌-◌, Some, cond, drop, sym, ap, ◌∙◌, arith}
use Rattle.std.specs.Option.{option_copied}
use Rattle.std.specs.Str.{bytes_eq}
use Rattle.std.specs.Map.{lookup}
use Rattle.gql_coerce.specs.Arguments.{first_named}
use Rattle.gql_coerce.proofs.Found.{found-inserted}
use Rattle.gql_coerce.proofs.Steps.{drop_at}
use Rattle.gql_coerce.proofs.given_arguments.first_by_name.Goals as goal

pub loop-left-preserved : goal.loop-left-preserved
loop-left-preserved c =
    let i = c.loop-left.left - 1 in
    let arguments = c.args.arguments.now in
    let argument = c.index-arguments-left.result in
    let key : c.in_ok-key.key ≡ argument.name.text = c.in_ok-key.ensures ∙ c.as_str.ensures.text in
    let next : i + 1 ≡ c.loop-left.left = omega arith in (
      omega arith,
      λ name.
          ap (λ found. option_copied (lookup (bytes_eq name) found)) c.in_ok-insert.ensures
          ∙ found-inserted c.loop-left.found c.in_ok-key.key _ name
          ∙ ap (λ text. cond (bytes_eq name text) (Some argument) (option_copied (lookup (bytes_eq name) c.loop-left.found))) key
          ∙ ap (cond (bytes_eq name argument.name.text) (Some argument)) (c.loop-left.invariant.1 name ∙ sym (ap (λ n. first_named name (drop n arguments)) next))
          ∙ sym (ap (first_named name) (drop_at arguments i argument (omega arith) c.index-arguments-left.is)),
    )
