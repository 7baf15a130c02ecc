use Rattle.std.proofs.Common.{Some, ap, ◌∙◌}
use Rattle.gql_engine.specs.Resolving.{meaning_by}
use Rattle.example_structs.specs.Thing.{thing}
use Rattle.gql_engine.proofs.Resolving.{objects-mean}
use Rattle.example_structs.proofs.entity.list.Goals as goal

pub returns : goal.returns
returns c = ap (λ made. Some (meaning_by thing made)) c.in_ok-objects.ensures ∙ ap Some (objects-mean thing c.args.objects)
