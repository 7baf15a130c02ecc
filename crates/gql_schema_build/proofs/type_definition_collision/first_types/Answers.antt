use Rattle.std.proofs.Common.{◌++◌, map, sym, ap, ◌∙◌}
use Rattle.std.proofs.lemmas.List.{map-append, append_assoc}
use Rattle.gql_schema_types.specs.Entries.{put_new, joined, repeat, repeats}
use Rattle.gql_schema_build.specs.DefinitionNames.{definition_name}
use Rattle.gql_schema_build.specs.TypeDefinitionCollision as spec
use Rattle.gql_schema_build.proofs.Firsts.{with_type-named, second-named}
use Rattle.gql_schema_build.specs.declared.type_definition.TypeDefinition.{TypeDefinition}
use Rattle.gql_diag_messages.specs.declared.diagnostic_data.DiagnosticData.{DiagnosticData}
use Rattle.gql_schema_build.proofs.type_definition_collision.first_types.Goals as goal

abbrev tell : TypeDefinition × TypeDefinition → DiagnosticData
tell pair = spec.second pair.0 pair.1

pub loop-definition-preserved : goal.loop-definition-preserved
loop-definition-preserved c =
    let seen = c.loop-definition.invariant.0 in
    let d = c.in-Some.definition in
    let left = c.next.new.self in
    let front = sym c.in-Some.ensures.steps in (
      put_new definition_name seen d,
      c.in_ok-add_first.ensures.types ∙ with_type-named c.loop-definition.types seen d c.loop-definition.invariant.1,
      ap (joined definition_name seen) front ∙ c.loop-definition.invariant.2,
      ap (λ l. l ++ map tell (repeats definition_name (put_new definition_name seen d) left)) (c.in_ok-add_first.ensures.faults ∙ ap (λ l. c.loop-definition.faults ++ l) (second-named c.loop-definition.types seen d c.loop-definition.invariant.1))
          ∙ append_assoc c.loop-definition.faults (map tell (repeat definition_name seen d)) (map tell (repeats definition_name (put_new definition_name seen d) left))
          ∙ ap (λ l. c.loop-definition.faults ++ l) (sym (map-append tell (repeat definition_name seen d) (repeats definition_name (put_new definition_name seen d) left)))
          ∙ ap (λ xs. c.loop-definition.faults ++ map tell (repeats definition_name seen xs)) front
          ∙ c.loop-definition.invariant.3,
    )
