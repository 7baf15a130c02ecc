-- A response, computed.
use Rattle.std.proofs.Common.{arith, ◌≡◌, ℕ, zero, suc, List, [], ◌∷◌, sym, ap, ◌∙◌, subst}
use Rattle.std.specs.Prelude.{⊤}
use Rattle.std.specs.Fmt.{digits}
use Rattle.std.specs.List.{filter}
use Rattle.gql_document_types.specs.declared.selection.Field.{Field}
use Rattle.gql_document_types.specs.declared.selection.Selection.{Selection}
use Rattle.gql_collect.specs.Flat.{flat, flat_sets}
use Rattle.gql_collect.specs.Groups.{groups_of, is_defined}
use Rattle.gql_document_types.specs.Ranks.{AreRanked}
use Rattle.gql_resolvers.specs.Depth.{Suffices}
use Rattle.gql_resolvers.specs.Execute.{Made, Member, execute, groups_made}
use Rattle.gql_resolvers.specs.Trail.{Trail}
use Rattle.gql_resolvers.specs.World.{World}
use Rattle.gql_exec.specs.Group.{Group, groups_from}
use Rattle.gql_exec.specs.Nesting.{nesting}
use Rattle.gql_exec.specs.RequestWorld.{plain_world, setting_on}
use Rattle.gql_exec.proofs.Nests.{suffices}
use Rattle.gql_response.specs.Response.{response_value}
use Rattle.gql_response.specs.declared.execution_response.ExecutionResponse.{ExecutionResponse}
use Rattle.gql_schema_types.specs.declared.types.ObjectType.{ObjectType}
use Rattle.gql_source.specs.Lines.{line_starts, line_column}
use Rattle.jb_print.specs.Compact.{compact}
use Rattle.jb_print.specs.Quoted.{escaped}
use Rattle.gql_exec_laws.specs.Example.{Example, Thing, IsAnswered, root, request}

-- what is opened to compute a response and its text
unfoldable pub computed : ⊤
unfolding flat line_starts line_column escaped digits
computed = tt

-- an example has no fragments
pub ranked : AreRanked [] (λ f. zero)
ranked = record { falls = λ a b edge. absurd (omega (arith, edge.1)); bounded = λ f. omega arith }

abbrev pub response_with : Made Member → ExecutionResponse
response_with made = record { errors = made.1; root = made.0 }

module _ (e : Example) where
  abbrev pub world : World Thing ObjectType Group (List (List Selection))
  world = plain_world (request e)

  -- sets whose fields are these are executed as the groups of these
  pub executed : (d : ℕ) (U : ObjectType) (x : Thing) (outer : Trail) (sets : List (List Selection)) (fields : List Field) (gs : List Group)
      → flat_sets (setting_on (request e) U) sets ≡ fields → groups_from (filter (is_defined e.schema U) (groups_of fields)) ≡ gs
      → execute world (suc d) U x outer sets ≡ groups_made world (execute world d) U x outer gs
  executed d U x outer sets fields gs same grouped =
      ap (λ fs. groups_made world (execute world d) U x outer (groups_from (filter (is_defined e.schema U) (groups_of fs)))) same
      ∙ ap (groups_made world (execute world d) U x outer) grouped

  pub answered : (d : ℕ) (made : Made Member) → nesting [] (e.selections ∷ []) ≡ d
      → execute world d e.root_type root [] (e.selections ∷ []) ≡ made → compact (response_value (response_with made)) ≡ e.answer → IsAnswered e
  answered d made deep same printed = record {
    response = response_with made;
    executed = record {
      depth = d;
      enough =
          subst (λ n. Suffices world n e.root_type (e.selections ∷ [])) deep
          (suffices (request e) (λ f. zero) ranked e.root_type (e.selections ∷ []));
      is = ap response_with (sym same);
    };
    printed = printed;
  }
