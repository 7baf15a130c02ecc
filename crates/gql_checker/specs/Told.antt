-- How a verdict is told: in one line.
use Rattle.std.specs.Prelude.{ℕ, List, ◌++◌, map, codes}
use Rattle.std.specs.Fmt.{decimal}
use Rattle.jb_print.specs.Compact.{compact}
use Rattle.jb_tree.specs.declared.value.Value.TheVariants as json
use Rattle.gql_resolvers.specs.Trail.{Segment}
use Rattle.gql_response.specs.Response.{segment_value}
use Rattle.gql_response_check.specs.declared.verdict.Verdict.{Verdict}
use Rattle.gql_response_check.specs.declared.verdict.Verdict.TheVariants.{Explained, NotResponse, FalseError, BadValue}

-- a path as a list of JSON: names as texts, places in lists as numbers
abbrev pub path_text : List Segment → List ℕ
path_text path = compact (json.Array (map segment_value path))

-- a verdict in words
abbrev pub told : Verdict → List ℕ
told Explained = codes "explained"
told (NotResponse fault) = codes "not a response"
told (FalseError index) = codes "false error " ++ decimal index
told (BadValue path) = codes "bad value at " ++ path_text path
