use Rattle.std.proofs.Common.{◌≡◌, [], drop}
use Rattle.gql_rules_merging.specs.bridge.Gathering.{fields_of}
use Rattle.gql_rules_merging.specs.bridge.Keying.{noted, with_fields}
use Rattle.gql_rules_merging.proofs.response_keys.key_numbers.Given as goal

-- what is noted and what is left make the whole
abbrev pub invariant-loop-field : goal.invariant-loop-field
invariant-loop-field l = with_fields (fields_of (drop l.field-index l.fields)) (noted l.firsts l.keys.items) ≡ with_fields (fields_of l.fields) (noted [] [])
