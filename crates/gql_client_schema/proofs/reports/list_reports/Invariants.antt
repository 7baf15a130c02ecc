use Rattle.std.proofs.Common.{◌≡◌, ◌++◌, flat_map, drop, string_bytes}
use Rattle.gql_client_schema.specs.Program.{item_report, list_reports}
use Rattle.gql_client_schema.proofs.reports.list_reports.Given as goal

-- what is written and what is left make the whole text
abbrev pub invariant-loop-item : goal.invariant-loop-item
invariant-loop-item l =
    string_bytes l.text ++ flat_map (item_report l.sources) (drop l.item-index l.item-items) ≡ list_reports l.fn.list
