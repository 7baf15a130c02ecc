-- What is written and what is left make the whole text.
use Rattle.std.proofs.Common.{◌≡◌, ◌++◌, drop, string_bytes}
use Rattle.std.specs.List.{flat_map}
use Rattle.gql_engine.specs.Reports.{report_of}
use Rattle.gql_engine.proofs.list_reports.append_reports.Given as goal

abbrev pub invariant-loop-item : goal.invariant-loop-item
invariant-loop-item l =
    string_bytes l.out ++ flat_map (report_of l.sources) (drop l.item-index l.items) ≡ string_bytes l.initial.out ++ flat_map (report_of l.sources) l.items
