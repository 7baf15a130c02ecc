use Rattle.std.proofs.Common.{◌≡◌, ◌++◌, take, string_bytes}
use Rattle.std.specs.List.{flat_map}
use Rattle.gql_diag.specs.Report.{label_line}
use Rattle.gql_diag.proofs.report_text.write_labels.Given as goal

abbrev pub invariant-loop-label : goal.invariant-loop-label
invariant-loop-label l =
    string_bytes l.out ≡ string_bytes l.initial.out ++ flat_map (label_line l.sources) (take l.label-index l.labels)
