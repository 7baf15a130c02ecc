use Rattle.std.proofs.Common.{◌≤◌, [], refl}
use Rattle.jb_tree.specs.Tree.{tree}
use Rattle.jb_tree.specs.declared.value.Value.{Value}
use Rattle.jb_print.specs.Compact.{compact}
use Rattle.jb_read.specs.Spelling.{JsonText}
use Rattle.jb_read.proofs.Complete.{whole_complete}
use Rattle.jb_io.specs.Proper.{IsProper, depth}
use Rattle.jb_io.proofs.Printed.{text_spelled}
use Rattle.jb_io.proofs.Settled.{settles}
use Rattle.jb_io.proofs.laws.compact_reads_back.Goals as goal

compact_text : (v : Value) → IsProper (tree v) → depth (tree v) ≤ 127 → JsonText (compact v) v
compact_text v proper shallow = record {
  tree = tree v;
  behind = [];
  spelled = text_spelled (tree v) 127 proper shallow;
  nothing_more = refl;
  is_value = settles v proper;
}

pub returns : goal.returns
returns c = record {
  spells = compact_text;
  reads = λ v proper shallow. whole_complete (compact v) v (compact_text v proper shallow);
}
