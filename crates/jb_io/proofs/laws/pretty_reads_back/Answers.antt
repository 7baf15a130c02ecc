use Rattle.std.proofs.Common.{◌≤◌, [], refl}
use Rattle.jb_tree.specs.Tree.{tree}
use Rattle.jb_tree.specs.declared.value.Value.{Value}
use Rattle.jb_print.specs.Pretty.{pretty}
use Rattle.jb_read.specs.Spelling.{JsonText}
use Rattle.jb_read.proofs.Complete.{whole_complete}
use Rattle.jb_io.specs.Proper.{IsProper, depth}
use Rattle.jb_io.proofs.PrettyPrinted.{pretty_spelled}
use Rattle.jb_io.proofs.Settled.{settles}
use Rattle.jb_io.proofs.laws.pretty_reads_back.Goals as goal

pretty_text : (v : Value) → IsProper (tree v) → depth (tree v) ≤ 127 → JsonText (pretty v) v
pretty_text v proper shallow = record {
  tree = tree v;
  behind = [];
  spelled = pretty_spelled (tree v) 127 proper shallow;
  nothing_more = refl;
  is_value = settles v proper;
}

pub returns : goal.returns
returns c = record {
  spells = pretty_text;
  reads = λ v proper shallow. whole_complete (pretty v) v (pretty_text v proper shallow);
}
