use Rattle.jb_io.proofs.Alike.{whole_alike}
use Rattle.jb_io.proofs.Nested.{whole_nested}
use Rattle.jb_io.proofs.level_laws.fewer_levels_only_refuse.Goals as goal

pub returns : goal.returns
returns c = record { alike = λ few many bytes le. whole_alike few many bytes le; nested = whole_nested }
