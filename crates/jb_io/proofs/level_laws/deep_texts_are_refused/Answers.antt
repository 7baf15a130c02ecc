use Rattle.jb_io.proofs.Deep.{deep_refused}
use Rattle.jb_io.proofs.level_laws.deep_texts_are_refused.Goals as goal

pub returns : goal.returns
returns c = deep_refused
