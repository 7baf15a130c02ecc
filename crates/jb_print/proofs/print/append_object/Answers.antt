use Rattle.jb_print.proofs.Compacts.{compact-Object}
use Rattle.jb_print.proofs.print.append_object.Goals as goal

pub returns : goal.returns
returns c = rw compact-Object c.write_members.ensures
