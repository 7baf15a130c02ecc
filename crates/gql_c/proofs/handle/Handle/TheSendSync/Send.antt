-- A handle may go to another thread, as what it holds may.
use mir.Raw.{raw as bare}
use base.Fraction.{full_share}
use base.Shift.{Keyless}
use denote.Builtin.{RawPtr}
use denote.Exit.{Exit, unchanged, leaves, hidden, under}
use denote.Memory.{lone}
use denote.Param.Send.{IsSend, Quiet, part_keyless, owning_send, struct_send, sendable}
use denote.RawPtr.{Ptr, block_ptr, null_ptr, lies_at}
use denote.Struct.Struct.{exits_of}
use denote.Struct.Owning.{shape, fields, to}
use Rattle.std.proofs.Crossing as heap
use Rattle.std.specs.Prelude.{Option, Some, None}
use Rattle.gql_c.specs.bridge.Handles.{handle_owns}
use Rattle.gql_c.specs.contracts.held.Held as held
use Rattle.gql_c.proofs.Sending.{held_send}
use Rattle.gql_c.specs.contracts.handle.Handle.{the_row, the_type}

lies : (p : Ptr) (x : held.the_row.Denot) → Keyless (lies_at held.the_row full_share p x)
lies (block_ptr b o) x = part_keyless held.the_row held_send full_share x b o
lies null_ptr x = tt

owned : (p : Ptr) (k : Option held.the_row.Denot) → Keyless (handle_owns p k)
owned p None = tt
owned p (Some x) = λ a. (lies p x, heap.frees.frees a (bare (lone held.the_row.mir)) p)

quiet : {D X : Type 0} (f : D → X) (e : Exit X) → Quiet e → Quiet (hidden (under f e))
quiet f unchanged q = λ x w. tt
quiet f (leaves L l S s r) q = λ d. q (f d)

pub send : IsSend the_row
send = let ps : IsSend RawPtr = search sendable in
    owning_send the_type (ps, tt) (λ d. owned d.at d.held) (λ k. quiet (to the_type) (exits_of k (fields the_type)) ((struct_send (shape the_type) (ps, tt)).leaving k))
