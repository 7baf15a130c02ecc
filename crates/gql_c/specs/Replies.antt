-- The bytes of replies.
use Rattle.std.specs.Prelude.{ℕ, List, [], Option, Some, None}
use Rattle.gql_c.specs.declared.held.Held.{Held}
use Rattle.gql_c.specs.declared.held.Held.TheVariants.{Schema, Query, Data, Reply, Answers}

-- those of what a handle holds: none where it is no reply
abbrev pub bytes_of : Held → List ℕ
bytes_of (Schema service) = []
bytes_of (Query query) = []
bytes_of (Data members) = []
bytes_of (Reply bytes) = bytes
bytes_of (Answers table) = []

abbrev pub bytes_held : Option Held → List ℕ
bytes_held None = []
bytes_held (Some held) = bytes_of held

-- it is a reply, of whose bytes this holds
abbrev pub HoldsReply : (List ℕ → Type 0) → Held → Type 0
HoldsReply Holds (Schema service) = ⊥
HoldsReply Holds (Query query) = ⊥
HoldsReply Holds (Data members) = ⊥
HoldsReply Holds (Reply bytes) = Holds bytes
HoldsReply Holds (Answers table) = ⊥
