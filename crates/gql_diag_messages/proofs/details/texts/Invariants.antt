use Rattle.std.proofs.Common.{◌≡◌, ◌++◌, map, drop}
use Rattle.gql_diag_messages.proofs.details.texts.Given as goal

-- what is made and what is left make the whole
abbrev pub invariant-loop-name : goal.invariant-loop-name
invariant-loop-name l = l.made ++ map (λ name. name.now) (drop l.name-index l.names) ≡ map (λ name. name.now) l.names
