use Rattle.std.proofs.Common.{◌++◌, ◌∷◌, [], Some, position, sym, ap, ◌∙◌, arith}
use Rattle.std.specs.Str.{bytes_eq}
use Rattle.std.specs.Map.{keys_of}
use Rattle.jb_tree.specs.declared.value.Value.{Null}
use Rattle.gql_coerce.proofs.Steps.{places-next, places-new, value-there}
use Rattle.gql_coerce.proofs.outcome.places.Goals as goal

pub insert_new-requires : goal.insert_new-requires
insert_new-requires c =
    let es = c.args.members.now in
    let i = c.loop-index.index in
    let got = c.key_at.ensures ∙ ap Some (sym c.in_ok-key.ensures) in
    let there = value-there es i c.in_ok-key.key got in
    ap (λ l. position (bytes_eq c.in_ok-key.key) (keys_of l)) c.loop-index.invariant
    ∙ places-new es i c.in_ok-key.key there.0 (omega arith) got there.1 c.len-index-end.ensures.distinct

pub loop-index-preserved : goal.loop-index-preserved
loop-index-preserved c =
    let es = c.args.members.now in
    let i = c.loop-index.index in
    let got = c.key_at.ensures ∙ ap Some (sym c.in_ok-key.ensures) in
    c.in_ok-insert_new.ensures.pairs ∙ ap (λ l. l ++ (c.in_ok-key.key, Null) ∷ []) c.loop-index.invariant ∙ places-next (keys_of es) i c.in_ok-key.key got
