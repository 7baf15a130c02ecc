use Rattle.std.proofs.Common.{◌≡◌, ◌<◌, length, true, arith, rules}
use Rattle.std.specs.Str.{bytes_eq}
use Rattle.std.proofs.lemmas.Slice.Eq.{bytes_eq-Decides}
use Rattle.jb_tree.proofs.Identity.{one_more_pair}
use Rattle.jb_tree.proofs.+identity.Goals as goal

pub identical::are_members_identical-loop-index-preserved : goal.identical::are_members_identical-loop-index-preserved
identical::are_members_identical-loop-index-preserved t c =
    let k = c.key_at.result.now in
    let l = c.key_at-in-loop-index.result.now in
    let v = c.value_at.result.now in
    let w = c.value_at-in-loop-index.result.now in
    let keys : bytes_eq k l ≡ true = search rules in
    let values : v ≡ w = search rules in
    let inside : c.loop-index.index < length c.args.members.now = omega (arith, c.loop-index-test.true, c.len-len.ensures.value) in
    let inside_others : c.loop-index.index < length c.args.others.now = omega (arith, c.loop-index-test.true, c.len.ensures.value, c.if-len.false) in
    one_more_pair c.args.members.now c.args.others.now c.loop-index.index k l v w inside inside_others
    c.key_at.ensures c.value_at.ensures c.key_at-in-loop-index.ensures c.value_at-in-loop-index.ensures
    ((bytes_eq-Decides k l).0 keys) values c.loop-index.invariant
