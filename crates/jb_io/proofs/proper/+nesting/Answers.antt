use Rattle.std.proofs.Common.{◌≤◌, ℕ, ◌+◌, List, length, drop, true≢false, sym, subst, ◌∙◌, arith}
use Rattle.std.specs.Str.{IsUtf8}
use Rattle.std.proofs.lemmas.List.{drop_all}
use Rattle.jb_tree.specs.Tree.{tree}
use Rattle.jb_tree.specs.declared.value.Value.{Value}
use Rattle.jb_print.proofs.Trees.{drop-member}
use Rattle.jb_io.specs.Proper.{AreProperMembers, depth}
use Rattle.jb_io.specs.bridge.Proper.{members_tree}
use Rattle.jb_io.proofs.Nesting.{MembersLeft, member_passed, member_too_deep, keys_distinct}
use Rattle.jb_io.proofs.proper.+nesting.Goals as goal

abbrev Left : ℕ → List (List ℕ × Value) → List (List ℕ × Value) → Type 0
Left levels left all = MembersLeft levels (members_tree left) (members_tree all)

pub members_nest_within-returns-then-not-nests_within-clause-nested : goal.members_nest_within-returns-then-not-nests_within-clause-nested
members_nest_within-returns-then-not-nests_within-clause-nested t c =
    let members = c.args.members.now in
    let key = c.key_at.result.now in
    let item = c.value_at.result.now in
    let at = drop-member members c.loop-index.index key item c.key_at.ensures c.value_at.ensures in
    let was = subst (λ left. Left c.args.levels left members) at c.loop-index.invariant in
    let deep : depth (tree item) ≤ c.args.levels → ⊥ = λ low. true≢false (sym (c.nests_within.ensures.nested.1 low) ∙ c.if-not-nests_within.true) in
    (λ f. absurd (true≢false (sym f)), λ low. absurd (member_too_deep c.args.levels (tree item) key (members_tree (drop (c.loop-index.index + 1) members)) (members_tree members) deep was low))

pub members_nest_within-loop-index-preserved : goal.members_nest_within-loop-index-preserved
members_nest_within-loop-index-preserved t c =
    let members = c.args.members.now in
    let key = c.key_at.result.now in
    let item = c.value_at.result.now in
    let at = drop-member members c.loop-index.index key item c.key_at.ensures c.value_at.ensures in
    let was = subst (λ left. Left c.args.levels left members) at c.loop-index.invariant in
    let utf8 : IsUtf8 key = subst IsUtf8 c.as_str.ensures c.text_is_utf8.ensures in
    member_passed c.args.levels (tree item) key (members_tree (drop (c.loop-index.index + 1) members)) (members_tree members)
    (c.nests_within.ensures.nested.0 c.if-not-nests_within.false) utf8 (c.nests_within.ensures.proper c.if-not-nests_within.false) was

pub members_nest_within-returns-clause-proper : goal.members_nest_within-returns-clause-proper
members_nest_within-returns-clause-proper t c =
    let members = c.args.members.now in
    let all_seen : length members ≤ c.loop-index.index = omega (arith, c.loop-index-test.false, c.len-index-end.ensures.value) in
    let none_left = drop_all c.loop-index.index members all_seen in
    λ _. (keys_distinct members c.len-index-end.ensures.distinct, c.loop-index.invariant.1 (subst (λ left. AreProperMembers (members_tree left)) (sym none_left) tt))
