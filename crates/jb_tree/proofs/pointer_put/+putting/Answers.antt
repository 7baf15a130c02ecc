use Rattle.std.proofs.Common.{◌≡◌, ◌<◌, ◌≤◌, ◌+◌, ◌^◌, length, slice_get, slice_set, Some, None, sym, ap, ◌∙◌, arith, rules, zero-add}
use denote.Param.Weighed.{most}
use Rattle.std.specs.Option.{option_copied}
use Rattle.std.specs.Str.{bytes_eq}
use Rattle.std.specs.Fmt.{decimal}
use Rattle.std.specs.Map.{lookup, set_value}
use Rattle.std.proofs.lemmas.Map.Steps.{set_value_same}
use Rattle.std_collections.proofs.HashLookup.{set_value-IsFirst}
use Rattle.indexmap.proofs.MapLemmas.{Found-position, Missing-position}
use Rattle.indexmap.specs.Layout.{set_value_at}
use Rattle.jb_tree.specs.Pointer.{decoded, item_named, item_named_put}
use Rattle.jb_tree.specs.bridge.Pointer.{tokens_left}
use Rattle.jb_tree.specs.declared.value.Value.{size-Value, the_lemmas}
use Rattle.jb_tree.proofs.Tokens.{item_found, item_put_found, item_missing}
use Rattle.jb_tree.proofs.Sorting.{get_within}
use Rattle.jb_tree.proofs.Put.{same_item, put_below, put_nowhere, item_size}
use Rattle.jb_tree.proofs.pointer_put.+putting.Goals as goal

pub put_in_items-returns-in_default : goal.put_in_items-returns-in_default
put_in_items-returns-in_default t c =
    let token = c.args.token.now in
    let items = c.args.items.now in
    let none : item_named token 0 items ≡ None = item_missing token 0 items (λ i within is. c.in_default.ensures i (omega (arith, c.len.ensures)) (is ∙ ap decimal (zero-add i))) in
    put_nowhere (tokens_left (option_copied c.args.more)) (item_named token 0 items) c.args.value items items none

pub put_in_items-put_named-requires : goal.put_in_items-put_named-requires
put_in_items-put_named-requires t c =
    let low : size-Value c.in-Some-get_mut.item.now ≤ most size-Value c.args.items.now = item_size c.args.items.now c.in-Some.index c.in-Some-get_mut.item.now (sym c.in-Some-get_mut.ensures.value) in
    search (rules, the_lemmas, low)

pub put_in_items-returns-in-Some-get_mut : goal.put_in_items-returns-in-Some-get_mut
put_in_items-returns-in-Some-get_mut t c =
    let token = c.args.token.now in
    let items = c.args.items.now in
    let i = c.in-Some.index in
    let item = c.in-Some-get_mut.item.now in
    let after = c.put_named.new.place in
    let at : slice_get items i ≡ Some item = sym c.in-Some-get_mut.ensures.value in
    let is : token ≡ decimal (0 + i) = c.in-Some.ensures.1 ∙ ap decimal (sym (zero-add i)) in
    let within : i < length items = omega (arith, c.in-Some.ensures.0, c.len.ensures) in
    let fits : 0 + length items < 2 ^ 64 = omega (arith, c.len.ensures, c.len.type_inv) in
    put_below (tokens_left (option_copied c.args.more)) (item_named token 0 items) items (item_named_put token 0 items) item
    (item_found token 0 items i is within fits ∙ at) (item_put_found token 0 items i item is within fits ∙ same_item items i item at)
    c.put_named.result c.args.value after (slice_set items i after) (sym (item_put_found token 0 items i after is within fits)) c.put_named.ensures

pub put_in_items-returns-in-None : goal.put_in_items-returns-in-None
put_in_items-returns-in-None t c = absurd (get_within c.args.items.now c.in-Some.index (omega (arith, c.in-Some.ensures.0, c.len.ensures)) (sym c.in-None.ensures.value))

pub put_in_members-returns-in-Some : goal.put_in_members-returns-in-Some
put_in_members-returns-in-Some t c =
    let key = bytes_eq (decoded c.args.token.now) in
    let members = c.args.members.now in
    let i = c.in-Some.index in
    let member = c.value_mut_at.result.now in
    let after = c.put_named.new.place in
    let found = Found-position key members i (sym c.in-Some.ensures) in
    let at : lookup key members ≡ Some member = found.value ∙ c.value_mut_at.ensures.value in
    put_below (tokens_left (option_copied c.args.more)) (lookup key members) members (set_value key members) member at (set_value_same key members member at)
    c.put_named.result c.args.value after (set_value_at members i after) (set_value-IsFirst key members i after found.first) c.put_named.ensures

pub put_in_members-returns-in-None : goal.put_in_members-returns-in-None
put_in_members-returns-in-None t c =
    let key = bytes_eq (decoded c.args.token.now) in
    let members = c.args.members.now in
    put_nowhere (tokens_left (option_copied c.args.more)) (lookup key members) c.args.value members members (Missing-position key members (sym c.in-None.ensures)).value
