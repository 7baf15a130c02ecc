use Rattle.std.proofs.Common.{◌≡◌, ◌≤◌, OnOk, OnErr, length, zip, vec_len, sym, subst, ◌∙◌, arith}
use Rattle.std.specs.Vec.{vec_capacity}
use Rattle.std.specs.Str.{bytes_eq}
use Rattle.std.specs.List.{IsDistinct}
use Rattle.std.specs.List.Sorted.{IsPermutation}
use Rattle.std.specs.Map.{keys_of}
use Rattle.std.proofs.lemmas.List.Sorted.{length_permutation}
use Rattle.std_collections.proofs.Zip.{keys_of-zip}
use Rattle.indexmap.proofs.ReorderLemmas.{zip_of_parts}
use Rattle.jb_map.specs.ByKey.{by_key}
use Rattle.jb_map.proofs.order.sort_columns.Goals as goal

pub sort_pairs-sorted-requires : goal.sort_pairs-sorted-requires
sort_pairs-sorted-requires g c =
    let ks = c.args.texts.now in
    let vs = c.args.values.now in
    let even : length vs.items ≡ length ks.items = omega (arith, c.requires.even, ks.ok.0, vs.ok.0) in
    subst (λ l. IsDistinct bytes_eq (keys_of l)) (sym c.in_ok-pairs.ensures.pairs) (subst (IsDistinct bytes_eq) (sym (keys_of-zip ks.items vs.items even)) c.requires.distinct)

pub split-requires-clause-room : goal.split-requires-clause-room
split-requires-clause-room g c =
    let es = c.in_ok-pairs.pairs in
    let fs = c.sort_pairs-sorted.new.held in
    let same = length_permutation es.items fs.items c.sort_pairs-sorted.ensures.permutation in
    let room = c.in_ok-pairs.ensures.room in
    let in_texts : vec_len fs ≤ vec_capacity c.join.new.texts = omega (arith, room.0, same, es.ok.0, fs.ok.0) in
    let in_values : vec_len fs ≤ vec_capacity c.join.new.values = omega (arith, room.1, same, es.ok.0, fs.ok.0) in
    (in_texts, in_values)

pub returns-clause-permutation : goal.returns-clause-permutation
returns-clause-permutation g c =
    let fs = c.sort_pairs-sorted.new.held.items in
    let back = (λ j. zip (c.split.ensures.texts j) (c.split.ensures.values j)) ∙ zip_of_parts fs in
    subst (λ l. IsPermutation l (zip c.split.new.texts.items c.split.new.values.items)) c.in_ok-pairs.ensures.pairs
    (subst (IsPermutation c.in_ok-pairs.pairs.items) (sym back) c.sort_pairs-sorted.ensures.permutation)

pub returns-clause-sorted : goal.returns-clause-sorted
returns-clause-sorted g c =
    let fs = c.sort_pairs-sorted.new.held.items in
    let all = zip c.args.texts.now.items c.args.values.now.items in
    let back = (λ j. zip (c.split.ensures.texts j) (c.split.ensures.values j)) ∙ zip_of_parts fs in
    subst (λ l. OnOk c.sort_pairs-sorted.result (l ≡ by_key all)) (sym back)
    (subst (λ l. OnOk c.sort_pairs-sorted.result (fs ≡ by_key l)) c.in_ok-pairs.ensures.pairs c.sort_pairs-sorted.ensures.sorted)

pub returns-clause-refused : goal.returns-clause-refused
returns-clause-refused g c =
    let fs = c.sort_pairs-sorted.new.held.items in
    let all = zip c.args.texts.now.items c.args.values.now.items in
    let back = (λ j. zip (c.split.ensures.texts j) (c.split.ensures.values j)) ∙ zip_of_parts fs in
    subst (λ l. OnErr c.sort_pairs-sorted.result (l ≡ all)) (sym back)
    (subst (λ l. OnErr c.sort_pairs-sorted.result (fs ≡ l)) c.in_ok-pairs.ensures.pairs c.sort_pairs-sorted.ensures.refused)
