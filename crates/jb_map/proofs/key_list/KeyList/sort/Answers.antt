use Rattle.std.proofs.Common.{◌≡◌, IfSome, length, sym, ap, subst, ◌∙◌, arith}
use Rattle.std.specs.Str.{bytes_eq}
use Rattle.std.specs.List.{IsDistinct}
use Rattle.std.specs.Cmp.Lexicographic.{nat_list_eq_equiv}
use Rattle.std.proofs.lemmas.List.Sorted.{list_any-IsPermutation}
use Rattle.indexmap.proofs.MapLemmas.{distinct_permutation}
use Rattle.jb_map.specs.bridge.Covers.{Covers}
use Rattle.jb_map.proofs.Aligned.{covers_itself, covers_along, table_covers}
use Rattle.jb_map.proofs.SortLemmas.{columns_permuted}
use Rattle.jb_map.proofs.key_list.KeyList.sort.Goals as goal

pub align_table-requires-clause-distinct : goal.align_table-requires-clause-distinct
align_table-requires-clause-distinct g c =
    let ks = c.self.inside.texts.items in
    let ls = c.sort_columns-sorted.new.texts in
    let ws = c.sort_columns-sorted.new.values in
    let even : length ws.items ≡ length ls.items = omega (arith, c.sort_columns-sorted.ensures.even, ls.ok.0, ws.ok.0) in
    let moved = columns_permuted ks ls.items c.args.values.now.items ws.items (c.requires ∙ sym (ap length c.self.view_is)) even c.sort_columns-sorted.ensures.permutation in
    subst (IsDistinct bytes_eq) (sym c.as_slice.ensures.value) (distinct_permutation nat_list_eq_equiv ks ls.items moved c.self.invariant.0)

pub align_table-requires-clause-covered : goal.align_table-requires-clause-covered
align_table-requires-clause-covered g c =
    let ks = c.self.inside.texts.items in
    let ls = c.sort_columns-sorted.new.texts in
    let ws = c.sort_columns-sorted.new.values in
    let even : length ws.items ≡ length ls.items = omega (arith, c.sort_columns-sorted.ensures.even, ls.ok.0, ws.ok.0) in
    let moved = columns_permuted ks ls.items c.args.values.now.items ws.items (c.requires ∙ sym (ap length c.self.view_is)) even c.sort_columns-sorted.ensures.permutation in
    let covers = covers_along ks ls.items ls.items (λ q. sym (list_any-IsPermutation (bytes_eq q) ks ls.items moved)) (covers_itself ls.items) in
    table_covers c.self.inside.table ks c.as_slice.result.now c.self.invariant.1 (subst (Covers ks) (sym c.as_slice.ensures.value) covers)

pub invariant_of-self : goal.invariant_of-self
invariant_of-self g c =
    let ks = c.self.inside.texts.items in
    let ls = c.sort_columns-sorted.new.texts in
    let ws = c.sort_columns-sorted.new.values in
    let even : length ws.items ≡ length ls.items = omega (arith, c.sort_columns-sorted.ensures.even, ls.ok.0, ws.ok.0) in
    let moved = columns_permuted ks ls.items c.args.values.now.items ws.items (c.requires ∙ sym (ap length c.self.view_is)) even c.sort_columns-sorted.ensures.permutation in
    (distinct_permutation nat_list_eq_equiv ks ls.items moved c.self.invariant.0, subst (λ l. IfSome c.align_table.new.table (λ t. t.value ≡ l)) c.as_slice.ensures.value c.align_table.ensures)
