use Rattle.std.proofs.Common.{◌≡◌, IfSome, true, length, sym, ap, subst, ◌∙◌, arith}
use Rattle.std.specs.Str.{bytes_eq}
use Rattle.std.specs.List.{IsDistinct, list_any}
use Rattle.jb_map.specs.bridge.Covers.{Covers}
use Rattle.jb_map.specs.Retained.{Keeps}
use Rattle.jb_map.proofs.Aligned.{covers_itself, table_covers}
use Rattle.jb_map.proofs.Retention.{column_kept, column_distinct}
use Rattle.jb_map.proofs.key_list.KeyList.retain.Goals as goal

pub align_table-requires-clause-distinct : goal.align_table-requires-clause-distinct
align_table-requires-clause-distinct g c =
    let ks = c.self.inside.texts.items in
    let ls = c.keep_pairs.new.texts in
    let ws = c.keep_pairs.new.values in
    let even : length ws.items ≡ length ls.items = omega (arith, c.keep_pairs.ensures.even, ls.ok.0, ws.ok.0) in
    let distinct = column_distinct (Keeps g.F.Fn c.args.keep) ks ls.items c.args.values.now.items ws.items (c.requires.even ∙ sym (ap length c.self.view_is)) even c.keep_pairs.ensures.kept c.self.invariant.0 in
    subst (IsDistinct bytes_eq) (sym c.as_slice.ensures.value) distinct

pub align_table-requires-clause-covered : goal.align_table-requires-clause-covered
align_table-requires-clause-covered g c =
    let ks = c.self.inside.texts.items in
    let ls = c.keep_pairs.new.texts in
    let ws = c.keep_pairs.new.values in
    let even : length ws.items ≡ length ls.items = omega (arith, c.keep_pairs.ensures.even, ls.ok.0, ws.ok.0) in
    let covers = column_kept (Keeps g.F.Fn c.args.keep) ks ls.items c.args.values.now.items ws.items (c.requires.even ∙ sym (ap length c.self.view_is)) even c.keep_pairs.ensures.kept (λ k. list_any (bytes_eq k) ks ≡ true) (covers_itself ks) in
    table_covers c.self.inside.table ks c.as_slice.result.now c.self.invariant.1 (subst (Covers ks) (sym c.as_slice.ensures.value) covers)

pub invariant_of-self : goal.invariant_of-self
invariant_of-self g c =
    let ks = c.self.inside.texts.items in
    let ls = c.keep_pairs.new.texts in
    let ws = c.keep_pairs.new.values in
    let even : length ws.items ≡ length ls.items = omega (arith, c.keep_pairs.ensures.even, ls.ok.0, ws.ok.0) in
    let distinct = column_distinct (Keeps g.F.Fn c.args.keep) ks ls.items c.args.values.now.items ws.items (c.requires.even ∙ sym (ap length c.self.view_is)) even c.keep_pairs.ensures.kept c.self.invariant.0 in
    (distinct, subst (λ l. IfSome c.align_table.new.table (λ t. t.value ≡ l)) c.as_slice.ensures.value c.align_table.ensures)
