use Rattle.std.proofs.Common.{position, is_some, ap, sym, ◌∙◌}
use Rattle.std.specs.Str.{bytes_eq}
use Rattle.std.specs.Map.{keys_of}
use Rattle.indexmap.proofs.MapLemmas.{Found-position, Missing-position, some_index, insert_entry-first, insert_entry-absent}
use Rattle.jb_map.proofs.EntryLemmas.{key_there, removed_there}
use Rattle.jb_map.proofs.pairs.Pairs.entry.Goals as goal

pub returns-in-Some-clause-found : goal.returns-in-Some-clause-found
returns-in-Some-clause-found g c =
    let at = ap (λ k. position (bytes_eq k) (keys_of c.args.self.now)) (sym c.as_str.ensures) ∙ sym c.in-Some.ensures in
    sym (some_index (bytes_eq c.args.key) c.args.self.now) ∙ ap is_some at

pub returns-in-Some-clause-key : goal.returns-in-Some-clause-key
returns-in-Some-clause-key g c =
    let at = ap (λ k. position (bytes_eq k) (keys_of c.args.self.now)) (sym c.as_str.ensures) ∙ sym c.in-Some.ensures in
    key_there c.args.key c.args.self.now c.in-Some.index (Found-position (bytes_eq c.args.key) c.args.self.now c.in-Some.index at).first

pub returns-in-Some-clause-value : goal.returns-in-Some-clause-value
returns-in-Some-clause-value g c =
    let at = ap (λ k. position (bytes_eq k) (keys_of c.args.self.now)) (sym c.as_str.ensures) ∙ sym c.in-Some.ensures in
    sym (Found-position (bytes_eq c.args.key) c.args.self.now c.in-Some.index at).value

pub returns-in-Some-clause-writes : goal.returns-in-Some-clause-writes
returns-in-Some-clause-writes g c w =
    let at = ap (λ k. position (bytes_eq k) (keys_of c.args.self.now)) (sym c.as_str.ensures) ∙ sym c.in-Some.ensures in
    sym (insert_entry-first bytes_eq c.args.key w c.args.self.now c.in-Some.index (Found-position (bytes_eq c.args.key) c.args.self.now c.in-Some.index at).first)

pub returns-in-Some-clause-removes : goal.returns-in-Some-clause-removes
returns-in-Some-clause-removes g c =
    let at = ap (λ k. position (bytes_eq k) (keys_of c.args.self.now)) (sym c.as_str.ensures) ∙ sym c.in-Some.ensures in
    removed_there (bytes_eq c.args.key) c.args.self.now c.in-Some.index at

pub returns-clause-found : goal.returns-clause-found
returns-clause-found g c =
    let gone = ap (λ k. position (bytes_eq k) (keys_of c.args.self.now)) (sym c.as_str.ensures) ∙ sym c.in-None.ensures in
    (Missing-position (bytes_eq c.args.key) c.args.self.now gone).value

pub returns-clause-value : goal.returns-clause-value
returns-clause-value g c =
    let gone = ap (λ k. position (bytes_eq k) (keys_of c.args.self.now)) (sym c.as_str.ensures) ∙ sym c.in-None.ensures in
    sym (Missing-position (bytes_eq c.args.key) c.args.self.now gone).value

pub returns-clause-writes : goal.returns-clause-writes
returns-clause-writes g c w =
    let gone = ap (λ k. position (bytes_eq k) (keys_of c.args.self.now)) (sym c.as_str.ensures) ∙ sym c.in-None.ensures in
    sym (insert_entry-absent bytes_eq c.args.key w c.args.self.now (Missing-position (bytes_eq c.args.key) c.args.self.now gone).absent)
