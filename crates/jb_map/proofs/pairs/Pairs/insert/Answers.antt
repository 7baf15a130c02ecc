use Rattle.std.proofs.Common.{◌∙◌, sym, ap, position}
use Rattle.std.specs.Str.{bytes_eq}
use Rattle.std.specs.Map.{keys_of}
use Rattle.indexmap.proofs.MapLemmas.{Found-position, Missing-position, insert_entry-first, insert_entry-absent}
use Rattle.jb_map.proofs.pairs.Pairs.insert.Goals as goal

pub returns-in-Some-clause-old : goal.returns-in-Some-clause-old
returns-in-Some-clause-old g c =
    let at = ap (λ k. position (bytes_eq k) (keys_of c.args.self.now)) (sym c.as_str.ensures) ∙ sym c.in-Some.ensures in
    sym c.replace_at.ensures.old ∙ sym (Found-position (bytes_eq c.args.key) c.args.self.now c.in-Some.at at).value

pub returns-in-Some-clause-pairs : goal.returns-in-Some-clause-pairs
returns-in-Some-clause-pairs g c =
    let at = ap (λ k. position (bytes_eq k) (keys_of c.args.self.now)) (sym c.as_str.ensures) ∙ sym c.in-Some.ensures in
    let first = (Found-position (bytes_eq c.args.key) c.args.self.now c.in-Some.at at).first in
    c.replace_at.ensures.pairs ∙ sym (insert_entry-first bytes_eq c.args.key c.args.value c.args.self.now c.in-Some.at first)

pub returns-in-Ok-clause-old : goal.returns-in-Ok-clause-old
returns-in-Ok-clause-old g c =
    let gone = ap (λ k. position (bytes_eq k) (keys_of c.args.self.now)) (sym c.as_str.ensures) ∙ sym c.in-None.ensures in
    sym (Missing-position (bytes_eq c.args.key) c.args.self.now gone).value

pub returns-in-Ok-clause-pairs : goal.returns-in-Ok-clause-pairs
returns-in-Ok-clause-pairs g c =
    let gone = ap (λ k. position (bytes_eq k) (keys_of c.args.self.now)) (sym c.as_str.ensures) ∙ sym c.in-None.ensures in
    let absent = (Missing-position (bytes_eq c.args.key) c.args.self.now gone).absent in
    c.in-Ok.ensures.pairs ∙ sym (insert_entry-absent bytes_eq c.args.key c.args.value c.args.self.now absent)

pub returns-in-Err-clause-absent : goal.returns-in-Err-clause-absent
returns-in-Err-clause-absent g c =
    let gone = ap (λ k. position (bytes_eq k) (keys_of c.args.self.now)) (sym c.as_str.ensures) ∙ sym c.in-None.ensures in
    (Missing-position (bytes_eq c.args.key) c.args.self.now gone).value
