use Rattle.std.proofs.Common.{◌<◌, ◌≤◌, length, get_or, swap, refl, sym, ap, ◌∙◌, arith}
use Rattle.std.specs.Str.{bytes_eq}
use Rattle.std.specs.List.{list_any}
use Rattle.std.proofs.lemmas.List.Edits.{length-swap}
use Rattle.std.proofs.lemmas.List.Quantifiers.{position-Some}
use Rattle.std.proofs.lemmas.List.Sorted.{IsPermutation-swap, list_any-IsPermutation}
use Rattle.jb_map.proofs.Aligned.{no_none, found_later, placed_by_swap, kept_by_swap}
use Rattle.jb_map.proofs.key_table.KeyTable.bring.Goals as goal

pub exchange-requires-clause-first : goal.exchange-requires-clause-first
exchange-requires-clause-first c =
    let k = c.args.key.now in
    let ks = c.args.self.now in
    let found = sym c.in-Some.ensures in
    let within : c.in-Some.at < length ks = (position-Some (bytes_eq k) ks c.in-Some.at k found).0 in
    let le : c.args.index ≤ c.in-Some.at = found_later k ks c.args.index c.in-Some.at found c.requires.later in
    omega arith

pub returns-in-Some-clause-within : goal.returns-in-Some-clause-within
returns-in-Some-clause-within c =
    let k = c.args.key.now in
    let ks = c.args.self.now in
    let found = sym c.in-Some.ensures in
    let within : c.in-Some.at < length ks = (position-Some (bytes_eq k) ks c.in-Some.at k found).0 in
    let le : c.args.index ≤ c.in-Some.at = found_later k ks c.args.index c.in-Some.at found c.requires.later in
    omega (arith, ap length c.exchange.ensures, length-swap ks c.args.index c.in-Some.at)

pub returns-in-Some-clause-placed : goal.returns-in-Some-clause-placed
returns-in-Some-clause-placed c d =
    let k = c.args.key.now in
    let ks = c.args.self.now in
    let found = sym c.in-Some.ensures in
    let le = found_later k ks c.args.index c.in-Some.at found c.requires.later in
    ap (λ l. get_or l c.args.index d) c.exchange.ensures ∙ placed_by_swap k ks c.args.index c.in-Some.at found le d

pub returns-in-Some-clause-others : goal.returns-in-Some-clause-others
returns-in-Some-clause-others c j d below =
    let k = c.args.key.now in
    let ks = c.args.self.now in
    let found = sym c.in-Some.ensures in
    let within = (position-Some (bytes_eq k) ks c.in-Some.at k found).0 in
    let le = found_later k ks c.args.index c.in-Some.at found c.requires.later in
    ap (λ l. get_or l j d) c.exchange.ensures ∙ kept_by_swap ks c.args.index c.in-Some.at le within j d below

pub returns-in-Some-clause-same_keys : goal.returns-in-Some-clause-same_keys
returns-in-Some-clause-same_keys c q =
    let k = c.args.key.now in
    let ks = c.args.self.now in
    let i = c.args.index in
    let at = c.in-Some.at in
    let found = sym c.in-Some.ensures in
    let within : at < length ks = (position-Some (bytes_eq k) ks at k found).0 in
    let le : i ≤ at = found_later k ks i at found c.requires.later in
    ap (list_any (bytes_eq q)) c.exchange.ensures ∙ sym (list_any-IsPermutation (bytes_eq q) ks (swap ks i at) (IsPermutation-swap ks (swap ks i at) i at (omega arith) within refl))

pub returns-in-None-clause-within : goal.returns-in-None-clause-within
returns-in-None-clause-within c = absurd (no_none c.args.key.now c.args.self.now c.requires.there (sym c.in-None.ensures))

pub returns-in-None-clause-placed : goal.returns-in-None-clause-placed
returns-in-None-clause-placed c d = absurd (no_none c.args.key.now c.args.self.now c.requires.there (sym c.in-None.ensures))
