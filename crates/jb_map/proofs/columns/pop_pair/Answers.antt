use Rattle.std.proofs.Common.{◌≡◌, length, ◌++◌, ap, ◌∙◌, arith}
use Rattle.std.specs.Option.{option_to_list}
use Rattle.std_collections.proofs.Zip.{zip_push}
use Rattle.jb_map.proofs.columns.pop_pair.Goals as goal

pub returns-in-Some-clause-pairs : goal.returns-in-Some-clause-pairs
returns-in-Some-clause-pairs g c =
    let ks = c.args.texts.now in
    let vs = c.args.values.now in
    let ws = c.pop-in-Some.new.self.items in
    let even : length vs.items ≡ length ks.items = omega (arith, c.requires.even, ks.ok.0, vs.ok.0) in
    (zip_push ks.items c.pop.new.self.items vs.items ws c.in-Some.key c.unwrap.result even c.in-Some.ensures.items (c.pop-in-Some.ensures.items ∙ ap (λ r. ws ++ option_to_list r) c.unwrap.ensures)).1
