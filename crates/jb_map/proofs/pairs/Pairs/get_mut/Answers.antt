use Rattle.std.proofs.Common.{refl, sym, ◌∙◌, inl}
use Rattle.std.specs.Str.{bytes_eq}
use Rattle.std_collections.proofs.HashLookup.{set_value-IsFirst}
use Rattle.indexmap.proofs.MapLemmas.{Found-position, Missing-position}
use Rattle.jb_map.proofs.pairs.Pairs.get_mut.Goals as goal

pub returns-in-Some : goal.returns-in-Some
returns-in-Some g c =
    let t = bytes_eq c.args.key.now in
    let es = c.args.self.now in
    let found = Found-position t es c.in-Some.at (sym c.in-Some.ensures) in
    (λ j. inl (c.value_mut_at.result.ghost_name, λ w. set_value-IsFirst t es c.in-Some.at w found.first j), sym c.value_mut_at.ensures.value ∙ sym found.value)

pub returns-in-None : goal.returns-in-None
returns-in-None g c = (refl, sym (Missing-position (bytes_eq c.args.key.now) c.args.self.now (sym c.in-None.ensures)).value)
