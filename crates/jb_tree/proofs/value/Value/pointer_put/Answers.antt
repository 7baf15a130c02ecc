use Rattle.std.proofs.Common.{◌≡◌, ◌∷◌, refl, sym, subst, arith}
use Rattle.std.proofs.lemmas.Str.Pattern.{strip_prefix_char}
use Rattle.jb_tree.specs.Index.{IsPut}
use Rattle.jb_tree.specs.Pointer.{pointed, pointed_put}
use Rattle.jb_tree.proofs.Tokens.{no_slash}
use Rattle.jb_tree.proofs.value.Value.pointer_put.Goals as goal

pub returns-in-Some : goal.returns-in-Some
returns-in-Some c =
    let path = c.args.pointer.now in
    let cut : path ≡ 47 ∷ c.in-Some.rest.now = rw c.in-Some.is at (strip_prefix_char 47 path c.strip_prefix.result c.strip_prefix.ensures.cases (omega arith)) in
    subst (λ p. IsPut c.put_named.result c.args.value (pointed p c.args.self.now) c.args.self.now (pointed_put p c.args.self.now c.args.value) c.put_named.new.place) (sym cut) c.put_named.ensures

pub returns-in-None : goal.returns-in-None
returns-in-None c =
    let path = c.args.pointer.now in
    let other = rw c.in-None.is at (strip_prefix_char 47 path c.strip_prefix.result c.strip_prefix.ensures.cases (omega arith)) in
    (no_slash path c.args.self.now (grind arith) other, refl, refl)
