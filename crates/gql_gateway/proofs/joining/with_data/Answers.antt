use Rattle.std.proofs.Common.{◌≡◌, List, [], ◌∷◌, sym, subst}
use Rattle.std.specs.Map.{lookup}
use Rattle.std.specs.Str.{bytes_eq}
use Rattle.gql_gateway.specs.Joined.{AreApart, of_key}
use Rattle.gql_gateway.specs.bridge.Joining.{AreAbsent}
use Rattle.gql_gateway.specs.declared.joining.Joined.{Joined}
use Rattle.gql_gateway.specs.declared.root_key.RootKey.{RootKey}
use Rattle.gql_gateway.proofs.Adding.{IsSoFar, absent-next, nothing-there, so-first, so-next, so-refused, so-end}
use Rattle.gql_gateway.proofs.joining.with_data.Goals as goal

pub loop-key-init : goal.loop-key-init
loop-key-init c =
    let same = c.into_iter-key-iterator.ensures.into_iter_gives in
    let out : Joined = record { members = c.new.result; errors = c.new-2.result } in
    record {
      apart = subst AreApart (sym same) c.requires;
      absent = subst (λ ms. AreAbsent c.into_iter-key-iterator.result ms) (sym c.new.ensures) (nothing-there c.into_iter-key-iterator.result);
      so_far = λ ms ns es fs is_here is_there.
          subst (λ (ks : List RootKey). IsSoFar c.args.keys ks c.args.here c.args.there out ms ns es fs) (sym same)
          (so-first c.args.keys ms ns es fs c.args.here c.args.there out is_here is_there c.new.ensures c.new-2.ensures);
    }

pub loop-key-preserved : goal.loop-key-preserved
loop-key-preserved c =
    let keys = c.args.keys in
    let left = c.loop-key.key-iterator in
    let rest = c.next.new.self in
    let key = c.in-Some.key in
    let here = c.loop-key.here in
    let there = c.loop-key.there in
    let out = c.loop-key.joined in
    let invariant = c.loop-key.invariant in
    let steps : left ≡ key ∷ rest = c.in-Some.ensures.steps in
    let apart : AreApart (key ∷ rest) = subst AreApart steps invariant.apart in
    let absent : AreAbsent (key ∷ rest) out.members = subst (λ ks. AreAbsent ks out.members) steps invariant.absent in
    let added = c.in_ok-add_key.ensures in
    record {
      apart = apart.1;
      absent =
          absent-next key (lookup (bytes_eq key.name.text) (of_key key here there).members) out.members c.add_key.new.joined.members added.0 rest apart.0
          absent.1;
      so_far = λ ms ns es fs is_here is_there.
          so-next keys ms ns es fs key rest here there out
          (subst (λ (ks : List RootKey). IsSoFar keys ks here there out ms ns es fs) steps (invariant.so_far ms ns es fs is_here is_there))
          c.add_key.new.here c.add_key.new.there c.add_key.new.joined apart.0 added.0 added.1 added.2 added.3;
    }

pub returns-in_err-add_key : goal.returns-in_err-add_key
returns-in_err-add_key c ms ns es fs is_here is_there =
    let keys = c.args.keys in
    let rest = c.next.new.self in
    let key = c.in-Some.key in
    let here = c.loop-key.here in
    let there = c.loop-key.there in
    let out = c.loop-key.joined in
    so-refused keys ms ns es fs key rest here there out
    (subst (λ (ks : List RootKey). IsSoFar keys ks here there out ms ns es fs) c.in-Some.ensures.steps (c.loop-key.invariant.so_far ms ns es fs is_here is_there))
    c.add_key.new.here c.add_key.new.there c.add_key.new.joined c.in_err-add_key.field-0.0 c.from_residual.result c.from_residual.ensures.1
    c.in_err-add_key.ensures

pub returns : goal.returns
returns c ms ns es fs is_here is_there =
    let none = c.in-None.ensures.steps.0 in
    so-end c.args.keys ms ns es fs c.loop-key.here c.loop-key.there c.loop-key.joined
    (subst (λ (ks : List RootKey). IsSoFar c.args.keys ks c.loop-key.here c.loop-key.there c.loop-key.joined ms ns es fs) none
    (c.loop-key.invariant.so_far ms ns es fs is_here is_there))
