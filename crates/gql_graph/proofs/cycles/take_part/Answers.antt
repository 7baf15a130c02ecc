use Rattle.std.proofs.Common.{◌≡◌, true, false, sym, ◌∙◌, arith}
use Rattle.std.specs.List.{slice_get}
use Rattle.std.proofs.lemmas.Option.{slice_get_within}
use Rattle.gql_graph.proofs.Cyclic.{has_is, is_has}
use Rattle.gql_graph.proofs.Parts.{taken_before, take_part, Taken}
use Rattle.gql_graph.proofs.cycles.take_part.Goals as goal

pub returns-then-not-has-clause-taken : goal.returns-then-not-has-clause-taken
returns-then-not-has-clause-taken c whole within =
    taken_before c.args.graph.now c.args.parts.now c.args.node whole within
    (λ is. let h : false ≡ true = c.if-not-has.ensures ∙ is_has 0 (slice_get c.args.parts.now c.args.node) is in cc)

pub number_of-part-requires : goal.number_of-part-requires
number_of-part-requires c = slice_get_within c.args.parts.now c.args.node 0 (has_is 0 (slice_get c.args.parts.now c.args.node) (sym c.if-not-has.ensures))

pub returns-clause-parts : goal.returns-clause-parts
returns-clause-parts c whole =
    let done : Taken c.args.graph.now c.args.parts.now c.set_all.new.states c.args.node =
    take_part c.args.graph.now c.args.reversed.now c.requires c.args.parts.now c.flood.new.states c.flood-2.new.states c.set_all.new.states c.in_ok-found.found.items c.in_ok-_part._part.items
    c.as_slice-3.result.now c.as_slice.result.now c.as_slice-2.result.now c.args.node c.number_of-part.result whole (has_is 0 (slice_get c.args.parts.now c.args.node) (sym c.if-not-has.ensures))
    c.as_slice.ensures c.as_slice-2.ensures c.number_of-part.ensures c.as_slice-3.ensures.value c.in_ok-found.ensures c.in_ok-_part.ensures c.set_all.ensures (omega arith) in
    done.more

pub returns-clause-taken : goal.returns-clause-taken
returns-clause-taken c whole within =
    let done : Taken c.args.graph.now c.args.parts.now c.set_all.new.states c.args.node =
    take_part c.args.graph.now c.args.reversed.now c.requires c.args.parts.now c.flood.new.states c.flood-2.new.states c.set_all.new.states c.in_ok-found.found.items c.in_ok-_part._part.items
    c.as_slice-3.result.now c.as_slice.result.now c.as_slice-2.result.now c.args.node c.number_of-part.result whole (has_is 0 (slice_get c.args.parts.now c.args.node) (sym c.if-not-has.ensures))
    c.as_slice.ensures c.as_slice-2.ensures c.number_of-part.ensures c.as_slice-3.ensures.value c.in_ok-found.ensures c.in_ok-_part.ensures c.set_all.ensures (omega arith) in
    done.part

pub returns-clause-kept : goal.returns-clause-kept
returns-clause-kept c whole v part =
    let done : Taken c.args.graph.now c.args.parts.now c.set_all.new.states c.args.node =
    take_part c.args.graph.now c.args.reversed.now c.requires c.args.parts.now c.flood.new.states c.flood-2.new.states c.set_all.new.states c.in_ok-found.found.items c.in_ok-_part._part.items
    c.as_slice-3.result.now c.as_slice.result.now c.as_slice-2.result.now c.args.node c.number_of-part.result whole (has_is 0 (slice_get c.args.parts.now c.args.node) (sym c.if-not-has.ensures))
    c.as_slice.ensures c.as_slice-2.ensures c.number_of-part.ensures c.as_slice-3.ensures.value c.in_ok-found.ensures c.in_ok-_part.ensures c.set_all.ensures (omega arith) in
    done.before v part
