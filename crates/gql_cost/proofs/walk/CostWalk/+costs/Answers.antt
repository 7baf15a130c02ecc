use Rattle.std.proofs.Common.{rules, arith, ◌≡◌, ◌<◌, ◌+◌, ◌*◌, suc, length, position, List, Some, None, refl, sym, ap, ◌∙◌, subst}
use Rattle.std.proofs.Common.{slice_get}
use Rattle.std.proofs.lemmas.Option.{slice_get-get_or, slice_get_read}
use Rattle.gql_ast.specs.declared.field_definition.FieldDefinition.{FieldDefinition}
use Rattle.gql_document_types.specs.declared.fragment.Fragment.{Fragment}
use Rattle.gql_document_types.specs.declared.selection.Selection.{Selection}
use Rattle.gql_document_types.proofs.Counts.{item-less, count-defined, entry-there}
use Rattle.gql_document_types.specs.Count.{count}
use Rattle.gql_document_types.specs.bridge.Counted.{one_count, spread_count, count_at}
use Rattle.gql_document_types.specs.Expanded.{expanded}
use Rattle.gql_document_types.specs.RootFields.{fragment_name}
use Rattle.gql_schema_types.specs.Entries.{is_called}
use Rattle.gql_schema_types.proofs.Lookups.{place_within}
use Rattle.gql_cost.specs.Size.{size}
use Rattle.gql_cost.specs.Sum.{sum}
use Rattle.gql_cost.specs.bridge.Walked.{IsCapped, WalkedAll, WalkedOne}
use Rattle.gql_cost.proofs.WalkCalls.{looked, field-one, some-is, spread-undefined, spread-defined}
use Rattle.gql_cost.proofs.Walks.{walk-next, fragment-walked}
use Rattle.gql_cost.proofs.walk.CostWalk.+costs.Goals as goal

pub all-one-more-requires : goal.all-one-more-requires
all-one-more-requires g t c κs within =
    let all = c.args.self.now.fragments.now in
    let less = item-less all c.args.selections.now c.as_slice-selection-items.result.now c.loop-selection.selection-index c.selection-item.result
    c.as_slice-selection-items.ensures c.loop-selection-test.true c.selection-item.is in
    let smaller : 4 * one_count all c.selection-item.result + 2 < 4 * count (expanded all c.args.selections.now) + 3 = omega (arith, less) in
    search rules

pub all-loop-selection-preserved : goal.all-loop-selection-preserved
all-loop-selection-preserved g t c =
    walk-next c.args.self.now.items (suc c.args.self.now.limit) c.args.self.now.fragments.now c.args.selections.now c.as_slice-selection-items.result.now
    c.loop-selection.selection-index c.selection-item.result c.as_slice-selection-items.ensures c.loop-selection-test.true c.selection-item.is
    c.args.memo.now c.args.steps.now c.loop-selection.total c.loop-selection.memo c.loop-selection.steps c.one-more.result c.sum-total.result
    c.one-more.new.memo c.one-more.new.steps c.loop-selection.invariant c.one-more.ensures c.sum-total.ensures

pub field-returns : goal.field-returns
field-returns g t c =
    let all = c.args.self.now.fragments.now in
    let below = sum c.args.self.now.items all c.args.field.now.selection_set.selections in
    let sized : IsCapped (suc c.args.self.now.limit) (size c.args.self.now.items c.args.field.now.definition.ty below) c.size.result =
    subst (λ (d : FieldDefinition). IsCapped (suc c.args.self.now.limit) (size c.args.self.now.items d.ty below) c.size.result) c.deref.ensures
    (c.size.ensures.is below c.all-below.ensures.is) in
    looked c.args.self.now.items (suc c.args.self.now.limit) all (count (expanded all c.args.field.now.selection_set.selections)) (count c.args.field.now.selection_set.selections)
    below c.args.memo.now c.args.steps.now c.tick.new.self c.all-below.result c.size.result c.all-below.new.memo c.all-below.new.steps
    (size c.args.self.now.items c.args.field.now.definition.ty below) c.tick.ensures sized c.all-below.ensures

pub fragment-returns : goal.fragment-returns
fragment-returns g t c =
    let all = c.args.self.now.fragments.now in
    let it = entry-there all c.args.number c.requires.within in
    let body : c.index-as_slice-number.result ≡ it.0 =
    some-is c.index-as_slice-number.result it.0
    (sym (slice_get_read c.as_slice.result.now (length c.as_slice.result.now) c.args.number c.index-as_slice-number.result refl
    (subst (λ (l : List Fragment). c.args.number < length l) (sym c.as_slice.ensures.entries) c.requires.within) c.index-as_slice-number.is)
    ∙ ap (λ (l : List Fragment). slice_get l c.args.number) c.as_slice.ensures.entries ∙ it.1) in
    fragment-walked c.args.self.now.items (suc c.args.self.now.limit) all c.requires.contents c.args.number it.0 it.1 c.args.memo.now c.args.steps.now c.all-sum.result
    c.all-sum.new.memo c.all-sum.new.steps (omega (arith, c.requires.within, c.requires.right.sized))
    (slice_get-get_or c.args.memo.now c.args.number None (omega (arith, c.requires.within, c.requires.right.sized)) ∙ ap Some c.in_default.is)
    (subst (λ (x : Fragment). WalkedAll c.args.self.now.items (suc c.args.self.now.limit) all x.selection_set.selections c.args.memo.now c.args.steps.now c.all-sum.result c.all-sum.new.memo c.all-sum.new.steps)
    (sym c.index-as_slice-number.is ∙ body) c.all-sum.ensures)

pub one-returns-in-Field : goal.one-returns-in-Field
one-returns-in-Field g t c =
    let all = c.args.self.now.fragments.now in
    let field = c.in-Field.field in
    let items = c.args.self.now.items in
    subst (λ (s : Selection). WalkedOne items (suc c.args.self.now.limit) all s c.args.memo.now c.args.steps.now c.field.result c.field.new.memo c.field.new.steps) (sym c.in-Field.is)
    (field-one items (suc c.args.self.now.limit) all field c.args.memo.now c.args.steps.now c.field.result c.field.new.memo c.field.new.steps c.field.ensures)

pub spread-fragment-requires : goal.spread-fragment-requires
spread-fragment-requires g t c κs within =
    let all = c.args.self.now.fragments.now in
    let spread = c.args.spread.now in
    let f = c.in-Some.number in
    let is : position (is_called fragment_name spread.fragment_name.text) all ≡ Some f = sym (ap (λ n. position (is_called fragment_name n) all) c.as_str.ensures.text) ∙ sym c.find.ensures ∙ c.in-Some.is in
    let there : f < length all = place_within (is_called fragment_name spread.fragment_name.text) all f is in
    let smaller : 4 * (1 + count_at all f) < 4 * spread_count all spread + 1 = omega (arith, count-defined all spread f is there) in
    search rules

pub spread-returns-in-Some : goal.spread-returns-in-Some
spread-returns-in-Some g t c =
    let all = c.args.self.now.fragments.now in
    let spread = c.args.spread.now in
    let f = c.in-Some.number in
    let is : position (is_called fragment_name spread.fragment_name.text) all ≡ Some f = sym (ap (λ n. position (is_called fragment_name n) all) c.as_str.ensures.text) ∙ sym c.find.ensures ∙ c.in-Some.is in
    let there : f < length all = place_within (is_called fragment_name spread.fragment_name.text) all f is in
    spread-defined c.args.self.now.items (suc c.args.self.now.limit) all c.requires.sums spread f is there c.args.memo.now c.args.steps.now c.tick.new.self
    c.fragment.result c.fragment.new.memo c.fragment.new.steps c.tick.ensures c.fragment.ensures

pub spread-returns-in-None : goal.spread-returns-in-None
spread-returns-in-None g t c =
    let all = c.args.self.now.fragments.now in
    let spread = c.args.spread.now in
    spread-undefined c.args.self.now.items (suc c.args.self.now.limit) all c.requires.sums spread
    (sym (ap (λ n. position (is_called fragment_name n) all) c.as_str.ensures.text) ∙ sym c.find.ensures ∙ c.in-None.is)
    c.args.memo.now c.args.steps.now c.tick.new.self c.requires.right c.tick.ensures
