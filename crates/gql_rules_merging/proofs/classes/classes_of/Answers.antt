use Rattle.std.proofs.Common.{◌≡◌, ◌+◌, ◌++◌, ◌∷◌, [], Some, length, sym, ap, ◌∙◌, subst, arith, length-append}
use Rattle.std.specs.List.{slice_get}
use Rattle.std.specs.Option.{option_map}
use Rattle.std.proofs.lemmas.Option.{slice_get-map, slice_get_read}
use Rattle.gql_rules_merging.proofs.ClassGrowth.{AreLike, next_like}
use Rattle.gql_rules_merging.specs.bridge.ClassSteps.{IsClassFor}
use Rattle.gql_rules_merging.specs.bridge.Gathering.{fields_of, selected_of}
use Rattle.gql_rules_merging.proofs.classes.classes_of.Goals as goal

pub loop-field-preserved : goal.loop-field-preserved
loop-field-preserved c =
    let held = c.args.fields.now in
    let fields = fields_of held in
    let classes = c.loop-field.classes.items in
    let x = selected_of c.field-item.result in
    let class = c.in_ok-class.class in
    let pushed : c.push.new.self.items ≡ classes ++ class ∷ [] = c.in_ok-push.ensures.items in
    let here : slice_get held c.loop-field.field-index ≡ Some c.field-item.result = slice_get_read held (length held) c.loop-field.field-index c.field-item.result (omega arith) (omega arith) c.field-item.is in
    let at : slice_get fields (length classes) ≡ Some x =
    ap (slice_get fields) c.loop-field.invariant.as_many ∙ slice_get-map selected_of held c.loop-field.field-index ∙ ap (option_map selected_of) here in
    let found : IsClassFor c.args.base classes fields x class = subst (λ l. IsClassFor c.args.base l fields x class) c.as_slice.ensures.value c.in_ok-class.ensures in
    record {
      as_many = ap length pushed ∙ length-append classes (class ∷ []) ∙ ap (λ n. n + 1) c.loop-field.invariant.as_many;
      like = subst (AreLike c.args.base fields) (sym pushed) (next_like c.args.base fields classes x class c.loop-field.invariant.like at found);
    }
