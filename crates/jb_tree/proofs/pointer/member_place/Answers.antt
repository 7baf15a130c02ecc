use Rattle.std.proofs.Common.{◌≡◌, ℕ, List, [], false, get_or, sym, ◌∙◌, ap, arith, true≢false, position, below_more}
use Rattle.std.specs.Map.{keys_of}
use Rattle.std.specs.Str.{bytes_eq}
use Rattle.std.proofs.lemmas.Str.Pattern.{contains_char}
use Rattle.std.proofs.lemmas.Option.{slice_get_within}
use Rattle.std.proofs.lemmas.List.{length-map}
use Rattle.jb_tree.specs.Pointer.{decoded}
use Rattle.jb_tree.proofs.Tokens.{decoded_same, key_tried, position_here, position_nowhere}
use Rattle.jb_tree.proofs.pointer.member_place.Goals as goal

pub returns-then-not-contains : goal.returns-then-not-contains
returns-then-not-contains c =
    let token = c.args.token.now in
    let found = contains_char 126 token c.contains.result c.contains.ensures.cases (omega arith) in
    let same = decoded_same token (λ i less e. true≢false (sym (found.1 i less e) ∙ c.if-not-contains.true)) in
    c.find.ensures ∙ ap (λ key. position (bytes_eq key) (keys_of c.args.members.now)) (sym same)

pub returns-then-decodes_to : goal.returns-then-decodes_to
returns-then-decodes_to c =
    let token = c.args.token.now in
    let keys = keys_of c.args.members.now in
    let i = c.loop-index.index in
    let key = c.key_at.result.now in
    let tried = key_tried token c.as_bytes.result.now keys i key c.as_bytes-in-loop-index.result.now [] c.decodes_to.result c.key_at.ensures c.as_bytes.ensures.value (c.as_bytes-in-loop-index.ensures.value ∙ c.as_str.ensures) c.decodes_to.ensures in
    sym (position_here (bytes_eq (decoded token)) keys i [] (slice_get_within keys i key c.key_at.ensures) (λ k below. c.loop-index.invariant k below []) (tried ∙ c.if-decodes_to.true))

pub loop-index-preserved : goal.loop-index-preserved
loop-index-preserved c =
    let token = c.args.token.now in
    let keys = keys_of c.args.members.now in
    let P : ℕ → Type 0 = λ k. (d : List ℕ) → bytes_eq (decoded token) (get_or keys k d) ≡ false in
    below_more P c.loop-index.index c.loop-index.invariant
    (λ d. key_tried token c.as_bytes.result.now keys c.loop-index.index c.key_at.result.now c.as_bytes-in-loop-index.result.now d c.decodes_to.result c.key_at.ensures c.as_bytes.ensures.value (c.as_bytes-in-loop-index.ensures.value ∙ c.as_str.ensures) c.decodes_to.ensures ∙ c.if-decodes_to.false)

pub returns : goal.returns
returns c =
    let keys = keys_of c.args.members.now in
    let count = length-map c.args.members.now (λ p. p.0) in
    sym (position_nowhere (bytes_eq (decoded c.args.token.now)) keys [] (λ k below. c.loop-index.invariant k (omega (arith, below, count, c.len-index-end.ensures.value, c.loop-index-test.false)) []))
