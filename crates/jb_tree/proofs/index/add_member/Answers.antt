use Rattle.std.proofs.Common.{List, ℕ, IsSome, [], ◌∷◌, ◌++◌, sym, ap, ◌∙◌, subst}
use Rattle.std.specs.Str.{bytes_eq}
use Rattle.std.specs.Map.{lookup}
use Rattle.jb_tree.specs.declared.value.Value.{Value, Null}
use Rattle.jb_tree.specs.Places.{there-with_key}
use Rattle.jb_tree.proofs.Members.{with_key-present, with_key-absent}
use Rattle.jb_tree.proofs.index.add_member.Goals as goal

abbrev Found : List ℕ → List (List ℕ × Value) → Type 0
Found key es = IsSome (lookup (bytes_eq key) es)

pub returns-in-Some-clause-added : goal.returns-in-Some-clause-added
returns-in-Some-clause-added c = with_key-present c.args.key.now c.args.members.now c.in-Some.field-0 c.in-Some.ensures

pub returns-in-Some-clause-there : goal.returns-in-Some-clause-there
returns-in-Some-clause-there c =
    let key = c.args.key.now in
    let es = c.args.members.now in
    subst (Found key) (sym (with_key-present key es c.in-Some.field-0 c.in-Some.ensures)) (there-with_key key es)

pub returns-in_ok-insert_new-in-None-clause-added : goal.returns-in_ok-insert_new-in-None-clause-added
returns-in_ok-insert_new-in-None-clause-added c =
    let es = c.args.members.now in
    c.in_ok-insert_new-in-None.ensures.pairs ∙ ap (λ k. es ++ (k, Null) ∷ []) c.in_ok-text-in-None.ensures ∙ with_key-absent c.args.key.now es c.in-None.ensures

pub returns-in_ok-insert_new-in-None-clause-there : goal.returns-in_ok-insert_new-in-None-clause-there
returns-in_ok-insert_new-in-None-clause-there c =
    let es = c.args.members.now in
    subst (Found c.args.key.now) (sym (c.in_ok-insert_new-in-None.ensures.pairs ∙ ap (λ k. es ++ (k, Null) ∷ []) c.in_ok-text-in-None.ensures ∙ with_key-absent c.args.key.now es c.in-None.ensures)) (there-with_key c.args.key.now es)
