use Rattle.std.proofs.Common.{◌≡◌, List, [], ◌∷◌, sym, ap, ◌∙◌, subst}
use Rattle.std.proofs.lemmas.Result.{IfOk-weaker}
use Rattle.gql_collect.specs.Collected.{setting}
use Rattle.gql_collect.specs.Grouping.{groups_seen}
use Rattle.gql_collect.specs.Groups.{SameGroups, applying}
use Rattle.gql_document_types.specs.declared.selection.Selection.{Selection}
use Rattle.gql_gateway.specs.Joined.{AreApart, keys_on}
use Rattle.gql_gateway.specs.bridge.KeysSeen.{keys_seen}
use Rattle.gql_gateway.specs.declared.root_key.RootKey.{RootKey}
use Rattle.gql_gateway.proofs.ApartKeys.{keys-on-apart}
use Rattle.gql_gateway.proofs.SeenKeys.{keys-collected, sets-are}
use Rattle.gql_gateway.proofs.root_key.keys_on.Goals as goal

pub returns-clause-keys : goal.returns-clause-keys
returns-clause-keys g c =
    let s = setting c.args.document.now.fragments c.args.schema.now c.args.object.now c.args.variables.now in
    let selections = c.args.operation.now.selection_set.selections in
    let grouped = c.in_ok-grouped.grouped in
    let sets = sets-are c.add.new.self c.new-pieces.result _ c.in_ok-add.ensures.added c.new-pieces.ensures in
    let same = subst (λ (all : List (List Selection)). SameGroups (groups_seen grouped) (applying s all)) sets c.in_ok-grouped.ensures.groups in
    IfOk-weaker c.keys_of.result (λ (keys : List RootKey). keys ≡ keys_seen grouped) (λ keys. keys ≡ keys_on s selections)
    (λ keys is. is ∙ keys-collected s selections grouped same) c.keys_of.ensures

pub returns-clause-apart : goal.returns-clause-apart
returns-clause-apart g c =
    let s = setting c.args.document.now.fragments c.args.schema.now c.args.object.now c.args.variables.now in
    let selections = c.args.operation.now.selection_set.selections in
    let grouped = c.in_ok-grouped.grouped in
    let sets = sets-are c.add.new.self c.new-pieces.result _ c.in_ok-add.ensures.added c.new-pieces.ensures in
    let same = subst (λ (all : List (List Selection)). SameGroups (groups_seen grouped) (applying s all)) sets c.in_ok-grouped.ensures.groups in
    IfOk-weaker c.keys_of.result (λ (keys : List RootKey). keys ≡ keys_seen grouped) AreApart
    (λ keys is. subst AreApart (sym (is ∙ keys-collected s selections grouped same)) (keys-on-apart s selections)) c.keys_of.ensures
