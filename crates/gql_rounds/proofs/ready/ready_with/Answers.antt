use Rattle.std.proofs.Common.{rules, ◌≡◌, sym, ap, ◌∙◌, subst}
use Rattle.std.proofs.lemmas.Result.{IfOk-weaker}
use Rattle.gql_document_types.specs.ChosenOperation.{IsChosen, text_of}
use Rattle.gql_document_types.specs.declared.document.ExecutableDocument.{ExecutableDocument}
use Rattle.gql_engine.specs.AnswerError.{wanted_with}
use Rattle.gql_engine.specs.Service.{asked_of}
use Rattle.gql_rounds.specs.bridge.Ready.{FindsOperation, FindsReady, IsPassed}
use Rattle.gql_rounds.proofs.Readies.{chosen-passed, finds-ready, none-chosen, none-passed, not-shallow}
use Rattle.gql_rounds.proofs.ready.ready_with.Goals as goal

pub is_shallow-requires : goal.is_shallow-requires
is_shallow-requires g c = c.valid_documents_run.ensures.acyclic c.args.schema.now c.args.question.now.query.now c.args.document.now c.requires

pub returns-in_default : goal.returns-in_default
returns-in_default g c = λ text is_schema.
    let wanted = wanted_with (asked_of text c.args.question.now) c.args.values.now in
    none-chosen c.texts_have_one_schema.ensures.schema c.texts_have_one_document_each.ensures.document wanted c.args.schema.now c.args.document.now is_schema c.requires
    (none-passed (text_of c.args.question.now.operation_name) c.args.document.now.operations c.operations_get-chosen.result
    (subst (λ (d : ExecutableDocument). IsChosen (text_of c.args.question.now.operation_name) d.operations c.operations_get-chosen.result) c.as_ref.ensures c.operations_get-chosen.ensures)
    (subst (IsPassed c.operations_get-chosen.result) c.in_default.is c.in_ok-found.ensures))

pub returns-then-shallow : goal.returns-then-shallow
returns-then-shallow g c = λ text is_schema.
    let wanted = wanted_with (asked_of text c.args.question.now) c.args.values.now in
    let schema = c.args.schema.now in
    let document = c.args.document.now in
    let operation = c.in-Some.operation.now in
    let is_chosen = chosen-passed (text_of c.args.question.now.operation_name) document.operations c.operations_get-chosen.result
    (subst (λ (d : ExecutableDocument). IsChosen (text_of c.args.question.now.operation_name) d.operations c.operations_get-chosen.result) c.as_ref.ensures c.operations_get-chosen.ensures)
    c.in-Some.operation (subst (IsPassed c.operations_get-chosen.result) c.in-Some.is c.in_ok-found.ensures) in
    IfOk-weaker c.ready_operation.result (FindsOperation schema operation c.args.values.now) (FindsReady wanted schema document)
    (λ found is. finds-ready c.texts_have_one_schema.ensures.schema c.texts_have_one_document_each.ensures.document wanted schema document is_schema c.requires operation is_chosen
    (c.in_ok-shallow.ensures.0 c.if-shallow.true) found is) c.ready_operation.ensures

pub returns-else-shallow : goal.returns-else-shallow
returns-else-shallow g c = λ text is_schema.
    let wanted = wanted_with (asked_of text c.args.question.now) c.args.values.now in
    let document = c.args.document.now in
    let is_chosen = chosen-passed (text_of c.args.question.now.operation_name) document.operations c.operations_get-chosen.result
    (subst (λ (d : ExecutableDocument). IsChosen (text_of c.args.question.now.operation_name) d.operations c.operations_get-chosen.result) c.as_ref.ensures c.operations_get-chosen.ensures)
    c.in-Some.operation (subst (IsPassed c.operations_get-chosen.result) c.in-Some.is c.in_ok-found.ensures) in
    not-shallow c.texts_have_one_schema.ensures.schema c.texts_have_one_document_each.ensures.document wanted c.args.schema.now document is_schema c.requires
    c.in-Some.operation.now is_chosen (λ shallow. let e = c.in_ok-shallow.ensures.1 shallow in absurd (search rules))
