use Rattle.gql_checker.proofs.Roots.{rooted}
use Rattle.gql_checker.proofs.checking.check_ready.Goals as goal

pub check_response-requires : goal.check_response-requires
check_response-requires g c =
    let ready = c.args.ready.now in
    let wanted = c.requires.0 in
    let is = c.requires.3 in
    record {
      acyclic = c.valid_documents_run.ensures.acyclic ready.schema.now wanted.query ready.document.now is.meant.is_document;
      root = rooted ready.schema.now ready.document.now wanted.operation_name ready.operation.now
          (c.roots_are_object_types.ensures.text wanted.schema ready.schema.now is.meant.is_schema)
          (c.valid_documents_run.ensures.roots ready.schema.now wanted.query ready.document.now is.meant.is_document) is.is_chosen;
    }
