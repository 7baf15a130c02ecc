use Rattle.std.proofs.Common.{sym, subst}
use Rattle.gql_client_schema.specs.ClientSchema.{ComesFor, IsRefused}
use Rattle.gql_client_schema.proofs.OneConstant.{one_constant}
use Rattle.gql_client_schema.proofs.OneMaking.{made_is, refused_is, exact_is, read_refused, read_exact}
use Rattle.gql_client_schema.proofs.making.client_schema.Goals as goal

pub returns-in-Ok : goal.returns-in-Ok
returns-in-Ok c =
    let bytes = c.args.answer.now in
    let value = c.in-Ok.value in
    let spells = c.in-Ok.ensures.spelled in
    let trees = c.texts_have_one_tree.ensures in
    let schemas = c.texts_have_one_schema.ensures in
    let texts = c.each_text_has_one_answer.ensures in
    record {
      made = made_is bytes value c.made_of.result spells c.made_of.ensures;
      refused = refused_is bytes value c.made_of.result spells c.made_of.ensures;
      exact = λ fault cause. exact_is (λ text. one_constant trees.tree trees.ends text) schemas.no_faults schemas.faults value texts.value texts.not_both bytes
          c.made_of.result spells c.made_of.ensures fault cause;
    }

pub returns-in-Err : goal.returns-in-Err
returns-in-Err c =
    let bytes = c.args.answer.now in
    let texts = c.each_text_has_one_answer.ensures in
    let broken = c.in-Err.ensures.broken in
    record {
      made = tt;
      refused = subst (IsRefused bytes) (sym c.unread.ensures) (read_refused bytes c.in-Err.refused broken);
      exact = λ fault cause. subst (ComesFor fault) (sym c.unread.ensures) (read_exact texts.fault texts.not_both bytes c.in-Err.refused broken fault cause);
    }
