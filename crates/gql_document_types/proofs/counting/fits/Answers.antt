use Rattle.std.proofs.Common.{Some, None, refl, ◌∙◌}
use Rattle.gql_document_types.specs.Count.{count}
use Rattle.gql_document_types.specs.Expanded.{expanded}
use Rattle.gql_document_types.proofs.CountCalls.{right-start, fits-told}
use Rattle.gql_document_types.proofs.counting.fits.Goals as goal

pub all-requires : goal.all-requires
all-requires c = record {
  contents = c.requires.contents;
  right = right-start c.args.fragments.now c.args.limit c.as_mut_slice.result.now c.len.result
      (c.as_mut_slice.ensures.value ∙ c.in_ok-memo.ensures.items_if_clones_equal (elim [ None ↦ λ e. refl | Some x ↦ λ e. absurd e ]))
      c.len.ensures.value;
}

pub returns : goal.returns
returns c =
    fits-told c.args.limit (count (expanded c.args.fragments.now c.args.selections.now)) c.all.result c.is_some.result c.all.ensures.counted c.is_some.ensures
