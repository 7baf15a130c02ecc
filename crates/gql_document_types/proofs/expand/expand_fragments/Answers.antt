use Rattle.gql_document_types.proofs.expand.expand_fragments.Goals as goal

pub fits-requires : goal.fits-requires
fits-requires c = record { contents = c.acyclic_fragments_have_contents.ensures c.args.document.now.fragments c.requires.acyclic }

pub replaced-requires : goal.replaced-requires
replaced-requires c = record { contents = c.acyclic_fragments_have_contents.ensures c.args.document.now.fragments c.requires.acyclic }
