use Rattle.gql_ast_reader.proofs.read.read_definitions.Given as goal

abbrev pub ghosts-read_told : goal.ghosts-read_told
ghosts-read_told a = record { text = a.source.text.now; file = a.source.file_id }
