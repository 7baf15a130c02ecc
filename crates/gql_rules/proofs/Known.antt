-- Variables of an operation by their names.
use Rattle.std.proofs.Common.{◌≡◌, ℕ, List, [], ◌∷◌, ◌++◌, map, position, Option, Some, None, refl, sym, ap, ◌∙◌}
use Rattle.std.specs.Option.{option_map}
use Rattle.std.proofs.lemmas.List.{map-append}
use Rattle.gql_ast.specs.declared.operation.VariableDefinition.{VariableDefinition}
use Rattle.gql_rules.proofs.Entries.{find-map, entry-joined}
use Rattle.gql_rules.specs.bridge.Operations.{own_name, definition_of, definitions_of}
use Rattle.gql_rules.specs.UndefinedVariable.{variable_name, variable_called}
use Rattle.gql_rules.specs.declared.variables.Variable.{Variable}
use Rattle.gql_schema_types.proofs.Joins.{put_new-missing, put_new-found}
use Rattle.gql_schema_types.proofs.Lookups.{missing, absent}
use Rattle.gql_schema_types.specs.Entries.{is_called, entry, joined, put_new}

entry_seen : (name : List ℕ) (table : List Variable) → option_map definition_of (entry own_name name table) ≡ entry variable_name name (definitions_of table)
entry_seen name table = find-map definition_of (is_called variable_name name) table

-- those of a table are those of the list that it was made of
pub known : (table : List Variable) (definitions : List VariableDefinition) → definitions_of table ≡ joined variable_name [] definitions
    → (name : List ℕ) → option_map definition_of (entry own_name name table) ≡ variable_called definitions name
known table definitions are name =
    entry_seen name table ∙ ap (entry variable_name name) are ∙ entry-joined (λ (variable : VariableDefinition). variable.name.text) name [] definitions

pub one_there : (definition : VariableDefinition) (table : List Variable) (i : ℕ) → position (is_called own_name definition.name.text) table ≡ Some i
    → definitions_of table ≡ put_new variable_name (definitions_of table) definition
one_there definition table i is = by_entry (entry own_name definition.name.text table) refl
  where
    by_entry : (o : Option Variable) → entry own_name definition.name.text table ≡ o → definitions_of table ≡ put_new variable_name (definitions_of table) definition
    by_entry None none = absurd (let no : None ≡ Some i = sym (absent (is_called own_name definition.name.text) table none) ∙ is in cc)
    by_entry (Some first) some =
        sym (put_new-found variable_name definition (definition_of first) (definitions_of table) (sym (entry_seen definition.name.text table) ∙ ap (option_map definition_of) some))

pub one_more : (variable : Variable) (table : List Variable) → position (is_called own_name (own_name variable).text) table ≡ None
    → definitions_of (table ++ variable ∷ []) ≡ put_new variable_name (definitions_of table) (definition_of variable)
one_more variable table none =
    map-append definition_of table (variable ∷ [])
    ∙ sym (put_new-missing variable_name (definition_of variable) (definitions_of table)
    (sym (entry_seen (own_name variable).text table) ∙ ap (option_map definition_of) (missing (is_called own_name (own_name variable).text) table none)))
