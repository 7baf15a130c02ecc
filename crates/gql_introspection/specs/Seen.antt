-- How contracts see the objects of introspection and what their fields give.
use Rattle.gql_introspection.specs.Meta.{Meta, schema_meta, type_def, wrapped, directive_def}
use Rattle.gql_introspection.specs.Meta.{field_def, enum_value_def, input_value_def}
use Rattle.gql_introspection.specs.declared.meta_object.MetaObject.{MetaObject}
use Rattle.gql_introspection.specs.declared.meta_object.MetaObject.TheVariants.{SchemaMeta, TypeDef, Wrapped, DirectiveDef}
use Rattle.gql_introspection.specs.declared.meta_object.MetaObject.TheVariants.{FieldDef, EnumValueDef, InputValueDef}

-- what an object stands for, wherever in memory that lies
abbrev pub stands_for : MetaObject → Meta
stands_for (SchemaMeta schema) = schema_meta schema.now
stands_for (TypeDef schema ty) = type_def schema.now ty.now
stands_for (Wrapped schema ty stripped) = wrapped schema.now ty.now stripped
stands_for (DirectiveDef schema directive) = directive_def schema.now directive.now
stands_for (FieldDef schema field) = field_def schema.now field.now
stands_for (EnumValueDef schema value) = enum_value_def schema.now value.now
stands_for (InputValueDef schema value) = input_value_def schema.now value.now
