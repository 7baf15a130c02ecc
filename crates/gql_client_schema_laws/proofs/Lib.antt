pub mod Pairs
pub mod References
mod Seconds
mod Tops
mod Found
mod Subtypes
mod ValueRules
mod Literals
mod Uses
mod InputRules
mod PartRules
mod InterfaceRules
mod Marks
mod Cycles
mod Ranks
mod DirectiveGraph
mod Names
pub mod Lists
mod Parts
mod OwnTypes
mod Roots
mod Definitions
mod Rebuilt
mod LookUps
mod RootRules
mod BuiltIns
pub mod Given
mod Settled
mod Steps
mod Levels
mod ReadBack
mod Duplicates
mod Retold
mod ValidAgain
mod StandardRows
mod BuiltInParts
mod PrintedAgain
-- What each object of introspection is answered with.
mod Forms
mod Fits
mod Arguments
mod Sets
mod Making
mod Leaves
mod Objects
mod MadeReferences
mod Spread
mod Inputs
mod MadeParts
mod TypeParts
mod TypeSets
mod SchemaSet
mod FieldsFound
mod Answered
-- The document.
mod SpreadTokens
mod Known
mod Built
mod Defined
mod Document
mod QueryGiven
-- The types of introspection in a schema.
mod BuiltInFields
mod BuiltInTypes
mod Introspecting
