-- Words, rules, the grammar as the standard writes it, trees, and sentences.
pub mod Word
pub mod Spelling
pub mod Rule
pub mod Grammar
pub mod Factored
pub mod Starts
pub mod Row
pub mod Sentence
pub mod Reads
pub mod Nodes
pub mod bridge
