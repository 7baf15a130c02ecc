mod Computed
mod Query
mod SelfTestSchema
mod BuiltIn
mod Leaves
mod Facts
mod Documents
mod Requests
mod Readings
pub mod Ways
mod Items
mod Results
mod InTurn
mod KeptTexts
mod Causes
mod Runs
mod Responses
mod Replies
mod SelfTests
mod Words
mod CommandRuns
mod Served
mod SelfTestRuns
mod LongInput
pub mod Resolving
