pub mod FromJson
