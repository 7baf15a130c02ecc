pub mod Depth
pub mod DepthGuarding
pub mod Refusal
pub mod Stack
pub mod StackGuarding
