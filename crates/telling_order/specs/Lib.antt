pub mod AnyOrder
pub mod Headline
pub mod OneGo
pub mod SeenCalls
