pub mod Html
