pub mod LawLemmas
pub mod LineLemmas
pub mod PanelLemmas
pub mod WishLemmas
